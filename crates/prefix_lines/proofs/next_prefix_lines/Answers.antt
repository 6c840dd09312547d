-- Writes each line of a shape as its kind letter, the line with the mark in place, and 0A.
use Rattle.prefix_lines.proofs.CallLaws.{plain-answer}
use Rattle.prefix_lines.proofs.next_prefix_lines.Goals as goal

pub returns : goal.returns
returns c =
    let a = c.args in
    plain-answer a.shape a.renderer a.mark a.out.now c.write_shape.ensures
