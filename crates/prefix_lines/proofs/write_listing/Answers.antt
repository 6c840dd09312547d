-- Writes each ASCII line of a shape as its kind letter, a colon, the line with the mark in place, `$`, and 0A.
use Rattle.prefix_lines.proofs.CallLaws.{listed_answer}
use Rattle.prefix_lines.proofs.write_listing.Goals as goal

pub returns : goal.returns
returns c =
    let a = c.args in
    listed_answer a.shape a.mark a.out.now c.write_shape.ensures
