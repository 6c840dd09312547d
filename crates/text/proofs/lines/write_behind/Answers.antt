-- Writes what stands behind a finished prefix line: the blanks that it lacks, a blank, the message line and the end.
use native.Mathlib.Omega.{arith}
use Rattle.text.proofs.TextLineLaws.{behind-room, behind-done, filled}
use Rattle.text.proofs.lines.write_behind.Goals as goal

pub returns : goal.returns
returns c =
    let a = c.args in
    let n = c.trimmed_length-n in
    let room = behind-room a.blanks a.part.now n.result n.ensures.0 a.out.now c.requires c.if-n-eq0.false n.ensures.1 in
    behind-done a.blanks a.part.now _ n.ensures.0 a.out.now c.requires c.if-n-eq0.false n.ensures.1 _ _ _ (filled a.out.now a.blanks (omega (arith, room)) (c.fill.ensures.after (λ y e. e))) c.write_part.ensures
