-- Writes the line that says what was refused, if there is room for it, and gives the count of its bytes.
use mathlib.Core.Path.{◌≡◌, refl, ◌∙◌}
use native.Mathlib.Omega.{arith}
use Rattle.render.specs.Refusals.{number}
use Rattle.steps.proofs.LineBytes.{no_line, line-length, line-written}
use Rattle.steps.proofs.write_refused.Goals as goal

pub returns-then-out-lt-LINE_ROOM : goal.returns-then-out-lt-LINE_ROOM
returns-then-out-lt-LINE_ROOM c =
    let a = c.args in
    let e = no_line a.out.now (number a.refusal) a.number c.if-out-lt-LINE_ROOM.true in (rw e refl, rw e refl)

pub returns : goal.returns
returns c =
    let a = c.args in
    let n = c.from.result in
    let e : n ≡ number a.refusal = c.from.ensures ∙ c.number.ensures in
    let f = c.write_number-at in
    let w = c.write_number in
    rw (← e)
    (omega (arith, f.ensures.0, w.ensures.0, line-length a.out.now n a.number c.if-out-lt-LINE_ROOM.false), line-written a.out.now n a.number c.if-out-lt-LINE_ROOM.false _ w.new.out f.result w.result f.ensures.2 f.ensures.0 w.ensures.0 f.ensures.1 w.ensures.1 w.ensures.2)
