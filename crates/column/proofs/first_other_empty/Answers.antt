-- The first Empty column but column `skip`.
use mathlib.Core.Path.{sym, ◌∙◌}
use native.Mathlib.Omega.{arith}
use lib.ListN.{set}
use lib.Seq.{lt-length-set}
use Rattle.column.specs.Columns.{live, is_empty}
use Rattle.column.proofs.Laws.{first-hit, first-miss, live_at, live_below, other-empty}
use Rattle.column.specs.declared.Column.TheVariants.{Blocked}
use Rattle.column.proofs.first_other_empty.Goals as goal

pub returns-then-is_empty-place : goal.returns-then-is_empty-place
returns-then-is_empty-place c =
    let a = c.args in
    sym (c.loop-place.invariant ∙ first-hit is_empty (set (live a.count a.slots) a.skip Blocked) c.loop-place.place (lt-length-set (live a.count a.slots) a.skip Blocked (live_below a.count a.slots c.loop-place.place (omega arith) (omega arith)))
    (rw (other-empty (live a.count a.slots) a.skip c.loop-place.place (live_below a.count a.slots c.loop-place.place (omega arith) (omega arith)), live_at a.count a.slots c.loop-place.place (omega arith) (omega arith), ← c.is_empty.ensures) c.if-is_empty-place.true))

pub loop-place-preserved : goal.loop-place-preserved
loop-place-preserved c =
    let a = c.args in
    c.loop-place.invariant ∙ first-miss is_empty (set (live a.count a.slots) a.skip Blocked) c.loop-place.place (lt-length-set (live a.count a.slots) a.skip Blocked (live_below a.count a.slots c.loop-place.place (omega arith) (omega arith)))
    (rw (other-empty (live a.count a.slots) a.skip c.loop-place.place (live_below a.count a.slots c.loop-place.place (omega arith) (omega arith)), live_at a.count a.slots c.loop-place.place (omega arith) (omega arith), ← c.is_empty.ensures) c.if-is_empty-place.false)
