-- The reserving call: an id already held, no column left, a column taken.
use borrow.Author.Rules.{rules}
use mathlib.Core.Path.{sym, ◌∙◌}
use native.Mathlib.Omega.{arith}
use Rattle.shaper.proofs.Laws.{held-done, full-done, room-done}
use Rattle.shaper.proofs.Shaper.reserve.Goals as goal

pub returns-in_default : goal.returns-in_default
returns-in_default c =
    let a = c.args in
    held-done a.self a.node _ (sym c.find.ensures ∙ c.in_default.is)

pub returns-then-index-ge-COLUMN_LIMIT : goal.returns-then-index-ge-COLUMN_LIMIT
returns-then-index-ge-COLUMN_LIMIT c =
    let a = c.args in
    full-done a.self a.node (sym c.find.ensures ∙ c.in-None.is) (search rules) (rw (← c.vacant-index.ensures) (omega arith))

pub returns : goal.returns
returns c =
    let a = c.args in
    room-done a.self a.node (sym c.find.ensures ∙ c.in-None.is) (search rules) _ _ c.vacant-index.ensures (omega arith) c.count_with.ensures
