-- The width call.
use borrow.Author.Rules.{rules}
use mathlib.Core.Path.{sym, ◌∙◌}
use Rattle.width.proofs.WidthLaws.{width-refused, width-done}
use Rattle.width.proofs.width.Goals as goal

pub returns-then-are_too_many : goal.returns-then-are_too_many
returns-then-are_too_many c =
    let a = c.args in
    width-refused a.shaper a.node a.entries (sym c.are_too_many.ensures ∙ c.if-are_too_many.true)

pub returns : goal.returns
returns c =
    let a = c.args in
    width-done a.shaper a.node a.entries (sym c.are_too_many.ensures ∙ c.if-are_too_many.false) (search rules) c.live_count-n.result c.empty_columns.result c.for_node-room.result
    c.unallocated_parents-unallocated.result c.saturating_sub-beyond.result c.saturating_sub.result c.live_count-n.ensures c.empty_columns.ensures c.for_node-room.ensures.left
    c.unallocated_parents-unallocated.ensures c.saturating_sub-beyond.ensures c.saturating_sub.ensures
