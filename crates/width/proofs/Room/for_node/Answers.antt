-- What is left of the columns where a node may be considered.
use borrow.Author.Rules.{rules}
use mathlib.Core.Path.{sym, ◌∙◌}
use native.Mathlib.Omega.{arith}
use Rattle.width.proofs.WidthLaws.{room_apart}
use Rattle.width.proofs.Room.for_node.Goals as goal

pub returns-clause-left : goal.returns-clause-left
returns-clause-left c =
    let a = c.args in
    room_apart a.shaper a.self a.node c.in-Some.id c.live_count.result c.in-Some-previous_node_column.previous c.apart.result _ c.in-Some.is (sym c.find.ensures ∙ c.in-None.is)
    c.if-not-options.false (omega arith) c.in-Some-previous_node_column.is c.live_count.ensures (search rules) c.apart.ensures.left c.take_one-2.ensures.left
