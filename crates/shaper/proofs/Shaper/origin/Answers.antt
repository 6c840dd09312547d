-- Who started an id's line: by the first column that holds the id.
use borrow.Author.Rules.{rules}
use mathlib.Core.Path.{sym, ◌∙◌}
use native.Mathlib.Omega.{arith}
use Rattle.shaper.proofs.Laws.{started-found, found_within}
use Rattle.shaper.proofs.Shaper.origin.Goals as goal

pub offset_bounds-slots-index : goal.offset_bounds-slots-index
offset_bounds-slots-index c =
    let a = c.args in
    omega (arith, found_within a.self a.node _ (sym c.find.ensures ∙ c.in-Some.is) (search rules))

pub bounds-slots-index : goal.bounds-slots-index
bounds-slots-index c =
    let a = c.args in
    found_within a.self a.node _ (sym c.find.ensures ∙ c.in-Some.is) (search rules)

pub returns : goal.returns
returns c =
    let a = c.args in
    c.started.ensures ∙ started-found a.self a.node _ (sym c.find.ensures ∙ c.in-Some.is) (search rules)
