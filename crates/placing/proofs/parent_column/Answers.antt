-- The search for the entry's id; where no column holds it, an Empty column, else a new last one.
use borrow.Author.Rules.{rules}
use mathlib.Core.Path.{◌≡◌, ap, sym, ◌∙◌}
use native.Mathlib.Omega.{arith}
use Rattle.std.specs.Prelude.{unwrap_or}
use Rattle.column.specs.Columns.{is_empty, live, first, find_empty}
use lib.ListN.{length}
use Rattle.slices.proofs.Front.{length_front}
use Rattle.column.proofs.Laws.{column_of, find-empty-hit, find-empty-miss, find-empty-out}
use Rattle.placing.specs.Placing.{held_by}
use Rattle.placing.proofs.PlacingLaws.{held-live, parent-column-held, parent-column-free, parent-column-else}
use Rattle.placing.proofs.parent_column.Goals as goal
use Rattle.placing.proofs.parent_column.Goals.{After-first_holding, After-first_empty, else-column-n-via-then-column-n+else-is_empty, else-column-n-via-else-column-n}

-- what the search found, by the columns
held : (c : After-first_holding) → held_by c.args.ancestor (live c.args.count c.args.slots) ≡ c.first_holding.result
held c =
    let a = c.args in
    sym (c.first_holding.ensures ∙ held-live c.live_count-n.result a.count a.slots a.ancestor c.live_count-n.ensures (search rules))

-- where the node's own column is not Empty, the first Empty one is what is found
not_own : (c : After-first_empty) → find_empty c.args.column (live c.args.count c.args.slots) ≡ first is_empty (live c.args.count c.args.slots)
not_own c =
    let a = c.args in
    elim c.else-column-n.branch [
      | else-column-n-via-then-column-n+else-is_empty w ↦ find-empty-miss a.count a.slots a.column (omega (arith, w.if-column-n.true)) (omega (arith, w.if-column-n.true)) (sym w.is_empty.ensures ∙ w.if-is_empty.false)
      | else-column-n-via-else-column-n w ↦ find-empty-out a.count a.slots a.column (omega (arith, w.if-column-n.false))
    ]

pub returns-in-Some : goal.returns-in-Some
returns-in-Some c =
    let a = c.args in
    parent-column-held a.column a.ancestor (live a.count a.slots) _ (held (goal.at.returns-in-Some c).After-first_holding ∙ c.in-Some.is)

pub returns-then-is_empty : goal.returns-then-is_empty
returns-then-is_empty c =
    let a = c.args in
    parent-column-free a.column a.ancestor (live a.count a.slots) _ (held (goal.at.returns-then-is_empty c).After-first_holding ∙ c.in_default.is)
    (find-empty-hit a.count a.slots a.column (omega arith) (omega arith) (sym c.is_empty.ensures ∙ c.if-is_empty.true))

pub returns-in_default-first_empty : goal.returns-in_default-first_empty
returns-in_default-first_empty c =
    let a = c.args in
    let cs = live a.count a.slots in
    let n : c.live_count-n.result ≡ length cs = rw (length_front column_of a.count a.slots) (omega arith) in
    parent-column-else a.column a.ancestor cs _ c.first_empty.result (held (goal.at.returns-in_default-first_empty c).After-first_holding ∙ c.in_default.is)
    (not_own (goal.at.returns-in_default-first_empty c).After-first_empty ∙ sym c.first_empty.ensures) (n ∙ ap (λ f. unwrap_or f (length cs)) (sym c.in_default-first_empty.is))

pub returns : goal.returns
returns c =
    let a = c.args in
    let cs = live a.count a.slots in
    parent-column-else a.column a.ancestor cs _ c.first_empty.result (held (goal.at.returns c).After-first_holding ∙ c.in_default.is)
    (not_own (goal.at.returns c).After-first_empty ∙ sym c.first_empty.ensures) (ap (λ f. unwrap_or f (length cs)) (sym c.in-Some-first_empty.is))
