-- R-9 is false of each wrong machine, on a list of one or two calls: the clause fails that it breaks.
use Prim.Native.Nat.{ℕ}
use mathlib.Core.Path.{◌≡◌, refl, ap, subst}
use mathlib.Core.Logic.{inl, inr}
use mathlib.Core.Bool.{false≢true}
use mathlib.Core.List.{List, [], ◌∷◌}
use mathlib.Core.Option.{none-ne-some}
use native.Mathlib.Omega.{arith}
use Rattle.column.specs.declared.Column.TheVariants as column
use Rattle.render.specs.declared.render.Ancestor.TheVariants.{Parent}
use Rattle.render.specs.declared.render.LinkLine.{LinkLine}
use Rattle.render.specs.declared.types.RowShape.{RowShape}
use Rattle.placing.specs.Placing.{place}
use Rattle.row_shape.specs.Row.{row}
use Rattle.glyphs.specs.declared.Renderer.TheVariants.{Curved}
use Rattle.glyphs.specs.Marks.{left_fork_parent, right_merge_parent}
use Rattle.marked.specs.Marked.{plain}
use Rattle.history.specs.Account.{Call, Row}
use Rattle.history.specs.Demand3.{Holds}
use Rattle.history.specs.Ours.{Item, Plain, ours}
use Rattle.history.specs.Wrong.{unswapping, far_from_own}
use Rattle.no_gap.specs.NoGap.{Ends, Reached, Leads}
use Rattle.no_gap.specs.Wrong.{with_marks, gapped, unforked, strayed, stray_fork, stray_merge, false_term, dropped_link, marked_unlinked, unmoved, elsewhere}

-- a row of three parents: from the node, in column 0, a link crosses column 1 to column 2
abbrev wide : List Item
wide = Plain (Row 1 (Parent 2 ∷ Parent 3 ∷ Parent 4 ∷ [])) ∷ []

-- ---- strokes that are missing
pub not-gapped : Leads (ours Curved) gapped plain wide → ⊥
unfolding row place
not-gapped k = false≢true (((k.0.whole refl).across 1).1 (2, inl (4, refl, refl), inl (omega arith, omega arith)))

pub not-unforked : Leads (ours Curved) unforked plain wide → ⊥
unfolding row place
not-unforked k = let z : ◌≡◌ {A = ℕ} 0 1 = (k.0.whole refl).left 2 0 (inl (inl (4, refl, refl), refl)) (omega arith) in omega arith

-- ---- forks and merges that lead nowhere

-- a row of two parents, in columns 0 and 1
abbrev two : List Item
two = Plain (Row 1 (Parent 2 ∷ Parent 3 ∷ [])) ∷ []

-- no link has an end in column 2, whatever the marks
nowhere : (f : RowShape → List LinkLine) (j : ℕ) → Ends 0 (Reached (ours Curved) (with_marks f) plain (Plain (Row 1 (Parent 2 ∷ Parent 3 ∷ [])))) 2 j → ⊥
unfolding row place
nowhere f j (inl (inl p, q)) = none-ne-some p.0 p.2
nowhere f j (inl (inr (inl p), q)) = false≢true p
nowhere f j (inl (inr (inr p), q)) = none-ne-some p.0 p.1
nowhere f j (inr (q, p)) = omega (arith, q)

pub not-stray-fork : Leads (ours Curved) stray_fork plain two → ⊥
unfolding row place
not-stray-fork k = let z : ◌≡◌ {A = ℕ} 1 0 = (k.0.whole refl).no_left 2 (λ j e l. nowhere (strayed left_fork_parent) j e) in omega arith

pub not-stray-merge : Leads (ours Curved) stray_merge plain two → ⊥
unfolding row place
not-stray-merge k = let z : ◌≡◌ {A = ℕ} 1 0 = (k.0.whole refl).no_right 2 (λ j e l. nowhere (strayed right_merge_parent) j e) in omega arith

-- ---- a link to a column that no entry has
pub not-false-term : Leads (ours Curved) false_term plain (Plain (Row 1 []) ∷ []) → ⊥
unfolding row place
not-false-term k = let z : ◌≡◌ {A = ℕ} 1 0 = k.0.terms refl in omega arith

-- ---- link lines
pub not-dropped-link : Leads (ours Curved) dropped_link plain two → ⊥
unfolding row place
not-dropped-link k = let z : ◌≡◌ {A = ℕ} 1 0 = (k.0.unlinked refl refl).straight 1 (inl (3, refl, refl)) in omega arith

pub not-marked-unlinked : Leads (ours Curved) marked_unlinked plain (Plain (Row 1 []) ∷ []) → ⊥
unfolding row place
not-marked-unlinked k = let z : ◌≡◌ {A = ℕ} 4096 0 = ap (λ (m : LinkLine). m.bits) ((k.0.unlinked refl refl).unmarked 0) in omega arith

-- ---- where a named parent waits

-- a row of two parents, of which the second waits to the right, and then the first's own row, with the second as its one parent entry
abbrev pulled_row : List Call
pulled_row = Row 1 (Parent 2 ∷ Parent 3 ∷ []) ∷ Row 2 (Parent 3 ∷ []) ∷ []

pub not-unmoved : Leads unswapping unmoved (plain, plain) pulled_row → ⊥
unfolding row place
not-unmoved k =
    let w = (k.1.0.parents refl 3 refl).waits in
    let z : w.0 ≡ 0 = w.2 1 refl (refl, refl, omega arith) in
    none-ne-some 3 (subst (λ (t : ℕ). Holds (column.Empty ∷ column.Parent 3 ∷ []) t 3) z w.1)

pub not-elsewhere : Leads far_from_own elsewhere (plain, plain) (Row 1 (Parent 2 ∷ []) ∷ Row 2 [] ∷ []) → ⊥
unfolding row place
not-elsewhere k = none-ne-some 2 ((k.0.parents refl 2 refl).arrives.0 (refl, refl))
