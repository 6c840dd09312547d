-- Laws of the definitions in specs/Cells.antt: a cell, one that the row does not reach, and an array that is filled with cells.
use Prim.Native.Nat.{ℕ, zero, suc, ◌+◌, ◌-◌, ◌≤◌, ◌<◌}
use mathlib.Core.Path.{◌≡◌, refl, ap, ap₂, ◌∙◌, sym}
use mathlib.Core.Bool.{Bool, true, false, cond, not, ◌&&◌}
use mathlib.Core.List.{List, [], ◌∷◌, ◌++◌, append_assoc, append-nil}
use native.Mathlib.Numerals.{add-one}
use native.Mathlib.Omega.{arith}
use lib.Dec.{eqb}
use lib.ListN.{length, get_or, set, replicate}
use lib.Seq.{set_at}
use Rattle.column.specs.declared.Column.{Column}
use Rattle.column.specs.declared.Column.TheVariants.{Empty, Blocked, Reserved, Ancestor, Parent}
use Rattle.column.specs.Columns.{is_parent, is_ancestor}
use Rattle.render.specs.declared.render.LinkLine.{LinkLine}
use Rattle.render.specs.declared.render.Marks.{Marks}
use Rattle.render.specs.declared.render.NodeLine.{NodeLine}
use Rattle.render.specs.declared.render.PadLine.{PadLine}
use Rattle.render.specs.Lines.{blank_cell}
use Rattle.render.specs.Link.{joined, strokes, unmarked, link_of}
use Rattle.links.specs.declared.Drawn.{Drawn}
use Rattle.links.specs.declared.Drawn.TheVariants.{Nobody}
use Rattle.links.specs.declared.AncestorColumnBounds.{AncestorColumnBounds}
use Rattle.links.specs.declared.Swap.{Swap}
use Rattle.links.specs.Links.{is_drawn, is_anonymously_drawn, is_at, passes_solid, passes_dashed, from_node, with_uprights}
use Rattle.links.proofs.LinkLaws.{not-drawn, passing-is, Unreached}
use Rattle.cells.specs.Cells.{pad_of, node_cell, link_cell, cell_of, cells_from}
use Rattle.cells.specs.Inner.{plain_cell, passed_by, cell_with}

-- ---- a cell
pub cell-done : (need : Bool) (b : AncestorColumnBounds) (w : Swap) (i : ℕ) (d : Drawn) (old new : Column) (own all : Marks) (gone : Bool)
    (node : NodeLine) (link link-own : LinkLine) (pad : PadLine) (term parent : Bool)
    → own ≡ from_node b w i d → gone ≡ is_at w.given_up i → all ≡ with_uprights gone old own → node ≡ node_cell i b.target old
    → link ≡ link_cell need all → link-own ≡ link_cell need own → pad ≡ pad_of new → term ≡ is_anonymously_drawn d → parent ≡ is_drawn d
    → record { node = node; link = link; link_from_node = link-own; term = term; ancestry = pad; parent = parent } ≡ cell_of need b w i d old new
cell-done need b w i d old new own all gone node link link-own pad term parent e1 e2 e3 e4 e5 e6 e7 e8 e9 =
    rw (e4, e5, e6, e7, e8, e9, e3, e2, e1)

-- what the test says: the cell is not the node's, nobody draws in it, and it was not given up
pub nothing_ends : (i c : ℕ) (drawn gone : Bool) → (not (eqb i c) && (not drawn && not gone)) ≡ true → (eqb i c ≡ false) × (drawn ≡ false) × (gone ≡ false)
nothing_ends i c drawn gone = go (eqb i c) drawn gone
  where
    go : (x y z : Bool) → (not x && (not y && not z)) ≡ true → (x ≡ false) × (y ≡ false) × (z ≡ false)
    go false false false h = (refl, refl, refl)
    go true y z h = let t : ◌≡◌ {A = ℕ} 0 1 = cc in absurd (omega arith)
    go false true z h = let t : ◌≡◌ {A = ℕ} 0 1 = cc in absurd (omega arith)
    go false false true h = let t : ◌≡◌ {A = ℕ} 0 1 = cc in absurd (omega arith)

-- a cell that the row does not reach is plain
plain-is : (need : Bool) (b : AncestorColumnBounds) (w : Swap) (i : ℕ) (c : Column) (ds : List Drawn) → Unreached b w ds i → plain_cell need c ≡ cell_of need b w i Nobody c c
plain-is need b w i c ds u =
    cell-done need b w i Nobody c c unmarked (with_uprights false c unmarked) false _ _ _ _ false false
    (ap₂ strokes (sym u.no-solid) (sym u.no-dashed) ∙ passing-is b w i Nobody u.elsewhere refl u.kept) (sym u.kept) refl (rw u.elsewhere) refl refl refl refl refl

-- what holds of two truth values in each of the four cases
two : (f : Bool → Bool → Type 0) → f true true → f true false → f false true → f false false → (x y : Bool) → f x y
two f a b c d true true = a
two f a b c d true false = b
two f a b c d false true = c
two f a b c d false false = d

-- a column's line and the strokes that pass it, joined
abbrev Joins : Column → Bool → Bool → Type 0
Joins c x y = joined (link_of (with_uprights false c unmarked)) (link_of (strokes x y)) ≡ link_of (with_uprights false c (strokes x y))

joins : (c : Column) (x y : Bool) → Joins c x y
joins Empty = two (Joins Empty) refl refl refl refl
joins Blocked = two (Joins Blocked) refl refl refl refl
joins (Reserved n) = two (Joins (Reserved n)) refl refl refl refl
joins (Ancestor n) = two (Joins (Ancestor n)) refl refl refl refl
joins (Parent n) = two (Joins (Parent n)) refl refl refl refl

joined_is : (need : Bool) (c : Column) (x y : Bool) → joined (link_cell need (with_uprights false c unmarked)) (link_cell need (strokes x y)) ≡ link_cell need (with_uprights false c (strokes x y))
joined_is true c x y = joins c x y
joined_is false c x y = refl

-- a cell in which nothing of the row ends is the plain one with the strokes that pass it
passed_is : (need : Bool) (b : AncestorColumnBounds) (w : Swap) (i : ℕ) (c : Column) → eqb i b.target ≡ false → is_at w.given_up i ≡ false
    → passed_by (plain_cell need c) (link_cell need (strokes (passes_solid b w i) (passes_dashed b w i))) ≡ cell_of need b w i Nobody c c
passed_is need b w i c h g =
    let x : Bool = passes_solid b w i in
    let y : Bool = passes_dashed b w i in
    cell-done need b w i Nobody c c (strokes x y) (with_uprights false c (strokes x y)) false _ _ _ _ false false (passing-is b w i Nobody h refl g) (sym g) refl (rw h) (joined_is need c x y) refl refl refl refl

-- a column in which nothing of the row ends is after the swap what it was before the entries
abbrev pub Keeps : AncestorColumnBounds → Swap → ℕ → Drawn → Column → Column → Type 0
Keeps r w i d b s = d ≡ Nobody → eqb i r.target ≡ false → is_at w.given_up i ≡ false → b ≡ s

module _ (need : Bool) (b : AncestorColumnBounds) (w : Swap) (i : ℕ) (d : Drawn) (old new : Column) (k : Keeps b w i d old new) where
  -- so the cell that is drawn over the plain one is the definition's
  pub cell-is : cell_with need b w i d old new (plain_cell need new) ≡ cell_of need b w i d old new
  cell-is = go (not (eqb i b.target) && (not (is_drawn d) && not (is_at w.given_up i))) refl
    where
      go : (t : Bool) → (not (eqb i b.target) && (not (is_drawn d) && not (is_at w.given_up i))) ≡ t
          → cond t (passed_by (plain_cell need new) (link_cell need (strokes (passes_solid b w i) (passes_dashed b w i)))) (cell_of need b w i d old new) ≡ cell_of need b w i d old new
      go false q = refl
      go true q =
          let n = nothing_ends i b.target (is_drawn d) (is_at w.given_up i) q in
          let e : d ≡ Nobody = not-drawn d n.1 in
          let s : old ≡ new = k e n.0 n.2 in
          passed_is need b w i new n.0 n.2 ∙ rw (e, s)

  -- and the plain one is, where the row does not reach
  pub plain-cell-is : (ds : List Drawn) → Unreached b w ds i → get_or ds i Nobody ≡ d → plain_cell need new ≡ cell_of need b w i d old new
  plain-cell-is ds u f =
      let n : d ≡ Nobody = sym f ∙ u.nobody-draws in
      let s : old ≡ new = k n u.elsewhere u.kept in
      plain-is need b w i new ds u ∙ rw (n, s)

-- the plain cells are of three kinds
blank-plain : (need : Bool) → blank_cell ≡ plain_cell need Empty
blank-plain true = refl
blank-plain false = refl

pub plain-shown : (need : Bool) (c : Column) → cond (is_parent c) (plain_cell need (Parent 0)) (cond (is_ancestor c) (plain_cell need (Ancestor 0)) blank_cell) ≡ plain_cell need c
plain-shown need Empty = blank-plain need
plain-shown need Blocked = blank-plain need
plain-shown need (Reserved n) = blank-plain need
plain-shown need (Ancestor n) = refl
plain-shown need (Parent n) = refl

-- ---- an array that is filled from a function of the place
module _ {A : Type 0} (f : ℕ → A) (blank : A) where
  pub length-cells : (i n : ℕ) → length (cells_from f i n) ≡ n
  length-cells i zero = refl
  length-cells i (suc n) = ap suc (length-cells (suc i) n)

  cells-last : (i n : ℕ) → cells_from f i (suc n) ≡ cells_from f i n ++ (f (i + n) ∷ [])
  cells-last i zero = ap (λ (k : ℕ). f k ∷ []) (omega arith)
  cells-last i (suc n) =
      ap (λ (r : List A). f i ∷ r) (cells-last (suc i) n ∙ ap (λ (k : ℕ). cells_from f (suc i) n ++ (f k ∷ [])) (omega arith))

  -- one place more is filled
  pub cells-next : (n i : ℕ) (l : List A) (a : A) → i < n → a ≡ f i → l ≡ cells_from f 0 i ++ replicate (n - i) blank
      → set l i a ≡ cells_from f 0 (i + 1) ++ replicate (n - (i + 1)) blank
  cells-next n i l a h e q =
      let k : n - i ≡ suc (n - suc i) = omega arith in
      let w : l ≡ cells_from f 0 i ++ (blank ∷ replicate (n - suc i) blank) = q ∙ ap (λ (m : ℕ). cells_from f 0 i ++ replicate m blank) k in
      let z : cells_from f 0 (suc i) ≡ cells_from f 0 i ++ (f i ∷ []) = cells-last 0 i ∙ ap (λ (m : ℕ). cells_from f 0 i ++ (f m ∷ [])) (omega arith) in
      rw (add-one i, w, set_at (cells_from f 0 i) blank (replicate (n - suc i) blank) a i (length-cells 0 i), e)
      (sym (append_assoc (cells_from f 0 i) (f i ∷ []) (replicate (n - suc i) blank)) ∙ ap (λ (r : List A). r ++ replicate (n - suc i) blank) (sym z))

  pub cells-start : (n : ℕ) (l : List A) → l ≡ replicate n blank → l ≡ cells_from f 0 0 ++ replicate (n - 0) blank
  cells-start n l e = let k : n ≡ n - 0 = omega arith in rw e (ap (λ (m : ℕ). replicate m blank) k)

  -- what stands at a place
  cells-from : (i n : ℕ) (r : List A) (j : ℕ) → j < n → get_or (cells_from f i n ++ r) j blank ≡ f (i + j)
  cells-from i zero r j h = absurd (omega arith)
  cells-from i (suc n) r zero h = ap f (omega arith)
  cells-from i (suc n) r (suc j) h = cells-from (suc i) n r j (omega arith) ∙ ap f (omega arith)

  pub cells_at : (n : ℕ) (r : List A) (j : ℕ) → j < n → get_or (cells_from f 0 n ++ r) j blank ≡ f j
  cells_at n r j h = cells-from 0 n r j h ∙ ap f (omega arith)

  pub cells-inside : (n j : ℕ) → j < n → get_or (cells_from f 0 n) j blank ≡ f j
  cells-inside n j h = ap (λ (l : List A). get_or l j blank) (sym (append-nil (cells_from f 0 n))) ∙ cells_at n [] j h

  pub cells-past : (i n m j : ℕ) → n ≤ j → get_or (cells_from f i n ++ replicate m blank) j blank ≡ blank
  cells-past i zero zero j h = refl
  cells-past i zero (suc m) zero h = refl
  cells-past i zero (suc m) (suc j) h = cells-past i zero m j (omega arith)
  cells-past i (suc n) m zero h = absurd (omega arith)
  cells-past i (suc n) m (suc j) h = cells-past (suc i) n m j (omega arith)

  -- an array with the function's values and then blanks
  pub cells_are : (l : List A) (i n m : ℕ) → length l ≡ n + m → ((j : ℕ) → j < n → get_or l j blank ≡ f (i + j)) → ((j : ℕ) → n ≤ j → get_or l j blank ≡ blank)
      → l ≡ cells_from f i n ++ replicate m blank
  cells_are [] i zero zero e h g = refl
  cells_are [] i zero (suc m) e h g = absurd (omega arith)
  cells_are [] i (suc n) m e h g = absurd (omega arith)
  cells_are (x ∷ l) i zero zero e h g = absurd (omega arith)
  cells_are (x ∷ l) i zero (suc m) e h g =
      ap₂ (λ (y : A) (r : List A). y ∷ r) (g 0 (omega arith)) (cells_are l i zero m (omega arith) (λ j k. absurd (omega arith)) (λ j k. g (suc j) (omega arith)))
  cells_are (x ∷ l) i (suc n) m e h g =
      ap₂ (λ (y : A) (r : List A). y ∷ r) (h 0 (omega arith) ∙ ap f (omega arith))
      (cells_are l (suc i) n m (omega arith) (λ j k. h (suc j) (omega arith) ∙ ap f (omega arith)) (λ j k. g (suc j) (omega arith)))
