-- Laws of cells and their places: a search over cells, and the place that a loop makes of two cells.
use mathlib.Core.Path.{◌≡◌, refl, sym, ap, ◌∙◌}
use mathlib.Core.Bool.{Bool, true, false}
use mathlib.Core.List.{List, [], ◌∷◌}
use Prim.Native.Nat.{ℕ, zero, suc, ◌+◌, ◌<◌, ◌≤◌, min}
use native.Mathlib.Nat.{not-suc-le-zero, le_of_suc-le-suc, add-zero, zero-add}
use native.Mathlib.Numerals.{add-one}
use native.Mathlib.Omega.{arith}
use lib.Dec.{ltb}
use lib.ListN.{length, get_or, take, drop}
use lib.Seq.{take_all}
use Rattle.column.specs.Columns.{column_limit}
use borrow.Author.Tests.{ltb-true, ltb-false}
use Rattle.render.specs.declared.render.LinkLine.{LinkLine}
use Rattle.render.specs.declared.types.Cell.{Cell}
use Rattle.glyphs.specs.declared.types.Place.{Place}
use Rattle.glyphs.specs.Row.{first_link, places}

pub length-places : (i : ℕ) (cs : List Cell) → length (places i cs) ≡ length cs
length-places i [] = refl
length-places i (c ∷ cs) = ap suc (length-places (suc i) cs)

-- a place by its index, with what is left behind it
place_at : (i j : ℕ) (cs : List Cell) (d : Place) (b : Cell) → j < length cs
    → get_or (places i cs) j d ≡ record { index = i + j; cell = get_or cs j b; next = first_link (drop (suc j) cs) }
place_at i j [] d b h = absurd (not-suc-le-zero h)
place_at i zero (c ∷ cs) d b h = rw (add-zero i)
place_at i (suc j) (c ∷ cs) d b h =
    let e : i + suc j ≡ suc i + j = omega arith in
    rw e (place_at (suc i) j cs d b (le_of_suc-le-suc h))

-- the place that a loop makes of a cell and the next one's link
pub place-made : (cells : List Cell) (i : ℕ) (b c : Cell) (d : Place) (next : LinkLine) → i < length cells → c ≡ get_or cells i b → next ≡ first_link (drop (i + 1) cells)
    → record { index = i; cell = c; next = next } ≡ get_or (places 0 cells) i d
place-made cells i b c d next h e f = rw (e, f, add-one i, place_at 0 i cells d b h, zero-add i)

-- a width past the room reads no more cells
pub cells-fitting : (cells : List Cell) (width n : ℕ) → length cells ≡ column_limit → n ≡ min width column_limit → take n cells ≡ take width cells
cells-fitting cells width n long fits = ap (λ (k : ℕ). take k cells) fits ∙ go (ltb width column_limit) refl
  where
    go : (b : Bool) → ltb width column_limit ≡ b → take (min width column_limit) cells ≡ take width cells
    go true e =
        let h : min width column_limit ≡ width = omega (arith, ltb-true width column_limit e) in
        ap (λ (n : ℕ). take n cells) h
    go false e =
        let h : column_limit ≤ width = ltb-false width column_limit e in
        let j : length cells ≤ min width column_limit = omega (arith, long) in
        take_all (min width column_limit) cells j ∙ sym (take_all width cells (omega (arith, long)))
