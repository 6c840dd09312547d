-- Laws of a shape's bytes, written cell by cell.
use Prim.Native.Nat.{ℕ, ◌+◌, ◌*◌, ◌-◌, ◌<◌, ◌≤◌, min}
use mathlib.Core.Path.{◌≡◌, refl, sym, ap, ◌∙◌}
use mathlib.Core.Bool.{Bool, true, false}
use mathlib.Core.List.{List, [], ◌∷◌, ◌++◌, append_assoc, append-nil}
use native.Mathlib.Numerals.{add-one}
use native.Mathlib.Omega.{arith}
use borrow.Author.Tests.{ltb-true, ltb-false}
use lib.Dec.{ltb}
use lib.ListN.{length, get_or, take, drop, length-append, length-take}
use lib.Seq.{take_all, take-suc, length-take-le, drop-append-add, drop-drop}
use Rattle.std.specs.Prelude.{Some}
use Rattle.column.specs.Columns.{column_limit}
use Rattle.render.specs.declared.types.Cell.{Cell}
use Rattle.render.specs.declared.types.RowShape.{RowShape}
use Rattle.slices.specs.Joins.{joins, over, Writes}
use Rattle.slices.proofs.JoinLaws.{joins-append}
use Rattle.slices.proofs.OverLaws.{part-written, wrote, part_room}
use Rattle.whole_history.specs.Shapes.{cell_bytes, head_bytes, shape_bytes, Puts}

-- a shape's array has 64 cells
pub cells-long : (l : List Cell) → length l ≡ 64 → length l ≡ column_limit
cells-long l e = e

-- twelve bytes of the row, eight of each cell
head-length : (g : RowShape) → length (head_bytes g) ≡ 12
unfolding head_bytes
head-length g = refl

pub cell-length : (c : Cell) → length (cell_bytes c) ≡ 8
unfolding cell_bytes
cell-length c = refl

cells-length : (l : List Cell) → length (joins cell_bytes l) ≡ 8 * length l
cells-length [] = refl
cells-length (c ∷ l) = rw (length-append (cell_bytes c) (joins cell_bytes l), cell-length c, cells-length l) (omega arith)

-- more bytes over those that were written
over-more : (xs ys d : List ℕ) → over (xs ++ ys) (over xs d) ≡ over (xs ++ ys) d
over-more xs ys d = ap (λ (l : List ℕ). (xs ++ ys) ++ l) same
  where
    same : drop (length (xs ++ ys)) (xs ++ drop (length xs) d) ≡ drop (length (xs ++ ys)) d
    same = rw (length-append xs ys, drop-append-add xs (drop (length xs) d) (length ys)) (drop-drop (length ys) (length xs) d)

-- what is written once the first i cells are
abbrev pub up_to : RowShape → ℕ → List ℕ
up_to g i = head_bytes g ++ joins cell_bytes (take i g.cells)

module _ (g : RowShape) where
  head-written : (d : List ℕ) {o bs : List ℕ} {r : ℕ} → bs ≡ head_bytes g → Writes bs d o r → 12 ≤ length d → o ≡ over (head_bytes g) d
  head-written d {o} {bs} {r} b w h = wrote bs d o r w (omega (arith, ap length b, head-length g)) ∙ ap (λ (x : List ℕ). over x d) b

  pub cells-none : (d : List ℕ) {o bs : List ℕ} {r : ℕ} → bs ≡ head_bytes g → Writes bs d o r → 12 ≤ length d → o ≡ over (up_to g 0) o
  cells-none d {o} b w h =
      let p : o ≡ over (head_bytes g) d = head-written d b w h in
      p ∙ sym (over-more (head_bytes g) [] d ∙ ap (λ (x : List ℕ). over x d) (append-nil (head_bytes g))) ∙ ap (over (up_to g 0)) (sym p)

  module _ (long : length g.cells ≡ column_limit) where
    up_to-length : (i : ℕ) → i ≤ column_limit → length (up_to g i) ≡ 12 + 8 * i
    up_to-length i h =
        rw (length-append (head_bytes g) (joins cell_bytes (take i g.cells)), head-length g, cells-length (take i g.cells), length-take-le i g.cells (omega arith)) refl

    pub cells-next : (i : ℕ) (z : Cell) (d : List ℕ) {o p bs : List ℕ} {r : ℕ} → o ≡ over (up_to g i) d → i < column_limit → bs ≡ cell_bytes (get_or g.cells i z)
        → Writes bs (take (length o - (12 + 8 * i)) (drop (12 + 8 * i) o)) p r → 12 + 8 * (i + 1) ≤ length o
        → take (12 + 8 * i) o ++ (p ++ drop (length o - (12 + 8 * i)) (drop (12 + 8 * i) o)) ≡ over (up_to g (i + 1)) d
    cells-next i z d {o} {p} {bs} {r} e h b w k =
        let n : 12 + 8 * i ≡ length (up_to g i) = sym (up_to-length i (omega arith)) in
        let m : length bs ≤ length (take (length o - (12 + 8 * i)) (drop (12 + 8 * i) o)) = omega (arith, ap length b, cell-length (get_or g.cells i z), part_room o (12 + 8 * i)) in
        part-written (up_to g i) bs d e n (wrote bs (take (length o - (12 + 8 * i)) (drop (12 + 8 * i) o)) p r w m) ∙ ap (λ (x : List ℕ). over x d) next
      where
        next : up_to g i ++ bs ≡ up_to g (i + 1)
        next = rw b (append_assoc (head_bytes g) (joins cell_bytes (take i g.cells)) (cell_bytes (get_or g.cells i z)) ∙ ap (λ (x : List ℕ). head_bytes g ++ x) (sym one))
          where
            in_cells : i < length g.cells
            in_cells = omega arith

            one : joins cell_bytes (take (i + 1) g.cells) ≡ joins cell_bytes (take i g.cells) ++ cell_bytes (get_or g.cells i z)
            one = rw (add-one, take-suc g.cells i z in_cells, joins-append, append-nil)

    module _ (w : ℕ) (m : w ≡ min g.width column_limit) where
      shape-length : length (shape_bytes g) ≡ 12 + 8 * w
      shape-length =
          rw (length-append (head_bytes g) (joins cell_bytes (take g.width g.cells)), head-length g, cells-length (take g.width g.cells), length-take g.width g.cells)
          (omega arith)

      pub no_room : (d : List ℕ) → length d < 12 + 8 * w → length d < length (shape_bytes g)
      no_room d h = omega (arith, shape-length)

      pub shape-done : (i : ℕ) (d : List ℕ) {h o bs : List ℕ} {r : ℕ} → bs ≡ head_bytes g → Writes bs d h r → o ≡ over (up_to g i) h → i ≡ w → 12 + 8 * w ≤ length d
          → Puts (shape_bytes g) d o (Some (12 + 8 * w))
      shape-done i d {h} {o} b e f k r =
          let p : h ≡ over (head_bytes g) d = head-written d b e (omega arith) in (
            omega (arith, shape-length),
            sym shape-length,
            f ∙ rw p (over-more (head_bytes g) (joins cell_bytes (take i g.cells)) d) ∙ ap (λ (x : List Cell). over (head_bytes g ++ joins cell_bytes x) d) all,
          )
        where
          all : take i g.cells ≡ take g.width g.cells
          all = go (ltb g.width column_limit) refl
            where
              go : (t : Bool) → ltb g.width column_limit ≡ t → take i g.cells ≡ take g.width g.cells
              go true q =
                  let z : g.width < column_limit = ltb-true g.width column_limit q in
                  let y : i ≡ g.width = omega arith in
                  ap (λ (n : ℕ). take n g.cells) y
              go false q =
                  let z : column_limit ≤ g.width = ltb-false g.width column_limit q in
                  take_all i g.cells (omega arith) ∙ sym (take_all g.width g.cells (omega arith))
