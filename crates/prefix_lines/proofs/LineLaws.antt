-- Laws of the lines of a row in either frame, drawn from any table of glyphs.
use mathlib.Core.Path.{◌≡◌, refl, sym, ap, ◌∙◌}
use mathlib.Core.Bool.{Bool, true, false}
use mathlib.Core.List.{List, [], ◌∷◌, ◌++◌, map, append_assoc, append-nil}
use Prim.Native.Nat.{ℕ, suc, ◌+◌, ◌*◌, ◌-◌, ◌<◌, ◌≤◌, zero-le}
use native.Mathlib.Omega.{arith}
use lib.Dec.{leb}
use lib.ListN.{length, take, drop, set, length-append, length-drop, length-map, length-set, length-take, take-append-drop, drop_of_length-le}
use lib.Seq.{take-append_seam, drop-append_seam, length-take-le, take_all}
use borrow.Author.Tests.{le-leb}
use Rattle.column.specs.Columns.{column_limit}
use Rattle.render.specs.declared.types.DashStyle.{DashStyle}
use Rattle.glyphs.specs.declared.Renderer.{Renderer}
use Rattle.glyphs.specs.declared.types.Choice.{Choice}
use Rattle.glyphs.specs.declared.types.Drawing.{Drawing}
use Rattle.glyphs.specs.declared.types.Line.{Line}
use Rattle.glyphs.specs.Cells.{all_lines, is_present, choice_by}
use Rattle.glyphs.specs.LinkTable.{named}
use Rattle.glyphs.specs.Tables.{glyph_at, numbers_from, numbers_in, cells_text, WritesCells}
use Rattle.glyphs.specs.Row.{places}
use Rattle.glyphs.proofs.PlaceLaws.{length-places}
use Rattle.glyphs.proofs.TableLaws.{glyph-short}
use Rattle.glyphs.proofs.WriteLaws.{cells_count, cells-then}
use Rattle.slices.specs.Characters.{newline, colon}
use Rattle.slices.specs.Joins.{over}
use Rattle.slices.proofs.JoinLaws.{joins-short}
use Rattle.slices.proofs.OverLaws.{over-one, part_room, part_length, part-written}
use Rattle.prefix_lines.specs.declared.writer.Frame.{Frame}
use Rattle.prefix_lines.specs.declared.writer.Frame.TheVariants.{Plain, Listed}
use Rattle.prefix_lines.specs.Inner.{opening, closing, frame_length, framed, drawn_line, drawn_lines}
use Rattle.prefix_lines.specs.Listing.{dollar}
use Rattle.prefix_lines.specs.PrefixLines.{letter}

-- ---- what stands around the cells
pub frame_small : (f : Frame) → frame_length f ≤ 4
frame_small Plain = omega arith
frame_small Listed = omega arith

frame-parts : (f : Frame) (l : Line) → length (opening f l) + length (closing f) ≡ frame_length f
frame-parts Plain l = refl
frame-parts Listed l = refl

pub framed-length : (f : Frame) (l : Line) (bs : List ℕ) → length (framed f l bs) ≡ length bs + frame_length f
framed-length f l bs = rw (length-append (opening f l) (bs ++ closing f), length-append bs (closing f)) (omega (arith, frame-parts f l))

-- ---- what the writers of both leave: d is the output, a the letter
pub opening-begun : (f : Frame) (l : Line) (d : List ℕ) → length (opening f l) ≤ length d → 0 < length d
opening-begun Plain l d h = h
opening-begun Listed l d h = omega arith

module _ (l : Line) (d : List ℕ) {f : Frame} {a : ℕ} (e : a ≡ letter l) (h : length (opening f l) ≤ length d) where
  pub opening-plain : f ≡ Plain → (1 ≡ length (opening f l)) × (set d 0 a ≡ over (opening f l) d)
  opening-plain p = rw (p, e) (refl, over-one [] d (letter l) refl refl (opening-begun f l d h))

  pub opening-listed : f ≡ Listed → (2 ≡ length (opening f l)) × (set (set d 0 a) 1 colon ≡ over (opening f l) d)
  opening-listed p =
      let n : 2 ≤ length d = rw p at h in
      rw (p, e) (refl, over-one (letter l ∷ []) d colon (over-one [] d (letter l) refl refl (omega arith)) refl (omega arith))

module _ (d : List ℕ) {f : Frame} (h : length (closing f) ≤ length d) where
  pub closing-next : (v : ℕ) → f ≡ Listed → 1 < length (set d 0 v)
  closing-next v p = let n : 2 ≤ length d = rw p at h in omega (arith, length-set d 0 v)

  pub closing-plain : f ≡ Plain → (1 ≡ length (closing f)) × (set d 0 newline ≡ over (closing f) d)
  closing-plain p = let n : 1 ≤ length d = rw p at h in rw p (refl, over-one [] d newline refl refl (omega arith))

  pub closing-listed : f ≡ Listed → (2 ≡ length (closing f)) × (set (set d 0 dollar) 1 newline ≡ over (closing f) d)
  closing-listed p =
      let n : 2 ≤ length d = rw p at h in
      rw p (refl, over-one (dollar ∷ []) d newline (over-one [] d dollar refl refl (omega arith)) refl (omega arith))

-- ---- a line that the row has, and one that it has not
module _ (f : Frame) (t : List ℕ) (d : Drawing) (l : Line) where
  pub absent : is_present d.renderer d.row l ≡ false → drawn_line f t d l ≡ []
  unfolding drawn_line
  absent e = rw e

  module _ (e : is_present d.renderer d.row l ≡ true) where
    present : drawn_line f t d l ≡ framed f l (cells_text t (numbers_in t d l))
    unfolding drawn_line
    present = rw e

    present-length : length (drawn_line f t d l) ≡ length (cells_text t (numbers_in t d l)) + frame_length f
    present-length = ap length present ∙ framed-length f l (cells_text t (numbers_in t d l))

    -- counted: the cells, and what stands around them
    pub line-counted : {numbers : List ℕ} {c k : ℕ} → numbers ≡ numbers_in t d l → c ≡ length (cells_text t numbers) → k ≡ frame_length f
        → c + k ≡ length (drawn_line f t d l)
    line-counted e h j = rw (h, j, e) (sym present-length)

-- ---- two writers, each lent what the one before it left: p came back from place a of o, and q from behind the first r bytes of p
part-all : (o : List ℕ) (a : ℕ) → take (length o - a) (drop a o) ≡ drop a o
part-all o a = take_all (length o - a) (drop a o) (rw (length-drop a o) (omega arith))

none_left : (o : List ℕ) (a : ℕ) → drop (length o - a) (drop a o) ≡ []
none_left o a =
    let h : length (drop a o) ≤ length o - a = omega (arith, length-drop a o) in
    drop_of_length-le (drop a o) h

-- o with p in its place
abbrev pub back : List ℕ → List ℕ → ℕ → List ℕ
back o p a = take a o ++ (p ++ drop (length o - a) (drop a o))

module _ (o p : List ℕ) (a r : ℕ) (h : a ≤ length o) (k : r ≤ length p) where
  split : back o p a ≡ (take a o ++ take r p) ++ drop r p
  split =
      rw (none_left o a, append-nil)
      (ap (λ (l : List ℕ). take a o ++ l) (sym (take-append-drop r p)) ∙ sym (append_assoc (take a o) (take r p) (drop r p)))

  split-place : length (take a o ++ take r p) ≡ a + r
  split-place = rw (length-append, length-take-le a o h, length-take-le r p k)

  front_of : take (a + r) (back o p a) ≡ take a o ++ take r p
  front_of = rw (split, ← split-place) (take-append_seam (take a o ++ take r p) (drop r p))

  rest_of : drop (a + r) (back o p a) ≡ drop r p
  rest_of = rw (split, ← split-place) (drop-append_seam (take a o ++ take r p) (drop r p))

-- bytes xs, the cells' text behind them, and the rest behind that
joined : (xs text rest d : List ℕ) {o p q : List ℕ} {a r : ℕ} → o ≡ over xs d → a ≡ length xs → a ≤ length o → r ≤ length p
    → WritesCells text (length rest) (take (length o - a) (drop a o)) p r → length text + length rest ≤ length (take (length o - a) (drop a o))
    → q ≡ over rest (take (length (back o p a) - (a + r)) (drop (a + r) (back o p a)))
    → back (back o p a) q (a + r) ≡ over (xs ++ (text ++ rest)) d
joined xs text rest d {o} {p} {q} {a} {r} e f h k w n g =
    let lent : q ≡ over rest (drop r p) = g ∙ ap (over rest) (part-all (back o p a) (a + r) ∙ rest_of o p a r h k) in
    let whole : take r p ++ q ≡ over (text ++ rest) (take (length o - a) (drop a o)) = cells-then text rest _ p r w n (ap (λ (l : List ℕ). take r p ++ l) lent) in
    rw (none_left (back o p a) (a + r), front_of o p a r h k, append-nil)
    (append_assoc (take a o) (take r p) q ∙ ap (λ (l : List ℕ). take a o ++ l) whole
    ∙ sym (ap (λ (l : List ℕ). take a o ++ (over (text ++ rest) (take (length o - a) (drop a o)) ++ l)) (none_left o a) ∙ rw append-nil)
    ∙ part-written xs (text ++ rest) d e f refl)

-- ---- a line written by three writers, in the words of their contracts
module _ (f : Frame) (t : List ℕ) (d : Drawing) (l : Line) (out : List ℕ) (shown : is_present d.renderer d.row l ≡ true)
    (room : length (drawn_line f t d l) ≤ length out) where
  abbrev cells : List ℕ
  cells = cells_text t (numbers_in t d l)

  line-fits : length (opening f l) + (length cells + length (closing f)) ≤ length out
  line-fits = omega (arith, present-length f t d l shown, frame-parts f l, room)

  pub opening-fits : length (opening f l) ≤ length out
  opening-fits = omega (arith, line-fits)

  module _ {o : List ℕ} {a : ℕ} (begun : (a ≡ length (opening f l)) × (o ≡ over (opening f l) out)) (kept : length o ≡ length out) where
    pub start_fits : a ≤ length o
    start_fits = omega (arith, begun.0, kept, line-fits)

    cells_fit : length cells + length (closing f) ≤ length (take (length o - a) (drop a o))
    cells_fit = omega (arith, begun.0, kept, line-fits, part_room o a)

    module _ {numbers p : List ℕ} {b r : ℕ} (chosen : numbers ≡ numbers_in t d l) (behind : b ≡ length (closing f))
        (w : WritesCells (cells_text t numbers) b (take (length o - a) (drop a o)) p r) (same : length p ≡ length (take (length o - a) (drop a o))) where
      drawn : WritesCells cells (length (closing f)) (take (length o - a) (drop a o)) p r
      drawn = rw (chosen, behind) at w

      counted : r ≡ length cells
      counted = cells_count cells (length (closing f)) (take (length o - a) (drop a o)) p r drawn cells_fit

      cells-within : r ≤ length p
      cells-within = omega (arith, counted, cells_fit, same)

      pub end_fits : a + r + length (closing f) ≤ length out
      end_fits = omega (arith, begun.0, counted, line-fits)

      back-length : length (back o p a) ≡ length out
      back-length = part_length o p a same start_fits ∙ kept

      pub end-within : a + r ≤ length (back o p a)
      end-within = omega (arith, end_fits, back-length)

      pub closing-fits : length (closing f) ≤ length (take (length (back o p a) - (a + r)) (drop (a + r) (back o p a)))
      closing-fits = omega (arith, part_room (back o p a) (a + r), end_fits, back-length)

      pub line-done : {q : List ℕ} {c : ℕ}
          → (c ≡ length (closing f)) × (q ≡ over (closing f) (take (length (back o p a) - (a + r)) (drop (a + r) (back o p a))))
          → (a + r + c ≡ length (drawn_line f t d l)) × (back (back o p a) q (a + r) ≡ over (drawn_line f t d l) out)
      line-done ended = (
        omega (arith, begun.0, counted, ended.0, frame-parts f l, present-length f t d l shown),
        joined (opening f l) cells (closing f) out begun.1 begun.0 start_fits cells-within drawn cells_fit ended.1
            ∙ ap (λ (z : List ℕ). over z out) (sym (present f t d l shown)),
      )

-- ---- how long a line can be: eight bytes for each cell, and what stands around them
numbers-length : (q : Renderer) (s : DashStyle) (i : ℕ) (xs : List Choice) → length (numbers_from q s i xs) ≡ length xs
numbers-length q s i [] = refl
numbers-length q s i (x ∷ xs) = ap suc (numbers-length q s (suc i) xs)

-- counted, where there are no more cells than a row has
pub few-counted : (f : Frame) (t : List ℕ) {numbers all : List ℕ} {c k : ℕ} → numbers ≡ all → length all ≤ column_limit → c ≡ length (cells_text t numbers)
    → k ≡ frame_length f → c + k ≤ 516
few-counted f t {numbers} {all} e h w j =
    omega (arith, w, j, frame_small f, joins-short (glyph_at t) 8 (glyph-short t) numbers, ap length e)

module _ (t : List ℕ) (d : Drawing) where
  row-length : (l : Line) → length (numbers_in t d l) ≡ length (take d.width d.cells)
  row-length l =
      numbers-length d.renderer d.row.dash_style 0 (map (choice_by (named t) d.renderer d.row l) (places 0 (take d.width d.cells)))
      ∙ length-map (places 0 (take d.width d.cells)) (choice_by (named t) d.renderer d.row l) ∙ length-places 0 (take d.width d.cells)

  cells-short : (l : Line) → length (cells_text t (numbers_in t d l)) ≤ 8 * length (take d.width d.cells)
  cells-short l = rw (row-length l) at (joins-short (glyph_at t) 8 (glyph-short t) (numbers_in t d l))

  line-within : (f : Frame) (l : Line) → length (drawn_line f t d l) ≤ 8 * length (take d.width d.cells) + frame_length f
  line-within f l = go (is_present d.renderer d.row l) refl
    where
      go : (b : Bool) → is_present d.renderer d.row l ≡ b → length (drawn_line f t d l) ≤ 8 * length (take d.width d.cells) + frame_length f
      go true e = omega (arith, present-length f t d l e, cells-short l)
      go false e = rw (absent f t d l e) zero-le

  pub line-short : (f : Frame) → d.width ≤ column_limit → (l : Line) → length (drawn_line f t d l) ≤ 516
  line-short f h l = omega (arith, line-within f l, frame_small f, length-take d.width d.cells)

  -- all lines, and that an output of so many bytes has room for them
  lines-within : (f : Frame) → length (drawn_lines f t d) ≤ 9 * (8 * d.width + frame_length f)
  lines-within f = omega (arith, joins-short (drawn_line f t d) (8 * d.width + frame_length f) short all_lines)
    where
      short : (l : Line) → length (drawn_line f t d l) ≤ 8 * d.width + frame_length f
      short l = omega (arith, line-within f l, length-take d.width d.cells)

  pub room-enough : (f : Frame) {most size : ℕ} → most ≡ 9 * (8 * d.width + frame_length f) → most ≤ size → true ≡ leb (length (drawn_lines f t d)) size
  room-enough f {most} {size} e h = sym (le-leb (length (drawn_lines f t d)) size (omega (arith, lines-within f, e, h)))
