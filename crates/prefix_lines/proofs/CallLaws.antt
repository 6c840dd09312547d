-- Laws of the renderer call and the listing call: their bytes line by line, their answers, when they accept, and how much they can write.
use mathlib.Core.Path.{◌≡◌, refl, sym, ap, ◌∙◌}
use mathlib.Core.Bool.{Bool, true, false, cond}
use mathlib.Core.List.{List, [], ◌∷◌, ◌++◌, map}
use Prim.Native.Nat.{ℕ, suc, ◌+◌, ◌*◌, ◌<◌, ◌≤◌, zero-le}
use native.Mathlib.Nat.{le_trans, mul-le-mul_left}
use native.Mathlib.Omega.{arith}
use lib.Dec.{leb}
use lib.ListN.{length, length-append, length-map, length-take}
use borrow.Author.Tests.{lt-ltb, le-ltb, leb-true, leb-false}
use Rattle.std.specs.Prelude.{Ok, Err}
use Rattle.column.specs.Columns.{column_limit}
use Rattle.render.specs.declared.types.DashStyle.{DashStyle}
use Rattle.render.specs.declared.types.RowShape.{RowShape}
use Rattle.render.specs.Lines.{cells_of}
use Rattle.render.specs.Mark.{is_mark}
use Rattle.render.specs.declared.refusals.Refusal.TheVariants.{MarkOutsideSpan, OutputShorterThanLines, ShapeTooWide}
use Rattle.render.specs.Refusals.{refusal}
use Rattle.glyphs.specs.declared.Renderer.{Renderer}
use Rattle.glyphs.specs.declared.Renderer.TheVariants.{Ascii}
use Rattle.glyphs.specs.declared.types.Choice.{Choice}
use Rattle.glyphs.specs.declared.types.Choice.TheVariants.{Space, Solid, Dashed, Mark, End, Two, Three, Glyph}
use Rattle.glyphs.specs.declared.types.Drawing.{Drawing}
use Rattle.glyphs.specs.declared.types.Line.{Line}
use Rattle.glyphs.specs.Ascii as ascii
use Rattle.glyphs.specs.Cells.{all_lines, is_present, keep, choice_of, choices_of, line_of, glyphs_of, bytes_of, joins_from, line_bytes}
use Rattle.glyphs.specs.Row.{row_of, drawing_of, places}
use Rattle.glyphs.specs.Tables.{Tables}
use Rattle.glyphs.proofs.PlaceLaws.{length-places}
use Rattle.glyphs.proofs.TableLaws.{table-line}
use Rattle.slices.specs.Joins.{joins, over}
use Rattle.slices.proofs.JoinLaws.{joins-short}
use Rattle.prefix_lines.specs.declared.writer.Frame.{Frame}
use Rattle.prefix_lines.specs.declared.writer.Frame.TheVariants.{Plain, Listed}
use Rattle.prefix_lines.specs.Inner.{frame_length, framed, drawn_line, drawn_lines, room_refusal, framed_line, framed_bytes, framed_answer}
use Rattle.prefix_lines.specs.Listing.{listing_bytes, listing}
use Rattle.prefix_lines.specs.PrefixLines.{lines_bytes, checks_for, Answer, answer_of, answered, prefix_lines_with, next_prefix_lines}
use Rattle.prefix_lines.proofs.LineLaws.{framed-length}

-- ---- the bytes of the lines that a row has, line by line over all nine
joins-kept : {A B : Type 0} (t : A → Bool) (m : A → B) (f : B → List ℕ) (h : A → List ℕ) → ((x : A) → h x ≡ cond (t x) (f (m x)) []) → (xs : List A)
    → joins h xs ≡ joins f (map m (keep t xs))
joins-kept t m f h e [] = refl
joins-kept t m f h e (x ∷ xs) = rw (e x) (go (t x) (joins-kept t m f h e xs))
  where
    go : (b : Bool) → joins h xs ≡ joins f (map m (keep t xs)) → cond b (f (m x)) [] ++ joins h xs ≡ joins f (map m (cond b (x ∷ keep t xs) (keep t xs)))
    go true r = ap (λ (l : List ℕ). f (m x) ++ l) r
    go false r = r

module _ (f : Frame) (q : Renderer) (g : RowShape) (mark : ℕ) where
  -- a line, or nothing where the row has none
  abbrev shown_line : Line → List ℕ
  shown_line l = cond (is_present q (row_of g) l) (framed_line f q g.style.dash_style mark (line_of q g l)) []

  by_lines : (h : Line → List ℕ) → ((l : Line) → h l ≡ shown_line l) → joins h all_lines ≡ framed_bytes f q g mark
  unfolding framed_bytes
  by_lines h e = joins-kept (is_present q (row_of g)) (line_of q g) (framed_line f q g.style.dash_style mark) h e all_lines

  -- what is drawn from the renderer's own table
  line-drawn : (t : List ℕ) → Tables t (glyphs_of q) q mark → (l : Line) → drawn_line f t (drawing_of g q mark) l ≡ shown_line l
  unfolding drawn_line
  line-drawn t h l = ap (λ (x : List ℕ). cond (is_present q (row_of g) l) (framed f l x) []) (table-line t (glyphs_of q) (drawing_of g q mark) h l)

  pub lines-drawn : (t : List ℕ) → Tables t (glyphs_of q) q mark → drawn_lines f t (drawing_of g q mark) ≡ framed_bytes f q g mark
  lines-drawn t h = by_lines (drawn_line f t (drawing_of g q mark)) (line-drawn t h)

-- ---- the two forms
plain-bytes : (q : Renderer) (g : RowShape) (mark : ℕ) → framed_bytes Plain q g mark ≡ lines_bytes (glyphs_of q) q g mark
unfolding framed_bytes lines_bytes
plain-bytes q g mark = refl

listed-bytes : (g : RowShape) (mark : ℕ) → framed_bytes Listed Ascii g mark ≡ listing_bytes g mark
unfolding framed_bytes listing_bytes
listed-bytes g mark = refl

pub plain-answer : (g : RowShape) (q : Renderer) (mark : ℕ) (out : List ℕ) {x : Answer} → x ≡ framed_answer Plain g q mark out → x ≡ next_prefix_lines g q mark out
plain-answer g q mark out e = rw (plain-bytes q g mark) at e

pub listed_answer : (g : RowShape) (mark : ℕ) (out : List ℕ) {x : Answer} → x ≡ framed_answer Listed g Ascii mark out → x ≡ listing g mark out
listed_answer g mark out e = rw (listed-bytes g mark) at e

-- ---- the answers where only the room is in question
module _ (bs out : List ℕ) where
  pub room-refused : {room : Bool} → room ≡ leb (length bs) (length out) → room ≡ false
      → answer_of (Err OutputShorterThanLines) out ≡ answered (room_refusal bs out) bs out
  room-refused e b = rw (lt-ltb (length out) (length bs) (leb-false (length bs) (length out) (sym e ∙ b)))

  pub room-given : {room : Bool} → room ≡ leb (length bs) (length out) → room ≡ true → length bs ≤ length out
  room-given e b = leb-true (length bs) (length out) (sym e ∙ b)

  pub room-taken : {n : ℕ} {o : List ℕ} → length bs ≤ length out → (n ≡ length bs) × (o ≡ over bs out)
      → answer_of (Ok n) o ≡ answered (room_refusal bs out) bs out
  room-taken h e = rw (le-ltb (length out) (length bs) h, e.0, e.1)

-- ---- the answers
module _ (f : Frame) (g : RowShape) (q : Renderer) (mark : ℕ) (out : List ℕ) where
  pub mark-refused : is_mark mark ≡ false → answer_of (Err MarkOutsideSpan) out ≡ framed_answer f g q mark out
  mark-refused b = rw b

  module _ (b : is_mark mark ≡ true) where
    pub width-refused : column_limit < g.width → answer_of (Err ShapeTooWide) out ≡ framed_answer f g q mark out
    width-refused k = rw (b, lt-ltb column_limit g.width k)

    -- once the mark and the width are good: the lines drawn from the table are the definition's
    pub drawn-answer : g.width ≤ column_limit → (t : List ℕ) (d : Drawing) → d ≡ drawing_of g q mark → Tables t (glyphs_of q) q mark → {x : Answer}
        → x ≡ answered (room_refusal (drawn_lines f t d) out) (drawn_lines f t d) out → x ≡ framed_answer f g q mark out
    drawn-answer k t d e h z =
        let same : drawn_lines f t d ≡ framed_bytes f q g mark = ap (drawn_lines f t) e ∙ lines-drawn f q g mark t h in
        rw (b, le-ltb column_limit g.width k) (z ∙ ap (λ (bs : List ℕ). answered (room_refusal bs out) bs out) same)

-- ---- with a mark in 21 to 7E, at most 64 cells and room for the bytes, a call accepts
checks-passed : (g : RowShape) (mark : ℕ) (bs out : List ℕ) → is_mark mark ≡ true → g.width ≤ column_limit → length bs ≤ length out
    → refusal (checks_for g mark bs out) ≡ 0
checks-passed g mark bs out b k r = rw (b, le-ltb column_limit g.width k, le-ltb (length out) (length bs) r)

pub accepts : (glyphs : ℕ → List ℕ) (g : RowShape) (q : Renderer) (mark : ℕ) (out : List ℕ) → is_mark mark ≡ true → g.width ≤ column_limit
    → length (lines_bytes glyphs q g mark) ≤ length out → (prefix_lines_with glyphs g q mark out).refusal ≡ 0
accepts glyphs g q mark out b k r = rw (checks-passed g mark (lines_bytes glyphs q g mark) out b k r)

pub listing-accepts : (g : RowShape) (mark : ℕ) (out : List ℕ) → is_mark mark ≡ true → g.width ≤ column_limit
    → length (listing_bytes g mark) ≤ length out → (listing g mark out).refusal ≡ 0
listing-accepts g mark out b k r = rw (checks-passed g mark (listing_bytes g mark) out b k r)

-- ---- how much a call can write
module _ (b : ℕ → Choice → List ℕ) (k : ℕ) (s : (i : ℕ) (x : Choice) → length (b i x) ≤ k) where
  cells-sized : (i : ℕ) (xs : List Choice) → length (joins_from b i xs) ≤ k * length xs
  cells-sized i [] = zero-le
  cells-sized i (x ∷ xs) = rw (length-append (b i x) (joins_from b (suc i) xs)) (omega (arith, s i x, cells-sized (suc i) xs))

-- nine lines, each of so many bytes a cell and what stands around them
module _ (f : Frame) (q : Renderer) (g : RowShape) (mark k : ℕ) (s : (i : ℕ) (x : Choice) → length (bytes_of (glyphs_of q) q g.style.dash_style mark i x) ≤ k) where
  line-sized : (l : Line) → length (shown_line f q g mark l) ≤ k * g.width + frame_length f
  line-sized l = go (is_present q (row_of g) l)
    where
      cells : List Choice
      cells = choices_of q (row_of g) (cells_of g) l

      many : length cells ≤ g.width
      many =
          omega
          (arith, length-map (places 0 (cells_of g)) (choice_of q (row_of g) l), length-places 0 (cells_of g), length-take g.width g.cells)

      short : length (line_bytes (glyphs_of q) q g.style.dash_style mark cells) ≤ k * g.width
      short = le_trans (cells-sized (bytes_of (glyphs_of q) q g.style.dash_style mark) k s 0 cells) (mul-le-mul_left k many)

      go : (b : Bool) → length (cond b (framed_line f q g.style.dash_style mark (line_of q g l)) []) ≤ k * g.width + frame_length f
      go true = rw (framed-length f l (line_bytes (glyphs_of q) q g.style.dash_style mark cells)) (omega (arith, short))
      go false = zero-le

  framed-sized : length (framed_bytes f q g mark) ≤ 9 * (k * g.width + frame_length f)
  framed-sized =
      rw (← by_lines f q g mark (shown_line f q g mark) (λ l. refl))
      (omega (arith, joins-short (shown_line f q g mark) (k * g.width + frame_length f) line-sized all_lines))

-- two bytes a cell, a letter, a colon, `$` and an end
ascii-cell : (d : DashStyle) (mark i : ℕ) (x : Choice) → length (bytes_of (glyphs_of Ascii) Ascii d mark i x) ≤ 2
unfolding bytes_of
ascii-cell d mark i x = go x
  where
    go : (x : Choice) → length (ascii.bytes d mark x) ≤ 2
    go Space = omega arith
    go Solid = omega arith
    go Dashed = omega arith
    go Mark = omega arith
    go End = omega arith
    go (Two a b) = omega arith
    go (Three a b c) = omega arith
    go (Glyph n) = omega arith

pub listing-sized : (g : RowShape) (mark : ℕ) → length (listing_bytes g mark) ≤ 9 * (2 * g.width + 4)
listing-sized g mark = rw (← listed-bytes g mark) (framed-sized Listed Ascii g mark 2 (ascii-cell g.style.dash_style mark))
