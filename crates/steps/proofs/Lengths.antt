-- How long lines are: a glyph, a line's cells, the rows of a text call, the lines of a listing.
use Prim.Native.Nat.{ℕ, zero, suc, ◌+◌, ◌*◌, ◌≤◌, max, zero-le}
use mathlib.Core.Path.{◌≡◌, refl}
use mathlib.Core.Bool.{Bool, true, false, cond, ◌&&◌}
use mathlib.Core.List.{List, [], ◌∷◌, ◌++◌, map, append-nil}
use native.Mathlib.Nat.{mul-le-mul_left, mul-le-mul_right}
use native.Mathlib.Omega.{arith}
use lib.Dec.{leb, eqb, lit≤}
use lib.ListN.{length, get_or, replicate, length-append, length-take}
use borrow.Author.Tests.{leb-true}
use Rattle.column.specs.Columns.{column_limit}
use Rattle.render.specs.declared.render.PadLine.{PadLine}
use Rattle.render.specs.declared.render.PadLine.TheVariants as pad
use Rattle.render.specs.declared.types.Cell.{Cell}
use Rattle.render.specs.declared.types.DashStyle.{DashStyle}
use Rattle.render.specs.declared.types.DashStyle.TheVariants.{Persistent, Once}
use Rattle.render.specs.declared.types.LinkLinePlacement.{LinkLinePlacement}
use Rattle.render.specs.declared.types.LinkLinePlacement.TheVariants.{Top, Bottom}
use Rattle.render.specs.declared.types.RowShape.{RowShape}
use Rattle.render.specs.Lines.{cells_of, node_to_pad, foot_pad}
use Rattle.slices.specs.Characters.{newline, blank}
use Rattle.slices.specs.Joins.{joins}
use Rattle.slices.proofs.JoinLaws.{joins-append}
use Rattle.glyphs.specs.declared.Renderer.{Renderer}
use Rattle.glyphs.specs.declared.Renderer.TheVariants.{Ascii, Curved}
use Rattle.glyphs.specs.declared.types.Choice.{Choice}
use Rattle.glyphs.specs.declared.types.Choice.TheVariants.{Space, Solid, Dashed, Mark, End, Two, Three, Glyph}
use Rattle.glyphs.specs.declared.types.Line.{Line}
use Rattle.glyphs.specs.declared.types.Line.TheVariants.{Node, PostNode, Link, SecondLink, Term, SecondTerm, Ancestry, PostAncestry}
use Rattle.glyphs.specs.declared.types.Place.{Place}
use Rattle.glyphs.specs.Ascii as ascii
use Rattle.glyphs.specs.Cells.{all_lines, is_present, keep, choice_of, PrefixLine, line_of, lines, set_of, glyphs_of, bytes_of, joins_from, line_bytes}
use Rattle.glyphs.specs.Choices.{pad_choice}
use Rattle.glyphs.specs.Row.{row_of, places, first_link}
use Rattle.message.specs.Message.{onto, lines_of}
use Rattle.output.specs.Output.{ended, text_of, TextView, flushed, lines_above, begin_row}
use Rattle.prefix_lines.specs.Listing.{dollar, listing_line, listing_bytes}
use Rattle.text.specs.Text.{times, needed, repeated, with_messages, prefix, row_lines, text_lines, queues, text_after}

-- ---- a cell of an ASCII line has at most two bytes, one of a curved line at most six, of a curved pad line four
and_left : (a b : Bool) → a && b ≡ true → a ≡ true
and_left true b e = refl
and_left false b e = e

and_right : (a b : Bool) → a && b ≡ true → b ≡ true
and_right true b e = e
and_right false b e = cc

abbrev shorts : List (List ℕ) → Bool
shorts [] = true
shorts (x ∷ xs) = leb (length x) 6 && shorts xs

set-short : (s : List (List ℕ)) (n : ℕ) → shorts s ≡ true → length (get_or s n []) ≤ 6
set-short [] n e = zero-le
set-short (x ∷ xs) zero e = leb-true (length x) 6 (and_left (leb (length x) 6) (shorts xs) e)
set-short (x ∷ xs) (suc n) e = set-short xs n (and_right (leb (length x) 6) (shorts xs) e)

curved-glyph : (n : ℕ) → length (glyphs_of Curved n) ≤ 6
unfolding glyphs_of
curved-glyph n = set-short (set_of Curved) n refl

pub curved-six : (d : DashStyle) (mark i : ℕ) (x : Choice) → length (bytes_of (glyphs_of Curved) Curved d mark i x) ≤ 6
unfolding bytes_of
curved-six d mark i Space = curved-glyph _
curved-six d mark i Solid = curved-glyph _
curved-six d mark i Dashed = curved-glyph _
curved-six d mark i Mark = lit≤ tt
curved-six d mark i End = curved-glyph _
curved-six d mark i (Two a b) = lit≤ tt
curved-six d mark i (Three a b c) = lit≤ tt
curved-six d mark i (Glyph n) = curved-glyph _

pub curved-four : (d : DashStyle) (mark i : ℕ) (x : PadLine) → length (bytes_of (glyphs_of Curved) Curved d mark i (pad_choice x)) ≤ 4
unfolding bytes_of glyphs_of
curved-four d mark i pad.Blank = lit≤ tt
curved-four Persistent mark i pad.Ancestor = lit≤ tt
curved-four Once mark i pad.Ancestor = lit≤ tt
curved-four d mark i pad.Parent = lit≤ tt

ascii-two : (d : DashStyle) (mark : ℕ) (x : Choice) → length (ascii.bytes d mark x) ≤ 2
ascii-two d mark Space = lit≤ tt
ascii-two d mark Solid = lit≤ tt
ascii-two d mark Dashed = lit≤ tt
ascii-two d mark Mark = lit≤ tt
ascii-two d mark End = lit≤ tt
ascii-two d mark (Two a b) = lit≤ tt
ascii-two d mark (Three a b c) = lit≤ tt
ascii-two d mark (Glyph n) = lit≤ tt

bytes-two : (glyphs : ℕ → List ℕ) (d : DashStyle) (mark i : ℕ) (x : Choice) → length (bytes_of glyphs Ascii d mark i x) ≤ 2
unfolding bytes_of
bytes-two glyphs d mark i x = ascii-two d mark x

-- ---- a line of a shape, whose cells have at most so many bytes each
cells-short : (b : ℕ → Choice → List ℕ) (f : Place → Choice) (k : ℕ) → ((i : ℕ) (p : Place) → length (b i (f p)) ≤ k) → (i : ℕ) (cs : List Cell)
    → length (joins_from b i (map f (places i cs))) ≤ k * length cs
cells-short b f k s i [] = zero-le
cells-short b f k s i (c ∷ cs) = rw length-append (omega (arith, s i (record { index = i; cell = c; next = first_link cs }), cells-short b f k s (suc i) cs))

line-short : (b : ℕ → Choice → List ℕ) (q : Renderer) (g : RowShape) (l : Line) (k : ℕ) → ((i : ℕ) (p : Place) → length (b i (choice_of q (row_of g) l p)) ≤ k)
    → length (joins_from b 0 (line_of q g l).choices) ≤ k * g.width
line-short b q g l k s =
    let m : k * length (cells_of g) ≤ k * g.width = mul-le-mul_left k (omega (arith, length-take g.width g.cells)) in
    omega (arith, m, cells-short b (choice_of q (row_of g) l) k s 0 (cells_of g))

keep-few : {A : Type 0} (t : A → Bool) (xs : List A) → length (keep t xs) ≤ length xs
keep-few t [] = zero-le
keep-few t (x ∷ xs) = go (t x) (keep-few t xs)
  where
    go : (b : Bool) → length (keep t xs) ≤ length xs → length (cond b (x ∷ keep t xs) (keep t xs)) ≤ suc (length xs)
    go true h = omega arith
    go false h = omega arith

-- ---- the rows of a text call, whatever finishes a line without making it longer

-- the most bytes of a line without its message, where a cell has at most k: its cells, a blank and the line end
abbrev line_most : ℕ → ℕ
line_most k = k * column_limit + 2

-- the sum of what a list's elements count
abbrev total : {A : Type 0} → (A → ℕ) → List A → ℕ
total f [] = 0
total f (x ∷ xs) = f x + total f xs

module _ (finished : List ℕ → List ℕ) (shrinks : (l : List ℕ) → length (finished l) ≤ length l) (glyphs : ℕ → List ℕ) (q : Renderer) (g : RowShape) (mark : ℕ) where
  -- the bytes of a line without its message
  abbrev size : PrefixLine → ℕ
  size l = length (prefix glyphs q g mark l) + 2

  -- those of a line of the shape
  abbrev size_of : Line → ℕ
  size_of l = size (line_of q g l)

  abbrev drawn : PrefixLine × List ℕ → List ℕ
  drawn x = finished (prefix glyphs q g mark x.0 ++ (blank ∷ x.1))

  drawn-short : (l : PrefixLine) (m : List ℕ) → length (ended (drawn (l, m))) ≤ size l + length m
  drawn-short l m =
      rw (length-append (drawn (l, m)) (newline ∷ []))
      (omega (arith, shrinks (prefix glyphs q g mark l ++ (blank ∷ m)), length-append (prefix glyphs q g mark l) (blank ∷ m)))

  rows-within : (ls : List PrefixLine) (ms : List (List ℕ)) → length (text_of (map drawn (with_messages ls ms))) ≤ total size ls + length (joins (λ (m : List ℕ). m) ms)
  rows-within [] ms = zero-le
  rows-within (l ∷ ls) [] =
      rw (length-append (ended (drawn (l, []))) (text_of (map drawn (with_messages ls [])))) (omega (arith, drawn-short l [], rows-within ls []))
  rows-within (l ∷ ls) (m ∷ ms) =
      rw (length-append (ended (drawn (l, m))) (text_of (map drawn (with_messages ls ms))), length-append m (joins (λ (m : List ℕ). m) ms))
      (omega (arith, drawn-short l m, rows-within ls ms))

  -- a line counts as often as it is written
  total-again : (n : ℕ) (l : PrefixLine) (ls : List PrefixLine) → total size (replicate n l ++ ls) ≡ size l * n + total size ls
  total-again zero l ls = omega arith
  total-again (suc n) l ls = omega (arith, total-again n l ls)

  repeated-within : (t : Line → ℕ) (ls : List Line)
      → total size (repeated (λ (l : PrefixLine). t l.kind) (map (line_of q g) (keep (is_present q (row_of g)) ls))) ≤ total (λ (l : Line). size_of l * t l) ls
  repeated-within t [] = zero-le
  repeated-within t (l ∷ ls) = go (is_present q (row_of g) l) (repeated-within t ls)
    where
      rest : List Line
      rest = keep (is_present q (row_of g)) ls

      written : List Line → List PrefixLine
      written ls = repeated (λ (l : PrefixLine). t l.kind) (map (line_of q g) ls)

      all : ℕ
      all = total (λ (l : Line). size_of l * t l) ls

      go : (b : Bool) → total size (written rest) ≤ all → total size (written (cond b (l ∷ rest) rest)) ≤ size_of l * t l + all
      go true h = omega (arith, total-again (t l) (line_of q g l) (written rest))
      go false h = omega arith

  -- the bytes of what a cell is given
  abbrev cell_bytes : ℕ → Choice → List ℕ
  cell_bytes = bytes_of glyphs q g.style.dash_style mark

  -- for any renderer whose cells have at most so many bytes, and those of a pad line at most so many
  module _ (most pad_most : ℕ) (short : (i : ℕ) (x : Choice) → length (cell_bytes i x) ≤ most)
      (pad-short : (i : ℕ) (x : PadLine) → length (cell_bytes i (pad_choice x)) ≤ pad_most) (fits : g.width ≤ column_limit) where
    size-within : (l : Line) (k : ℕ) → ((i : ℕ) (p : Place) → length (cell_bytes i (choice_of q (row_of g) l p)) ≤ k) → size_of l ≤ line_most k
    size-within l k s = omega (arith, mul-le-mul_left k fits, line-short cell_bytes q g l k s)

    size-short : (l : Line) → size_of l ≤ line_most most
    size-short l = size-within l most (λ i p. short i (choice_of q (row_of g) l p))

    -- the lines that are repeated are pad lines
    post-short : size_of PostNode ≤ line_most pad_most
    unfolding choice_of
    post-short = size-within PostNode pad_most (λ i p. pad-short i (node_to_pad g.is_root p.cell.node))

    foot-short : size_of PostAncestry ≤ line_most pad_most
    unfolding choice_of
    foot-short = size-within PostAncestry pad_most (λ i p. pad-short i (foot_pad g.style.dash_style p.cell.ancestry))

    -- six others are written, each at most once
    six-short : total size_of (Node ∷ Link ∷ SecondLink ∷ Term ∷ SecondTerm ∷ Ancestry ∷ []) ≤ 6 * line_most most
    six-short = omega (arith, size-short Node, size-short Link, size-short SecondLink, size-short Term, size-short SecondTerm, size-short Ancestry)

    total-short : (p : LinkLinePlacement) (n : ℕ) → total (λ (l : Line). size_of l * times p n l) all_lines ≤ 6 * line_most most + line_most pad_most * n
    total-short Top n = omega (arith, six-short, mul-le-mul_right n foot-short)
    total-short Bottom n = omega (arith, six-short, mul-le-mul_right n post-short)

    pub rows_short : (ms : List (List ℕ)) (height : ℕ)
        → length (text_of (row_lines finished glyphs q g mark ms height)) ≤ 6 * line_most most + line_most pad_most * max (length ms) height + length (joins (λ (m : List ℕ). m) ms)
    rows_short ms height =
        let p : LinkLinePlacement = g.style.link_line_placement in
        let n : ℕ = needed q g (length ms) height in
        let few : n ≤ max (length ms) height = omega arith in
        omega (
          arith,
          rows-within (repeated (λ (l : PrefixLine). times p n l.kind) (lines q g)) ms,
          repeated-within (times p n) all_lines,
          total-short p n,
          mul-le-mul_left (line_most pad_most) few,
        )

    -- what a row queues is short
    pub queued-short : (ms : List (List ℕ)) (height : ℕ) → length (text_of (flushed finished (text_after glyphs q g mark ms height))) ≤ line_most pad_most
    queued-short ms height = go (queues q g (length ms) height)
      where
        queued : List ℕ
        queued = prefix glyphs q g mark (line_of q g PostAncestry)

        go : (b : Bool) → length (text_of (map finished (cond b (queued ∷ []) []))) ≤ line_most pad_most
        go true = rw (append-nil (ended (finished queued)), length-append (finished queued) (newline ∷ [])) (omega (arith, shrinks queued, foot-short))
        go false = zero-le

    -- and so is what a text call writes, where what is queued before it is
    pub text-short : (t : TextView) (ms : List (List ℕ)) (height : ℕ) → length (text_of (flushed finished t)) ≤ 513
        → length (text_of (text_lines finished glyphs t q g mark ms height))
        ≤ 514 + 6 * line_most most + line_most pad_most * max (length ms) height + length (joins (λ (m : List ℕ). m) ms)
    text-short t ms height h =
        let b : List (List ℕ) = begin_row finished g.separator_line t in
        let r : List (List ℕ) = row_lines finished glyphs q g mark ms height in
        rw (joins-append ended b r, length-append (text_of b) (text_of r)) (omega (arith, rows_short ms height, above (g.separator_line && eqb (lines_above t) 1)))
      where
        above : (b : Bool) → length (text_of (flushed finished t ++ cond b (finished [] ∷ []) [])) ≤ 514
        above true =
            rw (joins-append ended (flushed finished t) (finished [] ∷ []), append-nil (ended (finished [])), length-append (text_of (flushed finished t)) (ended (finished [])), length-append (finished []) (newline ∷ []))
            (omega (arith, h, shrinks []))
        above false = rw (append-nil (flushed finished t)) (omega (arith, h))

-- ---- the lines of a message have no more bytes than the message
pub lines-within : (m : List ℕ) → length (joins (λ (l : List ℕ). l) (lines_of m)) ≤ length m
lines-within [] = zero-le
lines-within (b ∷ bs) = go (eqb b newline) (lines_of bs) (lines-within bs)
  where
    go : (t : Bool) (ls : List (List ℕ)) → length (joins (λ (l : List ℕ). l) ls) ≤ length bs → length (joins (λ (l : List ℕ). l) (cond t ([] ∷ ls) (onto b ls))) ≤ suc (length bs)
    go true ls h = omega arith
    go false [] h = omega arith
    go false (l ∷ ls) h = omega arith

-- ---- the listing's lines: at most nine, each of two bytes a cell and four around them
module _ (g : RowShape) (mark : ℕ) where
  listed-short : (l : Line) → length (listing_line g.style.dash_style mark (line_of Ascii g l)) ≤ 2 * g.width + 4
  listed-short l =
      let d : DashStyle = g.style.dash_style in
      omega (
        arith,
        length-append (line_bytes (glyphs_of Ascii) Ascii d mark (line_of Ascii g l).choices) (dollar ∷ newline ∷ []),
        line-short (bytes_of (glyphs_of Ascii) Ascii d mark) Ascii g l 2 (λ i p. bytes-two (glyphs_of Ascii) d mark i (choice_of Ascii (row_of g) l p)),
      )

  lines-listed : (ls : List Line) → length (joins (listing_line g.style.dash_style mark) (map (line_of Ascii g) ls)) ≤ (2 * g.width + 4) * length ls
  lines-listed [] = zero-le
  lines-listed (l ∷ ls) =
      rw (length-append (listing_line g.style.dash_style mark (line_of Ascii g l)) (joins (listing_line g.style.dash_style mark) (map (line_of Ascii g) ls)))
      (omega (arith, listed-short l, lines-listed ls))

  pub listing-short : length (listing_bytes g mark) ≤ 9 * (2 * g.width + 4)
  unfolding listing_bytes
  listing-short =
      let ls : List Line = keep (is_present Ascii (row_of g)) all_lines in
      let k : ℕ = 2 * g.width + 4 in
      let m : k * length ls ≤ k * 9 = mul-le-mul_left k (keep-few (is_present Ascii (row_of g)) all_lines) in
      omega (arith, lines-listed ls, m)
