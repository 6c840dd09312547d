-- Laws of what prefix lines measure, by themselves and with a message line, for any glyph set whose glyphs measure 2 each.
use mathlib.Core.Path.{◌≡◌, refl, sym, ap, ap₂, ◌∙◌}
use mathlib.Core.Bool.{Bool, true, false, cond, ◌&&◌}
use mathlib.Core.List.{List, [], ◌∷◌, ◌++◌, map}
use Prim.Native.Nat.{ℕ, zero, suc, ◌+◌, ◌-◌, ◌*◌, ◌<◌, ◌≤◌}
use native.Mathlib.Nat.{not-suc-le-zero, le_of_suc-le-suc}
use native.Mathlib.Omega.{arith}
use lib.Dec.{eqb, ltb, leb}
use lib.ListN.{length, take, drop, get_or}
use borrow.Author.Tests.{ltb-true, leb-true, le-leb, lt-ltb, eqb-true, eqb-false}
use Rattle.render.specs.declared.types.Cell.{Cell}
use Rattle.render.specs.declared.types.DashStyle.{DashStyle}
use Rattle.render.specs.declared.types.RowShape.{RowShape}
use Rattle.render.specs.Lines.{cells_of}
use Rattle.render.specs.Mark.{is_mark}
use Rattle.slices.specs.Characters.{newline, blank, bar, tilde}
use Rattle.message.specs.Message.{is_printable, is_writable, all_of, line_length, trim_end}
use Rattle.message.specs.Inner.{first_line, other_lines}
use Rattle.message.proofs.MessageLaws.{trim-take}
use Rattle.glyphs.specs.declared.Renderer.{Renderer}
use Rattle.glyphs.specs.declared.Renderer.TheVariants.{Ascii, AsciiLarge, Square, Curved, Dec}
use Rattle.glyphs.specs.declared.types.Choice.{Choice}
use Rattle.glyphs.specs.declared.types.Choice.TheVariants.{Two, Three}
use Rattle.glyphs.specs.declared.types.Line.{Line}
use Rattle.glyphs.specs.declared.types.Place.{Place}
use Rattle.glyphs.specs.declared.types.Row.{Row}
use Rattle.glyphs.specs.Ascii as ascii
use Rattle.glyphs.specs.Ascii.{ancestor}
use Rattle.glyphs.specs.AsciiLarge as large
use Rattle.glyphs.specs.Cells.{is_large, choice_of, line_of, bytes_of, joins_from, glyphs_of}
use Rattle.glyphs.specs.Choices.{choice_with, no_choice}
use Rattle.glyphs.specs.GlyphSets.{square, curved, dec}
use Rattle.glyphs.specs.Row.{row_of, first_link, places}
use Rattle.glyphs.specs.Tables.{paired, uprights, connections, lefts, centers, rights, two, ascii_table, large_table, box_table}
use Rattle.glyphs.proofs.TableLaws.{Drawn, choice-holds, cell-drawn}
use Rattle.output.specs.Measure.{measure_of}
use Rattle.output.proofs.MeasureLaws.{both, left-true, right-true, Spans, spans-none, spans-both, spans-alone, printable-spans, trim-measure}
use Rattle.text.specs.Text.{prefix}
use Rattle.text.specs.Inner.{line_with, prefix_measure, measure_with, measures_with, drawn}
use Rattle.text.proofs.TextLineLaws.{line-none, line-some}

-- ---- glyph sets
-- fifteen glyphs that measure 2 each, whatever stands behind them: E2 94 by itself measures 2, with 80 behind it 1
abbrev pub TwoEach : (ℕ → List ℕ) → Type 0
TwoEach glyphs = (n : ℕ) → n < 15 → Spans 2 (glyphs n)

-- what is asked of a renderer's glyphs: the ASCII ones have none
abbrev pub TwoEachOf : (ℕ → List ℕ) → Renderer → Type 0
TwoEachOf glyphs Ascii = Unit {0}
TwoEachOf glyphs AsciiLarge = Unit {0}
TwoEachOf glyphs Square = TwoEach glyphs
TwoEachOf glyphs Curved = TwoEach glyphs
TwoEachOf glyphs Dec = TwoEach glyphs

-- the three sets have it
abbrev AllTwo : List (List ℕ) → Type 0
AllTwo [] = Unit {0}
AllTwo (g ∷ gs) = Spans 2 g × AllTwo gs

two_at : (gs : List (List ℕ)) → AllTwo gs → (n : ℕ) → n < length gs → Spans 2 (get_or gs n [])
two_at [] h n k = absurd (not-suc-le-zero k)
two_at (g ∷ gs) h zero k = h.0
two_at (g ∷ gs) h (suc n) k = two_at gs h.1 n (le_of_suc-le-suc k)

two-map : (glyphs : ℕ → List ℕ) → TwoEach glyphs → (ks : List ℕ) (gs : List (List ℕ)) → all_of (λ (k : ℕ). ltb k 15) ks ≡ true → AllTwo gs → AllTwo (map glyphs ks ++ gs)
two-map glyphs t [] gs e h = h
two-map glyphs t (k ∷ ks) gs e h =
    let b : Bool = ltb k 15 in
    (t k (ltb-true k 15 (left-true b (all_of (λ (k : ℕ). ltb k 15) ks) e)), two-map glyphs t ks gs (right-true b (all_of (λ (k : ℕ). ltb k 15) ks) e) h)

square-two : AllTwo square
unfolding measure_of
square-two = (λ l. omega arith, (λ l. omega arith, (λ l. omega arith, (λ l. omega arith, (λ l. omega arith, (λ l. omega arith, (λ l. omega arith, (λ l. omega arith, (λ l. omega arith, (λ l. omega arith, (λ l. omega arith, (λ l. omega arith, (λ l. omega arith, (λ l. omega arith, (λ l. omega arith, tt)))))))))))))))

curved-two : AllTwo curved
unfolding measure_of
curved-two = (λ l. omega arith, (λ l. omega arith, (λ l. omega arith, (λ l. omega arith, (λ l. omega arith, (λ l. omega arith, (λ l. omega arith, (λ l. omega arith, (λ l. omega arith, (λ l. omega arith, (λ l. omega arith, (λ l. omega arith, (λ l. omega arith, (λ l. omega arith, (λ l. omega arith, tt)))))))))))))))

dec-two : AllTwo dec
unfolding measure_of
dec-two = (λ l. omega arith, (λ l. omega arith, (λ l. omega arith, (λ l. omega arith, (λ l. omega arith, (λ l. omega arith, (λ l. omega arith, (λ l. omega arith, (λ l. omega arith, (λ l. omega arith, (λ l. omega arith, (λ l. omega arith, (λ l. omega arith, (λ l. omega arith, (λ l. omega arith, tt)))))))))))))))

pub own-two : (q : Renderer) → TwoEachOf (glyphs_of q) q
unfolding glyphs_of
own-two Ascii = tt
own-two AsciiLarge = tt
own-two Square = λ n h. two_at square square-two n h
own-two Curved = λ n h. two_at curved curved-two n h
own-two Dec = λ n h. two_at dec dec-two n h

-- the renderers that draw no glyphs
abbrev pub DrawsAscii : Renderer → Type 0
DrawsAscii Ascii = Unit {0}
DrawsAscii AsciiLarge = Unit {0}
DrawsAscii Square = ⊥
DrawsAscii Curved = ⊥
DrawsAscii Dec = ⊥

-- ---- the bytes of a cell
-- what a row's cell i measures
abbrev pub cell_measure : Renderer → ℕ → ℕ
cell_measure q i = cond (is_large q && ltb 0 i) 3 2

-- whether each of some byte strings passes a test
abbrev pub every : (List ℕ → Bool) → List (List ℕ) → Bool
every t [] = true
every t (s ∷ ss) = t s && every t ss

-- whether each is of printable bytes
abbrev pub all_printable : List (List ℕ) → Bool
all_printable ss = every (all_of is_printable) ss

pub printable-append : (gs hs : List (List ℕ)) → all_printable gs ≡ true → all_printable hs ≡ true → all_printable (gs ++ hs) ≡ true
printable-append [] hs e f = f
printable-append (g ∷ gs) hs e f =
    both (all_of is_printable g) (all_printable (gs ++ hs)) (left-true (all_of is_printable g) (all_printable gs) e) (printable-append gs hs (right-true (all_of is_printable g) (all_printable gs) e) f)

printable-at : (gs : List (List ℕ)) (n : ℕ) → all_printable gs ≡ true → all_of is_printable (get_or gs n []) ≡ true
printable-at [] n e = refl
printable-at (g ∷ gs) zero e = left-true (all_of is_printable g) (all_printable gs) e
printable-at (g ∷ gs) (suc n) e = printable-at gs n (right-true (all_of is_printable g) (all_printable gs) e)

pub all_append : (t : ℕ → Bool) (a b : List ℕ) → all_of t a ≡ true → all_of t b ≡ true → all_of t (a ++ b) ≡ true
all_append t [] b e f = f
all_append t (x ∷ a) b e f = both (t x) (all_of t (a ++ b)) (left-true (t x) (all_of t a) e) (all_append t a b (right-true (t x) (all_of t a) e) f)

-- bytes out of a table of printable glyphs
table-printable : (gs : List (List ℕ)) (n : ℕ) (bs : List ℕ) → all_printable gs ≡ true → Drawn gs n bs → all_of is_printable bs ≡ true
table-printable gs n bs e d = rw (← d.glyph) (printable-at gs n e)

table-spans : (gs : List (List ℕ)) (n : ℕ) (bs : List ℕ) (k : ℕ) → all_printable gs ≡ true → Drawn gs n bs → length bs ≡ k → Spans k bs
table-spans gs n bs k e d h = rw (← h) (printable-spans bs (table-printable gs n bs e d))

module _ (mark : ℕ) (m : is_mark mark ≡ true) where
  mark-printable : is_printable mark ≡ true
  mark-printable =
      let h : 0x21 ≤ mark = leb-true 0x21 mark (left-true (leb 0x21 mark) (leb mark 0x7e) m) in
      both (leb 0x20 mark) (leb mark 0x7e) (le-leb 0x20 mark (omega (arith, h))) (right-true (leb 0x21 mark) (leb mark 0x7e) m)

  ascii-printable : all_printable (ascii_table mark) ≡ true
  ascii-printable = printable-append (paired two uprights connections) (two mark blank ∷ []) refl (rw mark-printable refl)

  large-printable : all_printable (large_table mark) ≡ true
  large-printable =
      printable-append (paired (λ (a : ℕ) (bs : List ℕ). a ∷ bs) lefts (paired two centers rights)) (paired two centers rights ++ ((blank ∷ two mark blank) ∷ two mark blank ∷ [])) refl
      (printable-append (paired two centers rights) ((blank ∷ two mark blank) ∷ two mark blank ∷ []) refl (rw mark-printable refl))

  mark-spans : Spans 2 (two mark blank)
  mark-spans = printable-spans (two mark blank) (rw mark-printable refl)

  box-spans : (glyphs : ℕ → List ℕ) → TwoEach glyphs → (n : ℕ) → n < 16 → Spans 2 (get_or (box_table glyphs mark) n [])
  box-spans glyphs t n h =
      two_at (box_table glyphs mark) (two-map glyphs t (0 ∷ 1 ∷ 2 ∷ 3 ∷ 4 ∷ 5 ∷ 6 ∷ 7 ∷ 8 ∷ 9 ∷ 10 ∷ 11 ∷ 12 ∷ 13 ∷ 14 ∷ []) (two mark blank ∷ []) refl (mark-spans, tt)) n h

  -- what a cell is given measures as its place asks
  module _ (glyphs : ℕ → List ℕ) (r : Row) (l : Line) (p : Place) where
    abbrev style : DashStyle
    style = r.dash_style

    -- large ASCII: three bytes, two in the first cell
    abbrev LargeLong : Choice → Type 0
    LargeLong x = length (large.bytes style mark p.index x) ≡ cond (ltb 0 p.index) 3 2

    apart-long : (c : ℕ) → length (large.apart p.index (two c blank)) ≡ cond (ltb 0 p.index) 3 2
    apart-long c = go (ltb 0 p.index)
      where
        go : (b : Bool) → length (cond b (blank ∷ two c blank) (two c blank)) ≡ cond b 3 2
        go true = refl
        go false = refl

    linked_long : (a b c : ℕ) → LargeLong (large.linked p.index a b c)
    linked_long a b c = go (ltb 0 p.index)
      where
        go : (t : Bool) → length (large.bytes style mark p.index (cond t (Three a b c) (Two b c))) ≡ cond t 3 2
        go true = refl
        go false = refl

    large-long : LargeLong (choice_with large.link large.second_link r l p)
    large-long =
        choice-holds LargeLong (apart-long blank) (apart-long bar) (apart-long (ancestor style)) (apart-long mark) (apart-long tilde) large.link large.second_link r p
        (linked_long _ _ _) (linked_long _ _ _) l

    -- ASCII: two bytes
    abbrev AsciiLong : Choice → Type 0
    AsciiLong x = length (ascii.bytes style mark x) ≡ 2

    ascii-long : AsciiLong (choice_with ascii.link no_choice r l p)
    ascii-long = choice-holds AsciiLong refl refl refl refl refl ascii.link no_choice r p refl refl l

    box-cell-spans : TwoEach glyphs → (n : ℕ) (bs : List ℕ) → Drawn (box_table glyphs mark) n bs → Spans 2 bs
    box-cell-spans t n bs d = rw (← d.glyph) (box-spans glyphs t n d.within)

    cell-spans : (q : Renderer) → TwoEachOf glyphs q → Spans (cell_measure q p.index) (bytes_of glyphs q style mark p.index (choice_of q r l p))
    unfolding bytes_of choice_of
    cell-spans Ascii t = table-spans (ascii_table mark) _ _ 2 ascii-printable (cell-drawn mark r l p glyphs Ascii) ascii-long
    cell-spans AsciiLarge t = table-spans (large_table mark) _ _ (cond (ltb 0 p.index) 3 2) large-printable (cell-drawn mark r l p glyphs AsciiLarge) large-long
    cell-spans Square t = box-cell-spans t _ _ (cell-drawn mark r l p glyphs Square)
    cell-spans Curved t = box-cell-spans t _ _ (cell-drawn mark r l p glyphs Curved)
    cell-spans Dec t = box-cell-spans t _ _ (cell-drawn mark r l p glyphs Dec)

    -- an ASCII renderer's bytes are printable
    cell-printable : (q : Renderer) → DrawsAscii q → all_of is_printable (bytes_of glyphs q style mark p.index (choice_of q r l p)) ≡ true
    cell-printable Ascii a = table-printable (ascii_table mark) _ _ ascii-printable (cell-drawn mark r l p glyphs Ascii)
    cell-printable AsciiLarge a = table-printable (large_table mark) _ _ large-printable (cell-drawn mark r l p glyphs AsciiLarge)
    cell-printable Square a = absurd a
    cell-printable Curved a = absurd a
    cell-printable Dec a = absurd a

  -- ---- a prefix line
  -- what n of a row's cells measure, from i on
  abbrev measure_of_cells : Renderer → ℕ → ℕ → ℕ
  measure_of_cells q i zero = 0
  measure_of_cells q i (suc n) = cell_measure q i + measure_of_cells q (suc i) n

  from-spans : (glyphs : ℕ → List ℕ) (q : Renderer) → TwoEachOf glyphs q → (r : Row) (l : Line) (i : ℕ) (cs : List Cell)
      → Spans (measure_of_cells q i (length cs)) (joins_from (bytes_of glyphs q r.dash_style mark) i (map (choice_of q r l) (places i cs)))
  from-spans glyphs q t r l i [] = spans-none
  from-spans glyphs q t r l i (c ∷ cs) =
      let p : Place = record { index = i; cell = c; next = first_link cs } in
      spans-both (cell_measure q i) (measure_of_cells q (suc i) (length cs)) (bytes_of glyphs q r.dash_style mark i (choice_of q r l p))
      (joins_from (bytes_of glyphs q r.dash_style mark) (suc i) (map (choice_of q r l) (places (suc i) cs)))
      (cell-spans glyphs r l p q t) (from-spans glyphs q t r l (suc i) cs)

  later : (q : Renderer) (i n : ℕ) → measure_of_cells q (suc i) n ≡ cond (is_large q) (3 * n) (2 * n)
  later q i zero = go (is_large q)
    where
      go : (b : Bool) → 0 ≡ cond b (3 * 0) (2 * 0)
      go true = refl
      go false = refl
  later q i (suc n) = rw (lt-ltb 0 (suc i) (omega arith), later q (suc i) n) (go (is_large q))
    where
      go : (b : Bool) → cond (b && true) 3 2 + cond b (3 * n) (2 * n) ≡ cond b (3 * suc n) (2 * suc n)
      go true = omega arith
      go false = omega arith

  from_first : (q : Renderer) (n : ℕ) → measure_of_cells q 0 n ≡ prefix_measure q n
  from_first q zero = go (is_large q)
    where
      go : (b : Bool) → 0 ≡ cond b (3 * 0 - 1) (2 * 0)
      go true = refl
      go false = refl
  from_first q (suc n) = rw (later q 0 n) (go (is_large q))
    where
      go : (b : Bool) → cond (b && false) 3 2 + cond b (3 * n) (2 * n) ≡ cond b (3 * suc n - 1) (2 * suc n)
      go true = omega arith
      go false = omega arith

  -- every prefix line measures 2 for each of its cells, in large ASCII 3 for each but the first, which measures 2
  pub prefix-spans : (glyphs : ℕ → List ℕ) (q : Renderer) → TwoEachOf glyphs q → (g : RowShape) (l : Line)
      → Spans (prefix_measure q (length (cells_of g))) (prefix glyphs q g mark (line_of q g l))
  prefix-spans glyphs q t g l = rw (← from_first q (length (cells_of g))) (from-spans glyphs q t (row_of g) l 0 (cells_of g))

  -- an ASCII renderer's is of printable bytes
  from-printable : (glyphs : ℕ → List ℕ) (q : Renderer) → DrawsAscii q → (r : Row) (l : Line) (i : ℕ) (cs : List Cell)
      → all_of is_printable (joins_from (bytes_of glyphs q r.dash_style mark) i (map (choice_of q r l) (places i cs))) ≡ true
  from-printable glyphs q a r l i [] = refl
  from-printable glyphs q a r l i (c ∷ cs) =
      let p : Place = record { index = i; cell = c; next = first_link cs } in
      all_append is_printable (bytes_of glyphs q r.dash_style mark i (choice_of q r l p))
      (joins_from (bytes_of glyphs q r.dash_style mark) (suc i) (map (choice_of q r l) (places (suc i) cs)))
      (cell-printable glyphs r l p q a) (from-printable glyphs q a r l (suc i) cs)

  pub prefix-printable : (glyphs : ℕ → List ℕ) (q : Renderer) → DrawsAscii q → (g : RowShape) (l : Line) → all_of is_printable (prefix glyphs q g mark (line_of q g l)) ≡ true
  prefix-printable glyphs q a g l = from-printable glyphs q a (row_of g) l 0 (cells_of g)

-- ---- the lines of a message
-- a byte that a message may hold and that ends no line is printable
pub writable-printable : (b : ℕ) → is_writable b ≡ true → eqb b newline ≡ false → is_printable b ≡ true
writable-printable b e f = rw f at e

first-printable : (m : List ℕ) → all_of is_writable m ≡ true → all_of is_printable (first_line m) ≡ true
first-printable [] e = refl
first-printable (b ∷ bs) e = go (eqb b newline) refl (first-printable bs (right-true (is_writable b) (all_of is_writable bs) e))
  where
    go : (t : Bool) → eqb b newline ≡ t → all_of is_printable (first_line bs) ≡ true → all_of is_printable (take (cond t 0 (suc (line_length bs))) (b ∷ bs)) ≡ true
    go true f k = refl
    go false f k = both (is_printable b) (all_of is_printable (first_line bs)) (writable-printable b (left-true (is_writable b) (all_of is_writable bs) e) f) k

all_drop : (t : ℕ → Bool) (n : ℕ) (s : List ℕ) → all_of t s ≡ true → all_of t (drop n s) ≡ true
all_drop t zero s e = e
all_drop t (suc n) [] e = refl
all_drop t (suc n) (b ∷ s) e = all_drop t n s (right-true (t b) (all_of t s) e)

pub all_take : (t : ℕ → Bool) (n : ℕ) (s : List ℕ) → all_of t s ≡ true → all_of t (take n s) ≡ true
all_take t zero s e = refl
all_take t (suc n) [] e = refl
all_take t (suc n) (b ∷ s) e = both (t b) (all_of t (take n s)) (left-true (t b) (all_of t s) e) (all_take t n s (right-true (t b) (all_of t s) e))

-- ---- a prefix line with a message line
pub line-measures : (whole : ℕ) (xs part : List ℕ) → Spans whole xs → all_of is_printable part ≡ true → measure_with whole xs part ≡ measure_of (line_with xs part)
line-measures whole xs part p e = go (eqb (length (trim_end part)) 0) refl
  where
    go : (b : Bool) → eqb (length (trim_end part)) 0 ≡ b
        → cond b (whole - (length xs - length (trim_end xs))) (whole + length (trim_end part) + 1) ≡ measure_of (line_with xs part)
    go true f =
        sym (ap measure_of (line-none xs part (eqb-true (length (trim_end part)) 0 f)) ∙ trim-measure xs ∙ ap (λ (n : ℕ). n - (length xs - length (trim_end xs))) (spans-alone whole xs p))
    go false f =
        let n : length (trim_end part) ≡ 0 → ⊥ = eqb-false (length (trim_end part)) 0 f in
        let k : all_of is_printable (blank ∷ trim_end part) ≡ true = rw (← trim-take part) (all_take is_printable (length (trim_end part)) part e) in
        let q : measure_of (blank ∷ trim_end part) ≡ suc (length (trim_end part)) = spans-alone (suc (length (trim_end part))) (blank ∷ trim_end part) (printable-spans (blank ∷ trim_end part) k) in
        omega (arith, ap measure_of (line-some xs part (omega (arith, n))), p (blank ∷ trim_end part), q)

-- prefix lines that measure so much each
abbrev pub AllSpan : ℕ → List (List ℕ) → Type 0
AllSpan whole [] = Unit {0}
AllSpan whole (p ∷ ps) = Spans whole p × AllSpan whole ps

pub span-map : {A : Type 0} (whole : ℕ) (f : A → List ℕ) → ((x : A) → Spans whole (f x)) → (xs : List A) → AllSpan whole (map f xs)
span-map whole f h [] = tt
span-map whole f h (x ∷ xs) = (h x, span-map whole f h xs)

pub lines-measure : (whole : ℕ) (ps : List (List ℕ)) (m : List ℕ) → AllSpan whole ps → all_of is_writable m ≡ true → measures_with whole ps m ≡ map measure_of (drawn ps m)
lines-measure whole [] m h e = refl
lines-measure whole (p ∷ ps) m h e =
    ap₂ ◌∷◌ (line-measures whole p (first_line m) h.0 (first-printable m e)) (lines-measure whole ps (other_lines m) h.1 (all_drop is_writable (suc (line_length m)) m e))
