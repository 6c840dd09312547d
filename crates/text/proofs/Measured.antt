-- What R-2 says of the measure in cells: the box characters are those of the sets, the cases that it leaves open, and the figure for ASCII and large ASCII.
use mathlib.Core.Path.{◌≡◌, refl, sym, ap, ap₂}
use mathlib.Core.Bool.{Bool, true, false, cond, not, ◌&&◌, ◌||◌}
use mathlib.Core.List.{List, [], ◌∷◌, ◌++◌, map}
use mathlib.Core.Logic.{inl, inr}
use Prim.Native.Nat.{ℕ, zero, suc, ◌-◌}
use native.Mathlib.Omega.{arith}
use lib.Dec.{eqb, leb, ltb}
use lib.ListN.{length, get_or, replicate}
use borrow.Author.Tests.{ne_eqb}
use Rattle.slices.specs.Characters.{newline, blank}
use Rattle.slices.specs.Joins.{joins}
use Rattle.render.specs.declared.types.RowShape.{RowShape}
use Rattle.render.specs.Lines.{cells_of}
use Rattle.render.specs.Mark.{is_mark}
use Rattle.render.specs.Refusals.{not_refused, mark_outside_span, message_too_long, message_byte_not_writable, output_shorter_than_lines, refusal}
use Rattle.shaper.specs.Shaper.{View}
use Rattle.row_shape.specs.Row.{RowReply, row}
use Rattle.message.specs.Message.{message_limit, is_printable, is_writable, all_of, onto, lines_of, trim_end}
use Rattle.message.proofs.MessageLaws.{trim-take}
use Rattle.glyphs.specs.declared.Renderer.{Renderer}
use Rattle.glyphs.specs.declared.types.Line.{Line}
use Rattle.glyphs.specs.declared.types.Line.TheVariants.{PostAncestry}
use Rattle.glyphs.specs.Cells.{all_lines, is_present, keep, PrefixLine, line_of, lines}
use Rattle.glyphs.specs.GlyphSets.{square, curved, dec, PARENT}
use Rattle.glyphs.specs.Row.{row_of}
use Rattle.output.specs.Measure.{box_characters, shifts, begins, opening, measure_of}
use Rattle.output.specs.Output.{finish, text_of, greatest, line_measure, TextView, new_text, lines_above, begin_row}
use Rattle.output.proofs.MeasureLaws.{both, left-true, right-true, spans-alone, printable-spans}
use Rattle.text.specs.Text.{times, needed, queues, repeated, with_messages, prefix, row_lines, text_lines, text_after, text_checks, text_answer, text_with, TextCall}
use Rattle.text.specs.Queue.{reply_of, LeftQueue}
use Rattle.text.specs.Inner.{prefix_measure}
use Rattle.text.proofs.SpanLaws.{all_append, all_take, every, all_printable, printable-append, writable-printable, TwoEachOf, DrawsAscii, prefix-spans, prefix-printable}

-- ---- "any of the sets' characters above 7E"
-- the glyphs of the three sets
abbrev all_glyphs : List (List ℕ)
all_glyphs = square ++ (curved ++ dec)

-- whether some bytes stand in others
abbrev stands : List ℕ → List ℕ → Bool
stands s [] = begins s []
stands s (b ∷ l) = begins s (b ∷ l) || stands s l

abbrev stands_in_one : List (List ℕ) → List ℕ → Bool
stands_in_one [] s = false
stands_in_one (g ∷ gs) s = stands s g || stands_in_one gs s

-- what is left of bytes without the box characters in them; the first k belong to one
abbrev without : ℕ → List ℕ → List ℕ
without k [] = []
without (suc k) (b ∷ l) = without k l
without zero (b ∷ l) = cond (ltb 0 (opening box_characters (b ∷ l))) (without (opening box_characters (b ∷ l) - 1) l) (b ∷ without 0 l)

-- each box character stands in some set's glyph, and without them no glyph has a byte above 7E
pub characters-of-the-sets : (every (stands_in_one all_glyphs) box_characters ≡ true) × (all_of (λ (b : ℕ). leb b 0x7e) (joins (without 0) all_glyphs) ≡ true)
characters-of-the-sets = (refl, refl)

-- no byte behind the first of a box character or a shift sequence begins one, so that there is one way to count
abbrev behind_first : List ℕ → List ℕ
behind_first [] = []
behind_first (b ∷ l) = l

abbrev begins_none : ℕ → Bool
begins_none b = every (λ (s : List ℕ). not (eqb (get_or s 0 0) b)) (box_characters ++ shifts)

pub counted-one-way : all_of begins_none (joins behind_first (box_characters ++ shifts)) ≡ true
counted-one-way = refl

-- ---- the cases that the words leave open
-- bytes that are no whole character of the sets and no whole shift sequence count one by one: E2 94, é, ═, ESC (, ESC ( C, ESC ESC ( 0 x; DEC's last blank
-- is shifted and counts, the square set's is trimmed; and the measure is that of the line with most cells, not of the one with most bytes
pub cases-measured :
    (map measure_of
    ((0xe2 ∷ 0x94 ∷ [])
    ∷ (0xc3 ∷ 0xa9 ∷ [])
    ∷ (0xe2 ∷ 0x95 ∷ 0x90 ∷ [])
    ∷ (0x1b ∷ 0x28 ∷ [])
    ∷ (0x1b ∷ 0x28 ∷ 0x43 ∷ [])
    ∷ (0x1b ∷ 0x1b ∷ 0x28 ∷ 0x30 ∷ 0x78 ∷ [])
    ∷ finish (get_or dec PARENT [])
    ∷ finish (get_or square PARENT [])
    ∷ [])
    ≡ 2 ∷ 2 ∷ 3 ∷ 2 ∷ 3 ∷ 2 ∷ 2 ∷ 1 ∷ [])
    × (map measure_of box_characters ≡ replicate 18 1)
    × (map measure_of shifts ≡ replicate 2 0)
    × (◌≡◌ {A = ℕ} (line_measure ((0xe2 ∷ 0x94 ∷ 0x82 ∷ []) ∷ (0x6f ∷ 0x6f ∷ []) ∷ [])) 2)
unfolding measure_of
cases-measured = (refl, refl, refl, refl)

-- ---- a prefix line, for any set whose glyphs measure 2 each: 2 for each of its cells, in large ASCII 3 for each but the first, which measures 2
pub prefix-measured : (mark : ℕ) → is_mark mark ≡ true → (glyphs : ℕ → List ℕ) (q : Renderer) → TwoEachOf glyphs q → (g : RowShape) (l : Line)
    → measure_of (prefix glyphs q g mark (line_of q g l)) ≡ prefix_measure q (length (cells_of g))
prefix-measured mark m glyphs q t g l = spans-alone (prefix_measure q (length (cells_of g))) (prefix glyphs q g mark (line_of q g l)) (prefix-spans mark m glyphs q t g l)

-- ---- ASCII and large ASCII: "the figure is the old one"
-- bytes that stay printable
trim-printable : (l : List ℕ) → all_of is_printable l ≡ true → all_of is_printable (trim_end l) ≡ true
trim-printable l e = rw (← trim-take l) (all_take is_printable (length (trim_end l)) l e)

lines-printable : (m : List ℕ) → all_of is_writable m ≡ true → all_printable (lines_of m) ≡ true
lines-printable [] e = refl
lines-printable (b ∷ bs) e = go (eqb b newline) refl (lines_of bs) (lines-printable bs (right-true (is_writable b) (all_of is_writable bs) e))
  where
    this : eqb b newline ≡ false → is_printable b ≡ true
    this f = writable-printable b (left-true (is_writable b) (all_of is_writable bs) e) f

    go : (t : Bool) → eqb b newline ≡ t → (ls : List (List ℕ)) → all_printable ls ≡ true → all_printable (cond t ([] ∷ ls) (onto b ls)) ≡ true
    go true f ls k = k
    go false f [] k = rw (this f) refl
    go false f (l ∷ ls) k = rw (this f) k

-- prefix lines that are printable, by the function that draws them
abbrev Drawable : (PrefixLine → List ℕ) → List PrefixLine → Type 0
Drawable f [] = Unit {0}
Drawable f (l ∷ ls) = (all_of is_printable (f l) ≡ true) × Drawable f ls

module _ (f : PrefixLine → List ℕ) where
  drawable-map : (h : Line → PrefixLine) → ((l : Line) → all_of is_printable (f (h l)) ≡ true) → (ls : List Line) → Drawable f (map h ls)
  drawable-map h p [] = tt
  drawable-map h p (l ∷ ls) = (p l, drawable-map h p ls)

  drawable-times : (n : ℕ) (l : PrefixLine) (ls : List PrefixLine) → all_of is_printable (f l) ≡ true → Drawable f ls → Drawable f (replicate n l ++ ls)
  drawable-times zero l ls e d = d
  drawable-times (suc n) l ls e d = (e, drawable-times n l ls e d)

  drawable-repeated : (t : PrefixLine → ℕ) (ls : List PrefixLine) → Drawable f ls → Drawable f (repeated t ls)
  drawable-repeated t [] d = tt
  drawable-repeated t (l ∷ ls) d = drawable-times (t l) l (repeated t ls) d.0 (drawable-repeated t ls d.1)

  -- with message lines that are printable
  line-printable : (l : PrefixLine) (m : List ℕ) → all_of is_printable (f l) ≡ true → all_of is_printable m ≡ true → all_of is_printable (finish (f l ++ (blank ∷ m))) ≡ true
  line-printable l m e k = trim-printable (f l ++ (blank ∷ m)) (all_append is_printable (f l) (blank ∷ m) e k)

  rows-printable : (ls : List PrefixLine) (ms : List (List ℕ)) → Drawable f ls → all_printable ms ≡ true
      → all_printable (map (λ (x : PrefixLine × List ℕ). finish (f x.0 ++ (blank ∷ x.1))) (with_messages ls ms)) ≡ true
  rows-printable [] ms d e = refl
  rows-printable (l ∷ ls) [] d e = both _ _ (line-printable l [] d.0 refl) (rows-printable ls [] d.1 refl)
  rows-printable (l ∷ ls) (m ∷ ms) d e =
      both _ _ (line-printable l m d.0 (left-true (all_of is_printable m) (all_printable ms) e)) (rows-printable ls ms d.1 (right-true (all_of is_printable m) (all_printable ms) e))

-- the queued line, and the separator
begin-printable : (b : Bool) (t : TextView) → all_printable t.queued ≡ true → all_printable (begin_row finish b t) ≡ true
begin-printable b t e = printable-append (map finish t.queued) _ (finished t.queued e) (go (b && eqb (lines_above t) 1))
  where
    finished : (ls : List (List ℕ)) → all_printable ls ≡ true → all_printable (map finish ls) ≡ true
    finished [] e = refl
    finished (l ∷ ls) e = both _ _ (trim-printable l (left-true (all_of is_printable l) (all_printable ls) e)) (finished ls (right-true (all_of is_printable l) (all_printable ls) e))

    go : (b : Bool) → all_printable (cond b ([] ∷ []) []) ≡ true
    go true = refl
    go false = refl

-- lines of printable bytes measure as many cells as they have bytes
as_long : (ls : List (List ℕ)) → all_printable ls ≡ true → map measure_of ls ≡ map length ls
as_long [] e = refl
as_long (l ∷ ls) e =
    ap₂ ◌∷◌ (spans-alone (length l) l (printable-spans l (left-true (all_of is_printable l) (all_printable ls) e))) (as_long ls (right-true (all_of is_printable l) (all_printable ls) e))

-- an accepted call's mark and message passed their checks
module _ (mark : ℕ) (message : List ℕ) (r : RowReply) (bytes out : List ℕ) (z : refusal (text_checks mark message r bytes out) ≡ 0) where
  abbrev others : ℕ
  others = cond (not (eqb r.refusal not_refused)) r.refusal (cond (ltb (length out) (length bytes)) output_shorter_than_lines not_refused)

  good-mark : is_mark mark ≡ true
  good-mark = go (is_mark mark) (cond (ltb message_limit (length message)) message_too_long (cond (not (all_of is_writable message)) message_byte_not_writable others)) z
    where
      go : (b : Bool) (n : ℕ) → cond (not b) mark_outside_span n ≡ 0 → b ≡ true
      go true n e = refl
      go false n e = absurd (omega (arith, e))

  good-message : all_of is_writable message ≡ true
  good-message = go (not (is_mark mark)) (ltb message_limit (length message)) (all_of is_writable message) others z
    where
      go : (a b c : Bool) (n : ℕ) → cond a mark_outside_span (cond b message_too_long (cond (not c) message_byte_not_writable n)) ≡ 0 → c ≡ true
      go true b c n e = absurd (omega (arith, e))
      go false true c n e = absurd (omega (arith, e))
      go false false true n e = refl
      go false false false n e = absurd (omega (arith, e))

module _ (glyphs : ℕ → List ℕ) (q : Renderer) (a : DrawsAscii q) where
  -- the lines of a row are printable, and so is the line that it leaves
  module _ (g : RowShape) (mark : ℕ) (good : is_mark mark ≡ true) (height : ℕ) where
    shape-printable : (m : List ℕ) → all_of is_writable m ≡ true → all_printable (row_lines finish glyphs q g mark (lines_of m) height) ≡ true
    shape-printable m e =
        let t : PrefixLine → ℕ = λ l. times g.style.link_line_placement (needed q g (length (lines_of m)) height) l.kind in
        rows-printable (prefix glyphs q g mark) (repeated t (lines q g)) (lines_of m)
        (drawable-repeated (prefix glyphs q g mark) t (lines q g)
        (drawable-map (prefix glyphs q g mark) (line_of q g) (prefix-printable mark good glyphs q a g) (keep (is_present q (row_of g)) all_lines)))
        (lines-printable m e)

    foot-printable : (ms : List (List ℕ)) → all_printable (text_after glyphs q g mark ms height).queued ≡ true
    foot-printable ms = go (queues q g (length ms) height)
      where
        go : (b : Bool) → all_printable (cond b (prefix glyphs q g mark (line_of q g PostAncestry) ∷ []) []) ≡ true
        go true = both _ _ (prefix-printable mark good glyphs q a g PostAncestry) refl
        go false = refl

  queue-printable : (t : TextView) → LeftQueue glyphs q t → all_printable t.queued ≡ true
  unfolding text_with
  queue-printable t (inl e) = rw e refl
  queue-printable t (inr c) = rw c.queued (go (refusal (text_checks k.mark k.message r (text_of ls) c.output)) refl c.accepted)
    where
      k : TextCall
      k = c.call

      r : RowReply
      r = row c.view k.node k.entries

      ls : List (List ℕ)
      ls = text_lines finish glyphs c.before q r.shape k.mark (lines_of k.message) c.view.height

      u : TextView
      u = text_after glyphs q r.shape k.mark (lines_of k.message) c.view.height

      go : (n : ℕ) → refusal (text_checks k.mark k.message r (text_of ls) c.output) ≡ n → (text_answer n ls c.output c.view r.view c.before u).refusal ≡ 0
          → all_printable (text_answer n ls c.output c.view r.view c.before u).text.queued ≡ true
      go zero e z = foot-printable r.shape k.mark (good-mark k.mark k.message r (text_of ls) c.output e) c.view.height (lines_of k.message)
      go (suc n) e z = absurd (omega (arith, z))

  -- "For ASCII and large ASCII the figure is the old one": the greatest count of bytes over the lines that the call writes, 0 where it is refused
  pub measure-as-before : (v : View) (t : TextView) (c : TextCall) (out : List ℕ) → LeftQueue glyphs q t
      → (reply_of glyphs q v t c out).measure
      ≡ cond (eqb (reply_of glyphs q v t c out).refusal 0)
      (greatest (map length (text_lines finish glyphs t q (row v c.node c.entries).shape c.mark (lines_of c.message) v.height))) 0
  unfolding text_with
  measure-as-before v t c out left = go (refusal (text_checks c.mark c.message r (text_of ls) out)) refl
    where
      r : RowReply
      r = row v c.node c.entries

      ls : List (List ℕ)
      ls = text_lines finish glyphs t q r.shape c.mark (lines_of c.message) v.height

      u : TextView
      u = text_after glyphs q r.shape c.mark (lines_of c.message) v.height

      go : (n : ℕ) → refusal (text_checks c.mark c.message r (text_of ls) out) ≡ n
          → (text_answer n ls out v r.view t u).measure ≡ cond (eqb (text_answer n ls out v r.view t u).refusal 0) (greatest (map length ls)) 0
      go zero e =
          let good = good-mark c.mark c.message r (text_of ls) out e in
          let writable = good-message c.mark c.message r (text_of ls) out e in
          ap greatest
          (as_long ls
          (printable-append (begin_row finish r.shape.separator_line t) (row_lines finish glyphs q r.shape c.mark (lines_of c.message) v.height)
          (begin-printable r.shape.separator_line t (queue-printable t left)) (shape-printable r.shape c.mark good v.height c.message writable)))
      go (suc n) e = sym (rw (ne_eqb (suc n) 0 (λ z. omega (arith, z))) refl)

-- ---- the condition holds from a new text state on: it stays where each text call has the same renderer and glyphs, refused ones too
pub queue-left : (glyphs : ℕ → List ℕ) (q : Renderer) (v : View) (t : TextView) (c : TextCall) (out : List ℕ) → LeftQueue glyphs q t → LeftQueue glyphs q (reply_of glyphs q v t c out).text
unfolding text_with
queue-left glyphs q v t c out left = go (refusal (text_checks c.mark c.message r (text_of ls) out)) refl
  where
    r : RowReply
    r = row v c.node c.entries

    ls : List (List ℕ)
    ls = text_lines finish glyphs t q r.shape c.mark (lines_of c.message) v.height

    u : TextView
    u = text_after glyphs q r.shape c.mark (lines_of c.message) v.height

    go : (n : ℕ) → refusal (text_checks c.mark c.message r (text_of ls) out) ≡ n → LeftQueue glyphs q (text_answer n ls out v r.view t u).text
    go zero e = inr (record { view = v; before = t; call = c; output = out; accepted = rw e refl; queued = rw e refl })
    go (suc n) e = left

pub none_left : (glyphs : ℕ → List ℕ) (q : Renderer) → LeftQueue glyphs q new_text
none_left glyphs q = inl refl
