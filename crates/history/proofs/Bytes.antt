-- Head line and foot line as bytes: an accepted renderer call writes each once, first and last, with any mark; and the bytes tell the strokes.
use Prim.Native.Nat.{ℕ, zero, suc, ◌+◌, ◌≤◌}
use mathlib.Core.Path.{◌≡◌, refl, sym, ◌∙◌, ap, ap₂}
use mathlib.Core.Logic.{◌≢◌}
use mathlib.Core.Bool.{Bool, true, false, cond, not, ◌&&◌}
use mathlib.Core.List.{List, [], ◌∷◌, ◌++◌, map, append_assoc, append-nil}
use native.Mathlib.Omega.{arith}
use lib.Dec.{eqb}
use lib.ListN.{length, get_or, take, drop, replicate}
use lib.Seq.{take-append_seam}
use borrow.Author.Tests.{lt-ltb, ne_eqb}
use Rattle.std.proofs.lemmas.List.{append_cancel_left}
use Rattle.render.specs.declared.render.Ancestor.{Ancestor as Entry}
use Rattle.render.specs.declared.render.PadLine.{PadLine}
use Rattle.render.specs.declared.render.PadLine.TheVariants as pad
use Rattle.render.specs.declared.types.DashStyle.{DashStyle}
use Rattle.render.specs.declared.types.DashStyle.TheVariants.{Persistent, Once}
use Rattle.render.specs.declared.types.RowShape.{RowShape}
use Rattle.render.specs.Lines.{cells_of, pre_node_line, post_ancestry_line}
use Rattle.render.specs.Mark.{is_mark}
use Rattle.render.specs.Refusals.{mark_outside_span, refusal}
use Rattle.shaper.specs.Shaper.{View}
use Rattle.row_shape.specs.Row.{row}
use Rattle.glyphs.specs.declared.Renderer.{Renderer}
use Rattle.glyphs.specs.declared.Renderer.TheVariants.{Ascii, AsciiLarge, Square, Curved, Dec}
use Rattle.glyphs.specs.declared.types.Line.{Line}
use Rattle.glyphs.specs.declared.types.Line.TheVariants.{PreNode, Node, PostNode, Link, SecondLink, Term, SecondTerm, Ancestry, PostAncestry}
use Rattle.glyphs.specs.Cells.{all_lines, is_present, keep, choices_of, line_of, glyphs_of, bytes_of, joins_from, line_bytes}
use Rattle.glyphs.specs.Choices.{pad_choice}
use Rattle.glyphs.specs.Row.{row_of, drawing_of}
use Rattle.glyphs.specs.Tables.{glyph_at, table_of, numbers_from}
use Rattle.glyphs.proofs.TableLaws.{holds, glyph-line}
use Rattle.message.specs.Inner.{ends}
use Rattle.message.specs.Message.{all_of, lines_of}
use Rattle.message.proofs.MessageLaws.{ends-append}
use Rattle.slices.specs.Characters.{newline}
use Rattle.slices.specs.Joins.{joins, over}
use Rattle.prefix_lines.specs.PrefixLines.{letter, lettered_line, lines_bytes, checks_for, answered, next_prefix_lines}
use Rattle.history.specs.Demand3.{Stroke, Blank, Dashed, Solid, Other}
use Rattle.history.specs.Ours.{head_line, foot_line}
use Rattle.history.specs.Bytes.{stroke_bytes, strokes_from, strokes_bytes, NoOther, head_text, foot_text, written_lines, begins_with, LinesWritten}
use Rattle.history.proofs.Accepted.{renderer-accepts}
use Rattle.history.proofs.Lines.{pad_stroke, pad-known, head-pads, foot-pads, head-shows, foot-shows}

-- ---- a line of pad cells as bytes

-- "with any mark" (01): the choice of a pad cell has the bytes of its stroke
any-mark : (q : Renderer) (d : DashStyle) (mark i : ℕ) (x : PadLine) → bytes_of (glyphs_of q) q d mark i (pad_choice x) ≡ stroke_bytes q d i (pad_stroke x)
unfolding bytes_of
any-mark Ascii d mark i pad.Blank = refl
any-mark Ascii d mark i pad.Ancestor = refl
any-mark Ascii d mark i pad.Parent = refl
any-mark AsciiLarge d mark i pad.Blank = refl
any-mark AsciiLarge d mark i pad.Ancestor = refl
any-mark AsciiLarge d mark i pad.Parent = refl
any-mark Square d mark i pad.Blank = refl
any-mark Square d mark i pad.Ancestor = refl
any-mark Square d mark i pad.Parent = refl
any-mark Curved d mark i pad.Blank = refl
any-mark Curved d mark i pad.Ancestor = refl
any-mark Curved d mark i pad.Parent = refl
any-mark Dec d mark i pad.Blank = refl
any-mark Dec d mark i pad.Ancestor = refl
any-mark Dec d mark i pad.Parent = refl

pads-bytes : (q : Renderer) (d : DashStyle) (mark i : ℕ) (ps : List PadLine)
    → joins_from (bytes_of (glyphs_of q) q d mark) i (map pad_choice ps) ≡ strokes_from q d i (map pad_stroke ps)
pads-bytes q d mark i [] = refl
pads-bytes q d mark i (x ∷ ps) = ap₂ ◌++◌ (any-mark q d mark i x) (pads-bytes q d mark (suc i) ps)

module _ (q : Renderer) (g : RowShape) (mark : ℕ) where
  -- the shape's dashes
  abbrev dashes : DashStyle
  dashes = g.style.dash_style

  -- a line's cells
  abbrev text : Line → List ℕ
  text l = line_bytes (glyphs_of q) q dashes mark (line_of q g l).choices

  head-text : text PreNode ≡ strokes_bytes q dashes (head_line q g)
  head-text =
      ap (line_bytes (glyphs_of q) q dashes mark) (head-pads q g) ∙ pads-bytes q dashes mark 0 (pre_node_line g)
      ∙ ap (strokes_bytes q dashes) (sym (head-shows q g))

  foot-text : text PostAncestry ≡ strokes_bytes q dashes (foot_line q g)
  foot-text =
      ap (line_bytes (glyphs_of q) q dashes mark) (foot-pads q g) ∙ pads-bytes q dashes mark 0 (post_ancestry_line g)
      ∙ ap (strokes_bytes q dashes) (sym (foot-shows q g))

  -- ---- what is written: the head line first, the foot line last

  -- a line with its letter and 0A
  abbrev lettered : Line → List ℕ
  lettered l = lettered_line (glyphs_of q) q dashes mark (line_of q g l)

  -- the lines of a list
  abbrev joined : List Line → List ℕ
  joined ls = joins (lettered_line (glyphs_of q) q dashes mark) (map (line_of q g) ls)

  -- those among them that the row has
  abbrev present : List Line → List Line
  present ls = keep (is_present q (row_of g)) ls

  -- the line at the end of a list of lines is the last that is written
  last : (ls : List Line) → (front : List ℕ) × (joined (present (ls ++ (PostAncestry ∷ []))) ≡ front ++ lettered PostAncestry)
  last [] = ([], append-nil (lettered PostAncestry))
  last (l ∷ ls) = go (last ls) (is_present q (row_of g) l) refl
    where
      go : (front : List ℕ) × (joined (present (ls ++ (PostAncestry ∷ []))) ≡ front ++ lettered PostAncestry) → (b : Bool) → is_present q (row_of g) l ≡ b
          → (front : List ℕ) × (joined (present (l ∷ (ls ++ (PostAncestry ∷ [])))) ≡ front ++ lettered PostAncestry)
      go r true e = (
        lettered l ++ r.0,
        rw e (ap (λ (x : List ℕ). lettered l ++ x) r.1 ∙ sym (append_assoc (lettered l) r.0 (lettered PostAncestry))),
      )
      go r false e = (r.0, rw e r.1)

  pub head_first : (rest : List ℕ) × (lines_bytes (glyphs_of q) q g mark ≡ head_text q g.style.dash_style (head_line q g) ++ (newline ∷ rest))
  unfolding lines_bytes
  head_first =
      let rest = joined (present (Node ∷ PostNode ∷ Link ∷ SecondLink ∷ Term ∷ SecondTerm ∷ Ancestry ∷ PostAncestry ∷ [])) in (
        rest,
        append_assoc (letter PreNode ∷ text PreNode) (newline ∷ []) rest ∙ ap (λ (x : List ℕ). letter PreNode ∷ (x ++ (newline ∷ rest))) head-text,
      )

  pub foot-last : (front : List ℕ) × (lines_bytes (glyphs_of q) q g mark ≡ front ++ (foot_text q g.style.dash_style (foot_line q g) ++ (newline ∷ [])))
  unfolding lines_bytes
  foot-last =
      let r = last (PreNode ∷ Node ∷ PostNode ∷ Link ∷ SecondLink ∷ Term ∷ SecondTerm ∷ Ancestry ∷ []) in
      (r.0, r.1 ∙ ap (λ (x : List ℕ). r.0 ++ (letter PostAncestry ∷ (x ++ (newline ∷ [])))) foot-text)

  -- an accepted call writes all these bytes, and nothing behind them
  pub written : (out : List ℕ) → (next_prefix_lines g q mark out).refusal ≡ 0
      → ((next_prefix_lines g q mark out).output ≡ over (lines_bytes (glyphs_of q) q g mark) out)
      × ((next_prefix_lines g q mark out).length ≡ length (lines_bytes (glyphs_of q) q g mark))
  written out h = go (refusal (checks_for g mark (lines_bytes (glyphs_of q) q g mark) out)) h
    where
      go : (r : ℕ) → (answered r (lines_bytes (glyphs_of q) q g mark) out).refusal ≡ 0
          → ((answered r (lines_bytes (glyphs_of q) q g mark) out).output ≡ over (lines_bytes (glyphs_of q) q g mark) out)
          × ((answered r (lines_bytes (glyphs_of q) q g mark) out).length ≡ length (lines_bytes (glyphs_of q) q g mark))
      go zero z = (refl, refl)
      go (suc r) z = absurd (omega (arith, z))

-- ---- the bytes tell the strokes: no stroke's bytes begin another's

-- whether bytes begin with others
abbrev begins : List ℕ → List ℕ → Bool
begins [] text = true
begins (b ∷ bs) [] = false
begins (b ∷ bs) (t ∷ text) = eqb b t && begins bs text

-- the stroke with whose bytes a text begins, where it begins with one
abbrev read : Renderer → DashStyle → ℕ → List ℕ → Stroke
read q d i bs = cond (begins (stroke_bytes q d i Blank) bs) Blank (cond (begins (stroke_bytes q d i Solid) bs) Solid Dashed)

blank-read : (q : Renderer) (d : DashStyle) (i : ℕ) (rest : List ℕ) → read q d i (stroke_bytes q d i Blank ++ rest) ≡ Blank
unfolding bytes_of glyphs_of
blank-read Ascii d i rest = refl
blank-read AsciiLarge d zero rest = refl
blank-read AsciiLarge d (suc i) rest = rw (lt-ltb 0 (suc i) (omega arith))
blank-read Square d i rest = refl
blank-read Curved d i rest = refl
blank-read Dec d i rest = refl

solid-read : (q : Renderer) (d : DashStyle) (i : ℕ) (rest : List ℕ) → read q d i (stroke_bytes q d i Solid ++ rest) ≡ Solid
unfolding bytes_of glyphs_of
solid-read Ascii d i rest = refl
solid-read AsciiLarge d zero rest = refl
solid-read AsciiLarge d (suc i) rest = rw (lt-ltb 0 (suc i) (omega arith))
solid-read Square d i rest = refl
solid-read Curved d i rest = refl
solid-read Dec d i rest = refl

dashed-read : (q : Renderer) (d : DashStyle) (i : ℕ) (rest : List ℕ) → read q d i (stroke_bytes q d i Dashed ++ rest) ≡ Dashed
unfolding bytes_of glyphs_of
dashed-read Ascii Persistent i rest = refl
dashed-read Ascii Once i rest = refl
dashed-read AsciiLarge Persistent zero rest = refl
dashed-read AsciiLarge Once zero rest = refl
dashed-read AsciiLarge Persistent (suc i) rest = rw (lt-ltb 0 (suc i) (omega arith))
dashed-read AsciiLarge Once (suc i) rest = rw (lt-ltb 0 (suc i) (omega arith))
dashed-read Square Persistent i rest = refl
dashed-read Square Once i rest = refl
dashed-read Curved Persistent i rest = refl
dashed-read Curved Once i rest = refl
dashed-read Dec Persistent i rest = refl
dashed-read Dec Once i rest = refl

module _ (q : Renderer) (d : DashStyle) where
  read_back : (i : ℕ) (x : Stroke) (rest : List ℕ) → x ≢ Other → read q d i (stroke_bytes q d i x ++ rest) ≡ x
  read_back i Blank rest h = blank-read q d i rest
  read_back i Dashed rest h = dashed-read q d i rest
  read_back i Solid rest h = solid-read q d i rest
  read_back i Other rest h = absurd (h refl)

  -- two texts that each begin with a stroke
  front-told : (i : ℕ) (x y : Stroke) (r s : List ℕ) → stroke_bytes q d i x ++ r ≡ stroke_bytes q d i y ++ s → x ≢ Other → y ≢ Other → x ≡ y
  front-told i x y r s e h k = sym (read_back i x r h) ∙ ap (read q d i) e ∙ read_back i y s k

  pub strokes-told : (i : ℕ) (x y : Stroke) → stroke_bytes q d i x ≡ stroke_bytes q d i y → x ≢ Other → y ≢ Other → x ≡ y
  strokes-told i x y e h k = front-told i x y [] [] (ap (λ (l : List ℕ). l ++ []) e) h k

  append-none : (r s : List ℕ) → r ++ s ≡ [] → r ≡ []
  append-none [] s e = refl
  append-none (b ∷ r) s e = absurd (omega (arith, ap length e))

  -- a stroke has bytes: with none it would be read as whichever stroke stands behind it
  some_bytes : (i : ℕ) (x : Stroke) → x ≢ Other → stroke_bytes q d i x ≢ []
  some_bytes i x h e =
      let a : read q d i ([] ++ (stroke_bytes q d i Blank ++ [])) ≡ x = rw e at (read_back i x (stroke_bytes q d i Blank ++ []) h) in
      let b : read q d i ([] ++ (stroke_bytes q d i Solid ++ [])) ≡ x = rw e at (read_back i x (stroke_bytes q d i Solid ++ []) h) in
      let s : Blank ≡ Solid = sym (blank-read q d i []) ∙ a ∙ sym b ∙ solid-read q d i [] in
      cc

  -- equal bytes are of equal lines of strokes
  from_told : (i : ℕ) (xs ys : List Stroke) → NoOther xs → NoOther ys → strokes_from q d i xs ≡ strokes_from q d i ys → xs ≡ ys
  from_told i [] [] h k e = refl
  from_told i [] (y ∷ ys) h k e = absurd (some_bytes i y k.0 (append-none (stroke_bytes q d i y) (strokes_from q d (suc i) ys) (sym e)))
  from_told i (x ∷ xs) [] h k e = absurd (some_bytes i x h.0 (append-none (stroke_bytes q d i x) (strokes_from q d (suc i) xs) e))
  from_told i (x ∷ xs) (y ∷ ys) h k e = ap₂ ◌∷◌ same (from_told (suc i) xs ys h.1 k.1 behind)
    where
      same : x ≡ y
      same = front-told i x y (strokes_from q d (suc i) xs) (strokes_from q d (suc i) ys) e h.0 k.0

      behind : strokes_from q d (suc i) xs ≡ strokes_from q d (suc i) ys
      behind = append_cancel_left (stroke_bytes q d i y) (strokes_from q d (suc i) xs) (strokes_from q d (suc i) ys) (rw same at e)

  pub lines-told : (xs ys : List Stroke) → NoOther xs → NoOther ys → strokes_bytes q d xs ≡ strokes_bytes q d ys → xs ≡ ys
  lines-told xs ys h k e = from_told 0 xs ys h k e

-- the cells of a head line or a foot line are "solid, dashed or blank" (01)
pads-known : (ps : List PadLine) → NoOther (map pad_stroke ps)
pads-known [] = tt
pads-known (x ∷ ps) = (pad-known x, pads-known ps)

pub head-known : (q : Renderer) (g : RowShape) → NoOther (head_line q g)
head-known q g = rw (head-shows q g) (pads-known (pre_node_line g))

pub foot-known : (q : Renderer) (g : RowShape) → NoOther (foot_line q g)
foot-known q g = rw (foot-shows q g) (pads-known (post_ancestry_line g))

-- ---- no line has a 0A within it

joins-no-end : (f : ℕ → List ℕ) → ((n : ℕ) → ends (f n) ≡ 0) → (ns : List ℕ) → ends (joins f ns) ≡ 0
joins-no-end f h [] = refl
joins-no-end f h (n ∷ ns) = rw (ends-append (f n) (joins f ns), h n, joins-no-end f h ns)

-- a glyph out of some that have none
each-no-end : (gs : List (List ℕ)) → ends (joins (λ (bs : List ℕ). bs) gs) ≡ 0 → (n : ℕ) → ends (get_or gs n []) ≡ 0
each-no-end [] h n = refl
each-no-end (bs ∷ gs) h zero = omega (arith, h, ends-append bs (joins (λ (cs : List ℕ). cs) gs))
each-no-end (bs ∷ gs) h (suc n) = each-no-end gs (omega (arith, h, ends-append bs (joins (λ (cs : List ℕ). cs) gs))) n

-- a table of some glyphs: for each its count and eight places (`glyph_at`)
abbrev table : List (List ℕ) → List ℕ
table gs = joins (λ (bs : List ℕ). length bs ∷ take 8 (bs ++ replicate 8 0)) gs

-- the glyphs of a renderer's table, the mark among them
abbrev glyphs : Renderer → ℕ → List (List ℕ)
glyphs q mark = table_of (glyphs_of q) q mark

table-holds : (q : Renderer) (mark n : ℕ) → glyph_at (table (glyphs q mark)) n ≡ get_or (glyphs q mark) n []
unfolding glyphs_of
table-holds Ascii mark = holds (table (glyphs Ascii mark)) 33 (glyphs Ascii mark) refl refl
table-holds AsciiLarge mark = holds (table (glyphs AsciiLarge mark)) 182 (glyphs AsciiLarge mark) refl refl
table-holds Square mark = holds (table (glyphs Square mark)) 16 (glyphs Square mark) refl refl
table-holds Curved mark = holds (table (glyphs Curved mark)) 16 (glyphs Curved mark) refl refl
table-holds Dec mark = holds (table (glyphs Dec mark)) 16 (glyphs Dec mark) refl refl

glyphs-no-end : (q : Renderer) (mark : ℕ) → eqb mark newline ≡ false → ends (joins (λ (bs : List ℕ). bs) (glyphs q mark)) ≡ 0
unfolding glyphs_of
glyphs-no-end Ascii mark h = rw h
glyphs-no-end AsciiLarge mark h = rw h
glyphs-no-end Square mark h = rw h
glyphs-no-end Curved mark h = rw h
glyphs-no-end Dec mark h = rw h

module _ (q : Renderer) (g : RowShape) (mark : ℕ) (good : eqb mark newline ≡ false) where
  -- a line with its letter
  abbrev shown : Line → List ℕ
  shown l = letter l ∷ text q g mark l

  glyph-no-end : (n : ℕ) → ends (glyph_at (table (glyphs q mark)) n) ≡ 0
  glyph-no-end n = ap ends (table-holds q mark n) ∙ each-no-end (glyphs q mark) (glyphs-no-end q mark good) n

  letter-no-end : (l : Line) → eqb (letter l) newline ≡ false
  letter-no-end PreNode = refl
  letter-no-end Node = refl
  letter-no-end PostNode = refl
  letter-no-end Link = refl
  letter-no-end SecondLink = refl
  letter-no-end Term = refl
  letter-no-end SecondTerm = refl
  letter-no-end Ancestry = refl
  letter-no-end PostAncestry = refl

  shown-no-end : (l : Line) → ends (shown l) ≡ 0
  shown-no-end l =
      let t = table (glyphs q mark) in
      let e = glyph-line t (glyphs_of q) (drawing_of g q mark) (λ n h. table-holds q mark n) l in
      rw (letter-no-end l, ← e, joins-no-end (glyph_at t) glyph-no-end (numbers_from q g.style.dash_style 0 (choices_of q (row_of g) (cells_of g) l)))

  -- ---- split at 0A, what is written is these lines

  line-apart : (bs rest : List ℕ) → ends bs ≡ 0 → lines_of (bs ++ (newline ∷ rest)) ≡ bs ∷ lines_of rest
  line-apart [] rest h = refl
  line-apart (b ∷ bs) rest h = go (eqb b newline) refl (line-apart bs rest)
    where
      go : (t : Bool) → eqb b newline ≡ t → (ends bs ≡ 0 → lines_of (bs ++ (newline ∷ rest)) ≡ bs ∷ lines_of rest)
          → lines_of (b ∷ (bs ++ (newline ∷ rest))) ≡ (b ∷ bs) ∷ lines_of rest
      go true e r = let z : 1 + ends bs ≡ 0 = rw e at h in absurd (omega (arith, z))
      go false e r = let z : 0 + ends bs ≡ 0 = rw e at h in rw (e, r (omega (arith, z)))

  lines-apart : (ls : List Line) → lines_of (joined q g mark ls) ≡ map shown ls
  lines-apart [] = refl
  lines-apart (l ∷ ls) =
      let rest = joined q g mark ls in
      ap lines_of (append_assoc (shown l) (newline ∷ []) rest) ∙ line-apart (shown l) rest (shown-no-end l)
      ∙ ap (λ (r : List (List ℕ)). shown l ∷ r) (lines-apart ls)

  -- of the lines in a list, those that the row has and that begin with a letter
  abbrev of_letter : ℕ → List Line → List (List ℕ)
  of_letter k ls = keep (begins_with k) (map shown (present q g mark ls))

  -- lines of other letters are passed over
  passed : (k : ℕ) (ls rest : List Line) → all_of (λ (b : ℕ). not (eqb b k)) (map letter ls) ≡ true → of_letter k (ls ++ rest) ≡ of_letter k rest
  passed k [] rest h = refl
  passed k (l ∷ ls) rest h = go (eqb (letter l) k) refl (is_present q (row_of g) l) refl (passed k ls rest)
    where
      go : (b : Bool) → eqb (letter l) k ≡ b → (c : Bool) → is_present q (row_of g) l ≡ c
          → (all_of (λ (b : ℕ). not (eqb b k)) (map letter ls) ≡ true → of_letter k (ls ++ rest) ≡ of_letter k rest)
          → of_letter k (l ∷ (ls ++ rest)) ≡ of_letter k rest
      go true e c f r = let z : false ≡ true = rw e at h in cc
      go false e true f r = rw (f, e) (r (rw e at h))
      go false e false f r = rw f (r (rw e at h))

  all_apart : lines_of (lines_bytes (glyphs_of q) q g mark) ≡ map shown (present q g mark all_lines)
  unfolding lines_bytes
  all_apart = lines-apart (present q g mark all_lines)

  one-head : keep (begins_with (letter PreNode)) (lines_of (lines_bytes (glyphs_of q) q g mark)) ≡ head_text q g.style.dash_style (head_line q g) ∷ []
  one-head =
      ap (keep (begins_with (letter PreNode))) all_apart
      ∙ ap (λ (r : List (List ℕ)). shown PreNode ∷ r)
      (passed (letter PreNode) (Node ∷ PostNode ∷ Link ∷ SecondLink ∷ Term ∷ SecondTerm ∷ Ancestry ∷ PostAncestry ∷ []) [] refl)
      ∙ ap (λ (r : List ℕ). (letter PreNode ∷ r) ∷ []) (head-text q g mark)

  one-foot : keep (begins_with (letter PostAncestry)) (lines_of (lines_bytes (glyphs_of q) q g mark)) ≡ foot_text q g.style.dash_style (foot_line q g) ∷ []
  one-foot =
      ap (keep (begins_with (letter PostAncestry))) all_apart
      ∙ passed (letter PostAncestry) (PreNode ∷ Node ∷ PostNode ∷ Link ∷ SecondLink ∷ Term ∷ SecondTerm ∷ Ancestry ∷ []) (PostAncestry ∷ []) refl
      ∙ ap (λ (r : List ℕ). (letter PostAncestry ∷ r) ∷ []) (foot-text q g mark)

-- ---- what is claimed of a renderer call

-- the mark of an accepted call is not 0A
good-mark : (g : RowShape) (q : Renderer) (mark : ℕ) (out : List ℕ) → (next_prefix_lines g q mark out).refusal ≡ 0 → eqb mark newline ≡ false
good-mark g q mark out h = go (is_mark mark) refl
  where
    go : (b : Bool) → is_mark mark ≡ b → eqb mark newline ≡ false
    go true e = ne_eqb mark newline (λ z. let f : false ≡ true = rw z at e in cc)
    go false e = let z : mark_outside_span ≡ 0 = rw e at h in absurd (omega (arith, z))

-- every accepted renderer call writes them
pub accepted-lines : (g : RowShape) (q : Renderer) (mark : ℕ) (out : List ℕ) → (next_prefix_lines g q mark out).refusal ≡ 0 → LinesWritten q g (head_line q g) (foot_line q g) mark out
accepted-lines g q mark out h =
    let bs = lines_bytes (glyphs_of q) q g mark in
    let w = written q g mark out h in
    let first = head_first q g mark in
    let last = foot-last q g mark in
    let good = good-mark g q mark out h in
    let lines : written_lines (next_prefix_lines g q mark out) ≡ lines_of bs
    = ap lines_of (ap₂ take w.1 w.0 ∙ take-append_seam bs (drop (length bs) out)) in
    record {
      accepted = h;
      first = (
        first.0 ++ drop (length bs) out,
        w.0 ∙ ap (λ (x : List ℕ). x ++ drop (length bs) out) first.1
            ∙ append_assoc (head_text q g.style.dash_style (head_line q g)) (newline ∷ first.0) (drop (length bs) out),
      );
      last = (last.0, w.0 ∙ ap (λ (x : List ℕ). over x out) last.1, w.1 ∙ ap length last.1);
      one_head = ap (keep (begins_with (letter PreNode))) lines ∙ one-head q g mark good;
      one_foot = ap (keep (begins_with (letter PostAncestry))) lines ∙ one-foot q g mark good;
    }

-- and the call accepts the shape of every accepted row, given room and a good mark
pub lines-written : (v : View) (n : ℕ) (es : List Entry) (q : Renderer) (mark : ℕ) (out : List ℕ)
    → (row v n es).refusal ≡ 0 → is_mark mark ≡ true
    → length (lines_bytes (glyphs_of q) q (row v n es).shape mark) ≤ length out
    → LinesWritten q (row v n es).shape (head_line q (row v n es).shape) (foot_line q (row v n es).shape) mark out
lines-written v n es q mark out h good room = accepted-lines (row v n es).shape q mark out (renderer-accepts v n es q mark out h good room)
