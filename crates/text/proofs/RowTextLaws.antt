-- Laws of a row's text: the lines that the code draws are those of the definition, and so is the text state after them.
use mathlib.Core.Path.{◌≡◌, refl, sym, ap, ap₂, subst, ◌∙◌}
use mathlib.Core.Bool.{Bool, true, false, cond, not, ◌&&◌}
use mathlib.Core.List.{List, [], ◌∷◌, ◌++◌, map}
use Prim.Native.Nat.{ℕ, suc, ◌+◌, ◌-◌, ◌*◌, ◌<◌, ◌≤◌, min, max}
use native.Mathlib.Nat.{mul-le-mul}
use native.Mathlib.Omega.{arith}
use borrow.Author.Tests.{lt-ltb, le-ltb, le-leb, leb-true, leb-false}
use lib.Dec.{eqb, leb, lit≤}
use lib.ListN.{length, take, drop, replicate, length-map, length-take, length-drop}
use Rattle.slices.specs.Joins.{over}
use Rattle.slices.proofs.JoinLaws.{joins-append}
use Rattle.slices.proofs.OverLaws.{part-written}
use Rattle.column.specs.Columns.{column_limit}
use Rattle.render.specs.declared.types.DashStyle.{DashStyle}
use Rattle.render.specs.declared.types.LinkLinePlacement.{LinkLinePlacement}
use Rattle.render.specs.declared.types.LinkLinePlacement.TheVariants.{Top, Bottom}
use Rattle.render.specs.declared.types.RowShape.{RowShape}
use Rattle.render.specs.Lines.{cells_of}
use Rattle.render.specs.Mark.{is_mark}
use Rattle.render.specs.Refusals.{output_shorter_than_lines}
use Rattle.shaper.specs.Shaper.{height_limit}
use Rattle.glyphs.specs.declared.Renderer.{Renderer}
use Rattle.glyphs.specs.declared.types.Choice.{Choice}
use Rattle.glyphs.specs.declared.types.Drawing.{Drawing}
use Rattle.glyphs.specs.declared.types.Line.{Line}
use Rattle.glyphs.specs.declared.types.Line.TheVariants.{PreNode, Node, PostNode, Link, SecondLink, Term, SecondTerm, Ancestry, PostAncestry}
use Rattle.glyphs.specs.declared.types.Row.{Row}
use Rattle.glyphs.specs.Cells.{all_lines, is_present, keep, choice_by, PrefixLine, line_of, lines, glyphs_of}
use Rattle.glyphs.specs.Row.{row_of, drawing_of, places}
use Rattle.glyphs.specs.LinkTable.{named}
use Rattle.glyphs.specs.Tables.{Tables, numbers_from, numbers_in, cells_text, WritesCells}
use Rattle.glyphs.proofs.PlaceLaws.{length-places}
use Rattle.glyphs.proofs.TableLaws.{table-line}
use Rattle.message.specs.Message.{is_writable, all_of, lines_of, message_limit}
use Rattle.message.specs.Inner.{other_lines}
use Rattle.message.proofs.MessageLaws.{lines-few}
use Rattle.output.specs.declared.Put.{Put}
use Rattle.output.specs.declared.TextState.{TextState}
use Rattle.output.specs.Output.{queue_limit, finish, ended, text_of, greatest, line_measure, TextView, text_view_of, begin_row, Puts}
use Rattle.output.proofs.PutLaws.{measure-append, text-length, begin-short, put_count, put-bytes, put-measure}
use Rattle.text.specs.declared.prefix_lines_to_text.Plan.{Plan}
use Rattle.text.specs.Text.{is_repeatable, is_bottom, times, needed, repeated, with_messages, prefix, row_lines, text_after, text_lines}
use Rattle.text.specs.Inner.{line_with, drawn, prefix_measure, measures_with, whole_measure, measure_in, spread, one, line_times, fixed_lines, plan_of, prefixes, all_lines_of, most_bytes, waits, state_after, QueueFits, RowText, RowWith, RowTexts}
use Rattle.text.proofs.SpanLaws.{own-two, prefix-spans, AllSpan, span-map, lines-measure}
use Rattle.text.proofs.RepeatLaws.{cells-short, drawn-messages, spread-length, map-append, map-times, short-map, drawn-short}

-- ---- the text state after a row
module _ (table : List ℕ) (d : Drawing) (p : Plan) (t : TextView) where
  pub state-plain : waits d.row p ≡ false → t ≡ record { queued = []; height = p.fixed + p.needed } → t ≡ state_after table d p
  state-plain e f = f ∙ rw e refl

  pub state-queued : waits d.row p ≡ true → t ≡ record { queued = cells_text table (numbers_in table d PostAncestry) ∷ []; height = p.fixed + p.needed } → t ≡ state_after table d p
  state-queued e f = f ∙ rw e refl

-- the foot line's cells, written into the queue
pub foot-queued : (table : List ℕ) (d : Drawing) (before after ns : List ℕ) (n height : ℕ) → length before ≡ queue_limit → length ns ≤ column_limit
    → ns ≡ numbers_in table d PostAncestry → WritesCells (cells_text table ns) 0 before after n
    → (text_view_of (record { queued_pad_line = after; queued_length = n; is_queued = true; row_height = height })
    ≡ record { queued = cells_text table (numbers_in table d PostAncestry) ∷ []; height = height })
    × QueueFits (record { queued_pad_line = after; queued_length = n; is_queued = true; row_height = height })
foot-queued table d before after ns n height long few e w =
    let h : length (cells_text table ns) + 0 ≤ length before = omega (arith, cells-short table ns, long) in
    let f = le-leb (length (cells_text table ns) + 0) (length before) h in
    let k : n ≡ length (cells_text table ns) = rw f at w.count in
    let b : take n after ≡ cells_text table ns = rw f at w.bytes in (
      rw (b, e) refl,
      (omega (arith, k, long), λ x. let z : ◌≡◌ {A = ℕ} 0 1 = cc in absurd (omega (arith, z))),
    )

-- ---- which lines there are, and how often
kept-count : {A B : Type 0} (t : B → Bool) (h : A → B) (b : A → Bool) (x : A) (xs : List A)
    → length (keep t (map h (keep b (x ∷ xs)))) ≡ cond (b x) (one (t (h x))) 0 + length (keep t (map h (keep b xs)))
kept-count t h b x xs = go (b x) (t (h x)) refl
  where
    go : (c u : Bool) → t (h x) ≡ u → length (keep t (map h (cond c (x ∷ keep b xs) (keep b xs)))) ≡ cond c (one u) 0 + length (keep t (map h (keep b xs)))
    go true true e = rw e (omega arith)
    go true false e = rw e (omega arith)
    go false u e = omega arith

spread-kept : (t : Line → ℕ) (b : Line → Bool) (ls : List Line) → spread t (keep b ls) ≡ spread (λ (l : Line). cond (b l) (t l) 0) ls
spread-kept t b [] = refl
spread-kept t b (l ∷ ls) = go (b l) (spread-kept t b ls)
  where
    go : (c : Bool) → spread t (keep b ls) ≡ spread (λ (l : Line). cond (b l) (t l) 0) ls
        → spread t (cond c (l ∷ keep b ls) (keep b ls)) ≡ replicate (cond c (t l) 0) l ++ spread (λ (l : Line). cond (b l) (t l) 0) ls
    go true e = ap (λ (x : List Line). replicate (t l) l ++ x) e
    go false e = e

repeated-map : (t : PrefixLine → ℕ) (h : Line → PrefixLine) (ls : List Line) → repeated t (map h ls) ≡ map h (spread (λ (l : Line). t (h l)) ls)
repeated-map t h [] = refl
repeated-map t h (l ∷ ls) =
    ap₂ ◌++◌ (sym (map-times h (t (h l)) l)) (repeated-map t h ls) ∙ sym (map-append h (replicate (t (h l)) l) (spread (λ (l : Line). t (h l)) ls))

map_same : {A B C : Type 0} (h : A → B) (g : B → C) (f : A → C) → ((x : A) → g (h x) ≡ f x) → (xs : List A) → map g (map h xs) ≡ map f xs
map_same h g f e [] = refl
map_same h g f e (x ∷ xs) = ap₂ ◌∷◌ (e x) (map_same h g f e xs)

pub length-drawn : (ps : List (List ℕ)) (m : List ℕ) → length (drawn ps m) ≡ length ps
length-drawn [] m = refl
length-drawn (p ∷ ps) m = ap suc (length-drawn ps (other_lines m))

-- a row has its fixed lines and those that are needed beyond them
spread-count : (q : Renderer) (r : Row) (p : LinkLinePlacement) (n : ℕ) → length (spread (λ (l : Line). cond (is_present q r l) (times p n l) 0) all_lines) ≡ fixed_lines q r + n
spread-count q r p n =
    let s = spread-length (λ (l : Line). cond (is_present q r l) (times p n l) 0) in
    omega (
      arith,
      s PreNode (Node ∷ PostNode ∷ Link ∷ SecondLink ∷ Term ∷ SecondTerm ∷ Ancestry ∷ PostAncestry ∷ []),
      s Node (PostNode ∷ Link ∷ SecondLink ∷ Term ∷ SecondTerm ∷ Ancestry ∷ PostAncestry ∷ []),
      s PostNode (Link ∷ SecondLink ∷ Term ∷ SecondTerm ∷ Ancestry ∷ PostAncestry ∷ []),
      s Link (SecondLink ∷ Term ∷ SecondTerm ∷ Ancestry ∷ PostAncestry ∷ []),
      s SecondLink (Term ∷ SecondTerm ∷ Ancestry ∷ PostAncestry ∷ []),
      s Term (SecondTerm ∷ Ancestry ∷ PostAncestry ∷ []),
      s SecondTerm (Ancestry ∷ PostAncestry ∷ []),
      s Ancestry (PostAncestry ∷ []),
      s PostAncestry [],
      either p n,
    )
  where
    either : (p : LinkLinePlacement) (n : ℕ) → cond (is_bottom p) n 0 + cond (is_bottom p) 0 n ≡ n
    either Top n = omega arith
    either Bottom n = omega arith

-- ---- the lines of a shape
module _ (q : Renderer) (g : RowShape) where
  fixed_same : length (keep (λ (l : PrefixLine). not (is_repeatable l.kind)) (lines q g)) ≡ fixed_lines q (row_of g)
  fixed_same =
      let t : PrefixLine → Bool = λ l. not (is_repeatable l.kind) in
      let n = kept-count t (line_of q g) (is_present q (row_of g)) in
      omega (
        arith,
        n PreNode (Node ∷ PostNode ∷ Link ∷ SecondLink ∷ Term ∷ SecondTerm ∷ Ancestry ∷ PostAncestry ∷ []),
        n Node (PostNode ∷ Link ∷ SecondLink ∷ Term ∷ SecondTerm ∷ Ancestry ∷ PostAncestry ∷ []),
        n PostNode (Link ∷ SecondLink ∷ Term ∷ SecondTerm ∷ Ancestry ∷ PostAncestry ∷ []),
        n Link (SecondLink ∷ Term ∷ SecondTerm ∷ Ancestry ∷ PostAncestry ∷ []),
        n SecondLink (Term ∷ SecondTerm ∷ Ancestry ∷ PostAncestry ∷ []),
        n Term (SecondTerm ∷ Ancestry ∷ PostAncestry ∷ []),
        n SecondTerm (Ancestry ∷ PostAncestry ∷ []),
        n Ancestry (PostAncestry ∷ []),
        n PostAncestry [],
      )

  needed-same : (count height : ℕ) → needed q g count height ≡ (plan_of g.style.link_line_placement q (row_of g) count height).needed
  needed-same count height = ap (λ (n : ℕ). max count height - n) fixed_same

  module _ (mark : ℕ) (table : List ℕ) (holds : Tables table (glyphs_of q) q mark) where
    prefix_same : (l : Line) → cells_text table (numbers_in table (drawing_of g q mark) l) ≡ prefix (glyphs_of q) q g mark (line_of q g l)
    prefix_same l = table-line table (glyphs_of q) (drawing_of g q mark) holds l

    module _ (m : List ℕ) (height : ℕ) where
      abbrev plan : Plan
      plan = plan_of g.style.link_line_placement q (row_of g) (length (lines_of m)) height

      shown-same : repeated (λ (l : PrefixLine). times g.style.link_line_placement (needed q g (length (lines_of m)) height) l.kind) (lines q g)
          ≡ map (line_of q g) (spread (line_times plan q (row_of g)) all_lines)
      shown-same =
          ap (λ (n : ℕ). repeated (λ (l : PrefixLine). times g.style.link_line_placement n l.kind) (lines q g)) (needed-same (length (lines_of m)) height)
          ∙ repeated-map (λ (l : PrefixLine). times g.style.link_line_placement plan.needed l.kind) (line_of q g) (keep (is_present q (row_of g)) all_lines)
          ∙ ap (map (line_of q g)) (spread-kept (λ (l : Line). times g.style.link_line_placement plan.needed l) (is_present q (row_of g)) all_lines)

      rows_same : drawn (prefixes table (drawing_of g q mark) plan) m ≡ row_lines finish (glyphs_of q) q g mark (lines_of m) height
      rows_same =
          let f : Line → List ℕ = λ l. cells_text table (numbers_in table (drawing_of g q mark) l) in
          sym (ap (λ (ls : List PrefixLine). map (λ (x : PrefixLine × List ℕ). line_with (prefix (glyphs_of q) q g mark x.0) x.1) (with_messages ls (lines_of m))) shown-same
          ∙ drawn-messages (prefix (glyphs_of q) q g mark) (map (line_of q g) (spread (line_times plan q (row_of g)) all_lines)) m
          ∙ ap (λ (ps : List (List ℕ)). drawn ps m)
          (map_same (line_of q g) (prefix (glyphs_of q) q g mark) f (λ l. sym (prefix_same l)) (spread (line_times plan q (row_of g)) all_lines)))

      height-same : length (row_lines finish (glyphs_of q) q g mark (lines_of m) height) ≡ plan.fixed + plan.needed
      height-same =
          ap length (sym rows_same)
          ∙ length-drawn (prefixes table (drawing_of g q mark) plan) m
          ∙ length-map (spread (line_times plan q (row_of g)) all_lines) (λ (l : Line). cells_text table (numbers_in table (drawing_of g q mark) l))
          ∙ spread-count q (row_of g) g.style.link_line_placement plan.needed

      state-same : state_after table (drawing_of g q mark) plan ≡ text_after (glyphs_of q) q g mark (lines_of m) height
      state-same =
          ap₂ (λ (x : List (List ℕ)) (n : ℕ). record { queued = x; height = n })
          (ap₂ (λ (n : ℕ) (x : List ℕ). cond (g.term_line && eqb (cond (is_bottom g.style.link_line_placement) 0 n) 0) (x ∷ []) [])
          (sym (needed-same (length (lines_of m)) height)) (prefix_same PostAncestry))
          (sym height-same)

-- ---- bounds of the plan
one-small : (b : Bool) → one b ≤ 1
one-small true = lit≤ tt
one-small false = lit≤ tt

fixed-small : (q : Renderer) (r : Row) → fixed_lines q r ≤ 6
fixed-small q r =
    omega (arith, one-small (is_present q r Link), one-small (is_present q r SecondLink), one-small (is_present q r Term), one-small (is_present q r SecondTerm), one-small (is_present q r Ancestry))

needed-small : (p : LinkLinePlacement) (q : Renderer) (r : Row) (m : List ℕ) (height : ℕ) → length m ≤ message_limit → height ≤ height_limit
    → (plan_of p q r (length (lines_of m)) height).needed ≤ 512
needed-small p q r m height h k = omega (arith, lines-few m)

-- ---- how long all lines can be
numbers-length : (q : Renderer) (d : DashStyle) (i : ℕ) (xs : List Choice) → length (numbers_from q d i xs) ≡ length xs
numbers-length q d i [] = refl
numbers-length q d i (x ∷ xs) = ap suc (numbers-length q d (suc i) xs)

-- a prefix line has at most eight bytes for each cell
prefix-short : (table : List ℕ) (d : Drawing) (l : Line) → length (cells_text table (numbers_in table d l)) ≤ 8 * d.width
prefix-short table d l =
    let ps = places 0 (take d.width d.cells) in
    let n = numbers-length d.renderer d.row.dash_style 0 (map (choice_by (named table) d.renderer d.row l) ps) in
    let k = length-map ps (choice_by (named table) d.renderer d.row l) in
    omega (arith, cells-short table (numbers_in table d l), n, k, length-places 0 (take d.width d.cells), length-take d.width d.cells)

-- a row's lines: of each the prefix line, a blank and the end, and the message once
module _ (table : List ℕ) (d : Drawing) (p : Plan) (m : List ℕ) where
  abbrev below : List (List ℕ)
  below = drawn (prefixes table d p) m

  module _ (fixed : p.fixed ≡ fixed_lines d.renderer d.row) where
    rows_short : length (text_of below) ≤ (p.fixed + p.needed) * (8 * d.width + 2) + length m
    rows_short =
        let ls : List Line = spread (line_times p d.renderer d.row) all_lines in
        let f : Line → List ℕ = λ l. cells_text table (numbers_in table d l) in
        let n : length (map f ls) ≡ p.fixed + p.needed = length-map ls f ∙ spread-count d.renderer d.row p.placement p.needed ∙ ap (λ (k : ℕ). k + p.needed) (sym fixed) in
        rw n at (drawn-short (8 * d.width) (map f ls) (short-map (8 * d.width) f (prefix-short table d) ls) m)

    pub below-short : d.width ≤ column_limit → length m ≤ message_limit → p.fixed ≤ 6 → p.needed ≤ message_limit → length (text_of below) ≤ 518 * 514 + 512
    below-short w k h n =
        let i : p.fixed + p.needed ≤ 518 = omega arith in
        let j : 8 * d.width + 2 ≤ 514 = omega arith in
        omega (arith, rows_short, mul-le-mul i j)

    -- with what stands above it: an output that is longer has room for all
    module _ (t : TextState) (b : Bool) (long : length t.queued_pad_line ≡ queue_limit) where
      all_short : length (text_of (all_lines_of table d p m (text_view_of t) b)) ≤ most_bytes p d.width (length m)
      all_short = omega (arith, text-length (begin_row finish b (text_view_of t)) below, rows_short, begin-short b t long)

      pub room-there : (n size : ℕ) → n ≡ most_bytes p d.width (length m) → n ≤ size → true ≡ leb (length (text_of (all_lines_of table d p m (text_view_of t) b))) size
      room-there n size e h = sym (le-leb (length (text_of (all_lines_of table d p m (text_view_of t) b))) size (omega (arith, all_short, e)))

  -- else they were counted
  pub room-counted : (t : TextView) (b : Bool) (k n size : ℕ) → k ≡ length (text_of (begin_row finish b t)) → n ≡ length (text_of below)
      → leb (k + n) size ≡ leb (length (text_of (all_lines_of table d p m t b))) size
  room-counted t b k n size e f = ap (λ (j : ℕ). leb j size) (ap₂ ◌+◌ e f ∙ sym (text-length (begin_row finish b t) below))

-- ---- written, or not for want of room
module _ (table : List ℕ) (d : Drawing) (p : Plan) (m : List ℕ) (t : TextView) (b : Bool) (before : List ℕ) {fits : Bool}
    (f : fits ≡ leb (length (text_of (all_lines_of table d p m t b))) (length before)) where
  abbrev wanted : List (List ℕ)
  wanted = all_lines_of table d p m t b

  abbrev first : List (List ℕ)
  first = begin_row finish b t

  abbrev others : List (List ℕ)
  others = drawn (prefixes table d p) m

  pub no_room : (r : RowText) (after : List ℕ) → after ≡ before → fits ≡ false → r.refusal ≡ output_shorter_than_lines → RowWith table d p m t b before after r
  no_room r after same z e =
      let k : length before < length (text_of wanted) = leb-false (length (text_of wanted)) (length before) (sym f ∙ z) in
      record {
        refusal = e ∙ rw (lt-ltb (length before) (length (text_of wanted)) k) refl;
        kept = λ w. same;
        written = λ w. absurd (omega (arith, e, w));
      }

  module _ (z : fits ≡ true) where
    all_fit : length (text_of wanted) ≤ length before
    all_fit = leb-true (length (text_of wanted)) (length before) (sym f ∙ z)

    first-fit : length (text_of first) ≤ length before
    first-fit = omega (arith, all_fit, text-length first others)

    -- what stands above the row was written; the row's lines fit behind it
    module _ (o : List ℕ) (a : Put) (w : Puts first before o a) (same : length o ≡ length before) where
      pub above_within : a.length ≤ length o
      above_within = omega (arith, put_count first before o a w first-fit, first-fit)

      pub row_fits : length (text_of others) ≤ length (take (length o - a.length) (drop a.length o))
      row_fits =
          omega (arith, all_fit, text-length first others, put_count first before o a w first-fit, length-take (length o - a.length) (drop a.length o), length-drop a.length o)

      pub room : (r : RowText) (u : List ℕ) (s : Put) → s.length ≡ length (text_of others) → s.measure ≡ greatest (measures_with (whole_measure d) (prefixes table d p) m)
          → u ≡ over (text_of others) (take (length o - a.length) (drop a.length o))
          → r.refusal ≡ 0 → r.length ≡ a.length + s.length → r.measure ≡ max a.measure s.measure → text_view_of r.state ≡ state_after table d p → QueueFits r.state
          → RowWith table d p m t b before (take a.length o ++ (u ++ drop (length o - a.length) (drop a.length o))) r
      room r u s n k v e c g i j =
          let x = put_count first before o a w first-fit in
          record {
            refusal = e ∙ rw (le-ltb (length before) (length (text_of wanted)) all_fit) refl;
            kept = λ y. absurd (y e);
            written = λ y. (
              c ∙ ap₂ ◌+◌ x n ∙ sym (text-length first others),
              g ∙ ap₂ max (put-measure first before o a w first-fit) k,
              part-written (text_of first) (text_of others) before (put-bytes first before o a w first-fit) x v ∙ ap (λ (l : List ℕ). over l before) (sym (joins-append ended first others)),
              i,
              j,
            );
          }

-- ---- the same with the renderer's own glyphs
module _ (t : TextState) (q : Renderer) (g : RowShape) (mark : ℕ) (m : List ℕ) (height : ℕ) (d : Drawing) (de : d ≡ drawing_of g q mark)
    (n : ℕ) (ne : n ≡ length (lines_of m)) (p : Plan) (pe : p ≡ plan_of g.style.link_line_placement q d.row n height) where
  plan-is : p ≡ plan_of g.style.link_line_placement q (row_of g) (length (lines_of m)) height
  plan-is = pe ∙ rw (de, ne) refl

  pub plan-small : g.width ≤ column_limit → length m ≤ message_limit → height ≤ height_limit
      → ((d.width ≤ column_limit) × (length m ≤ message_limit) × (p.fixed ≤ 6) × (p.needed ≤ message_limit)) × (p.fixed ≡ fixed_lines d.renderer d.row)
  plan-small w h k = (
    (rw de w, h, rw plan-is (fixed-small q (row_of g)), rw plan-is (needed-small g.style.link_line_placement q (row_of g) m height h k)),
    rw (plan-is, de) refl,
  )

  -- each prefix line measures what the renderer's do
  module _ (table : List ℕ) (holds : Tables table (glyphs_of q) q mark) (marked : is_mark mark ≡ true) (long : length g.cells ≡ column_limit) where
    prefixes-span : AllSpan (whole_measure d) (prefixes table d p)
    prefixes-span =
        let n : min g.width column_limit ≡ length (cells_of g) = omega (arith, length-take g.width g.cells, long) in
        subst (λ (x : Drawing). AllSpan (whole_measure x) (prefixes table x p)) (sym de)
        (span-map (prefix_measure q (min g.width column_limit)) (λ (l : Line). cells_text table (numbers_in table (drawing_of g q mark) l))
        (λ (l : Line). rw (n, prefix_same q g mark table holds l) (prefix-spans mark marked (glyphs_of q) q (own-two q) g l)) (spread (line_times p q (row_of g)) all_lines))

    pub texts : all_of is_writable m ≡ true → (before after : List ℕ) (r : RowText)
        → RowWith table d p m (text_view_of t) g.separator_line before after r → RowTexts (text_view_of t) q g mark m height before after r
    texts writable before after r w =
        let first : List (List ℕ) = begin_row finish g.separator_line (text_view_of t) in
        let ls : all_lines_of table d p m (text_view_of t) g.separator_line ≡ text_lines finish (glyphs_of q) (text_view_of t) q g mark (lines_of m) height
        = ap₂ (λ (x : Drawing) (y : Plan). all_lines_of table x y m (text_view_of t) g.separator_line) de plan-is
        ∙ ap (λ (x : List (List ℕ)). first ++ x) (rows_same q g mark table holds m height) in
        let s : state_after table d p ≡ text_after (glyphs_of q) q g mark (lines_of m) height
        = ap₂ (λ (x : Drawing) (y : Plan). state_after table x y) de plan-is ∙ state-same q g mark table holds m height in
        let k : measure_in table d p m (text_view_of t) g.separator_line ≡ line_measure (all_lines_of table d p m (text_view_of t) g.separator_line)
        = ap (λ (ns : List ℕ). max (line_measure first) (greatest ns)) (lines-measure (whole_measure d) (prefixes table d p) m prefixes-span writable)
        ∙ sym (measure-append first (drawn (prefixes table d p) m)) in
        record {
          refusal = rw ls at w.refusal;
          kept = w.kept;
          written = λ y. let o = w.written y in (rw ls at o.0, o.1 ∙ k ∙ ap line_measure ls, rw ls at o.2, rw s at o.3, o.4);
        }
