-- Laws of the numbers chosen for a line's cells, one by one: what the loops over the cells cite.
use mathlib.Core.Path.{◌≡◌, refl, sym, ap, ap₂, ◌∙◌}
use mathlib.Core.Bool.{Bool, true, false, cond}
use mathlib.Core.List.{List, [], ◌∷◌, map}
use Prim.Native.Nat.{ℕ, zero, suc, ◌+◌, ◌<◌, ◌≤◌, min}
use native.Mathlib.Nat.{not-suc-le-zero, le_of_suc-le-suc, add-zero, zero-add}
use native.Mathlib.Numerals.{add-one}
use native.Mathlib.Omega.{arith}
use lib.Dec.{ltb}
use lib.ListN.{length, get_or, take, drop, set, length-set}
use lib.Seq.{take-suc, take_all, take-suc-set}
use borrow.Author.Tests.{ltb-true, ltb-false, lt-ltb}
use Rattle.column.specs.Columns.{column_limit}
use Rattle.render.specs.declared.render.LinkLine.{LinkLine}
use Rattle.render.specs.declared.types.Cell.{Cell}
use Rattle.render.specs.declared.types.DashStyle.{DashStyle}
use Rattle.render.specs.Lines.{blank_cell, node_to_pad, foot_pad}
use Rattle.render.specs.Link.{no_marks}
use Rattle.glyphs.specs.declared.Renderer.{Renderer}
use Rattle.glyphs.specs.declared.Renderer.TheVariants.{Ascii, AsciiLarge, Square, Curved, Dec}
use Rattle.glyphs.specs.declared.types.Choice.{Choice}
use Rattle.glyphs.specs.declared.types.Choice.TheVariants.{Solid, End}
use Rattle.glyphs.specs.declared.types.Drawing.{Drawing}
use Rattle.glyphs.specs.declared.types.Line.{Line}
use Rattle.glyphs.specs.declared.types.Line.TheVariants.{PreNode, Node, PostNode, Link, SecondLink, Term, SecondTerm, Ancestry, PostAncestry}
use Rattle.glyphs.specs.declared.types.Place.{Place}
use Rattle.glyphs.specs.declared.types.PlainNumbers.{PlainNumbers}
use Rattle.glyphs.specs.declared.types.Row.{Row}
use Rattle.render.specs.declared.render.NodeLine.{NodeLine}
use Rattle.render.specs.declared.render.NodeLine.TheVariants as node
use Rattle.render.specs.declared.render.PadLine.{PadLine}
use Rattle.render.specs.declared.render.PadLine.TheVariants as pad
use Rattle.glyphs.specs.BoxDrawing.{Facts}
use Rattle.glyphs.specs.Cells.{choice_by}
use Rattle.glyphs.specs.Choices.{pad_choice, node_choice, term_choice}
use Rattle.glyphs.specs.Inner.{is_link, link_line_choice, Plain, plain_choice, plain_number}
use Rattle.glyphs.specs.LinkTable.{named}
use Rattle.glyphs.specs.Row.{first_link, places}
use Rattle.glyphs.specs.Tables.{number_of, numbers_from, numbers_in, first_cells, Chooses}
use Rattle.glyphs.proofs.PlaceLaws.{place-made}

-- ---- the numbers of a cell that is given no link

pub plain-cond : (r : PlainNumbers) (b : Bool) (x y : Choice) → cond b (plain_number r x) (plain_number r y) ≡ plain_number r (cond b x y)
plain-cond r true x y = refl
plain-cond r false x y = refl

-- those of the first cell and of the others make those of each
plain-later : (q : Renderer) (d : DashStyle) (i : ℕ) (r : PlainNumbers) → Plain q d 1 r → Plain q d (suc i) r
unfolding number_of
plain-later Ascii d i r e = record { space = e.space; solid = e.solid; dashed = e.dashed; mark = e.mark; end = e.end }
plain-later AsciiLarge d i r e =
    let h : 0 < suc i = omega arith in
    record {
      space = rw (lt-ltb 0 (suc i) h) e.space;
      solid = rw (lt-ltb 0 (suc i) h) e.solid;
      dashed = rw (lt-ltb 0 (suc i) h) e.dashed;
      mark = rw (lt-ltb 0 (suc i) h) e.mark;
      end = rw (lt-ltb 0 (suc i) h) e.end;
    }
plain-later Square d i r e = record { space = e.space; solid = e.solid; dashed = e.dashed; mark = e.mark; end = e.end }
plain-later Curved d i r e = record { space = e.space; solid = e.solid; dashed = e.dashed; mark = e.mark; end = e.end }
plain-later Dec d i r e = record { space = e.space; solid = e.solid; dashed = e.dashed; mark = e.mark; end = e.end }

pub plain_at : (q : Renderer) (d : DashStyle) (i : ℕ) (first others : PlainNumbers) → Plain q d 0 first → Plain q d 1 others → Plain q d i (cond (ltb 0 i) others first)
plain_at q d zero first others e f = e
plain_at q d (suc i) first others e f = let h : 0 < suc i = omega arith in rw (lt-ltb 0 (suc i) h) (plain-later q d i others f)

module _ (q : Renderer) (d : DashStyle) (i : ℕ) (r : PlainNumbers) (e : Plain q d i r) where
  pad-same : (x : PadLine) → plain_number r (pad_choice x) ≡ number_of q d i (pad_choice x)
  pad-same pad.Blank = e.space
  pad-same pad.Ancestor = e.dashed
  pad-same pad.Parent = e.solid

  node-same : (x : NodeLine) → plain_number r (node_choice x) ≡ number_of q d i (node_choice x)
  node-same node.Blank = e.space
  node-same node.Ancestor = e.dashed
  node-same node.Parent = e.solid
  node-same node.Node = e.mark

  term-same : (x : Choice) (c : Cell) → plain_number r x ≡ number_of q d i x → plain_number r (term_choice x c) ≡ number_of q d i (term_choice x c)
  term-same x c h = go c.term
    where
      go : (b : Bool) → plain_number r (cond b x (pad_choice c.ancestry)) ≡ number_of q d i (cond b x (pad_choice c.ancestry))
      go true = h
      go false = pad-same c.ancestry

  -- in a line that is no link line, a cell's number among them is its number
  pub plain-same : (named : Facts → ℕ) (row : Row) (l : Line) (p : Place) → is_link l ≡ false
      → plain_number r (plain_choice row l p.cell) ≡ number_of q d i (choice_by named q row l p)
  plain-same named row PreNode p h = pad-same (node_to_pad row.is_head p.cell.node)
  plain-same named row Node p h = node-same p.cell.node
  plain-same named row PostNode p h = pad-same (node_to_pad row.is_root p.cell.node)
  plain-same named row Link p h = cc
  plain-same named row SecondLink p h = cc
  plain-same named row Term p h = term-same Solid p.cell e.solid
  plain-same named row SecondTerm p h = term-same End p.cell e.end
  plain-same named row Ancestry p h = pad-same p.cell.ancestry
  plain-same named row PostAncestry p h = pad-same (foot_pad row.dash_style p.cell.ancestry)

-- in a link line, a cell's choice is its choice
pub link-same : (named : Facts → ℕ) (q : Renderer) (row : Row) (l : Line) (p : Place) → is_link l ≡ true → link_line_choice named q row l p ≡ choice_by named q row l p
link-same named q row PreNode p h = cc
link-same named q row Node p h = cc
link-same named q row PostNode p h = cc
link-same named q row Link p h = refl
link-same named q row SecondLink p h = refl
link-same named q row Term p h = cc
link-same named q row SecondTerm p h = cc
link-same named q row Ancestry p h = cc
link-same named q row PostAncestry p h = cc

-- ---- the numbers of a line by place

-- a count past the end takes no more
take-capped : (k : ℕ) (l : List ℕ) → take (min (length l) k) l ≡ take k l
take-capped k l = go (ltb k (length l)) refl
  where
    go : (b : Bool) → ltb k (length l) ≡ b → take (min (length l) k) l ≡ take k l
    go true e =
        let h : min (length l) k ≡ k = omega (arith, ltb-true k (length l) e) in
        ap (λ (n : ℕ). take n l) h
    go false e =
        let h : length l ≤ k = ltb-false k (length l) e in
        let j : length l ≤ min (length l) k = omega arith in
        take_all (min (length l) k) l j ∙ sym (take_all k l h)

abbrev pub no_place : Place
no_place = record { index = 0; cell = blank_cell; next = no_marks }

module _ (q : Renderer) (d : DashStyle) (f : Place → Choice) where
  pub length-numbers : (i : ℕ) (cs : List Cell) → length (numbers_from q d i (map f (places i cs))) ≡ length cs
  length-numbers i [] = refl
  length-numbers i (c ∷ cs) = ap suc (length-numbers (suc i) cs)

  number_at : (i j : ℕ) (cs : List Cell) → j < length cs
      → get_or (numbers_from q d i (map f (places i cs))) j 0 ≡ number_of q d (i + j) (f (get_or (places i cs) j no_place))
  number_at i j [] h = absurd (not-suc-le-zero h)
  number_at i zero (c ∷ cs) h = rw (add-zero i)
  number_at i (suc j) (c ∷ cs) h =
      let e : i + suc j ≡ suc i + j = omega arith in
      rw e (number_at (suc i) j cs (le_of_suc-le-suc h))

-- ---- a line's cells one by one

-- the first i of n cells of a line have their numbers, in an array of m places
pub record Chosen (t : List ℕ) (d : Drawing) (l : Line) (n m i : ℕ) (numbers : List ℕ) : Type 0 where
  pub within : i ≤ n
  pub long : length numbers ≡ m
  pub front : take i numbers ≡ take i (numbers_in t d l)

module _ (t : List ℕ) (d : Drawing) (l : Line) (cells : List Cell) (n m : ℕ) (same : cells ≡ take d.width d.cells) (few : length cells ≤ column_limit)
    (f : n ≡ min (length cells) m) where
  count-numbers : length (numbers_in t d l) ≡ length cells
  count-numbers = length-numbers d.renderer d.row.dash_style (choice_by (named t) d.renderer d.row l) 0 (take d.width d.cells) ∙ ap length (sym same)

  -- one more
  module _ (i : ℕ) (h : i < n) (c : Cell) (g : c ≡ get_or cells i blank_cell) where
    abbrev made : LinkLine → Place
    made next = record { index = i; cell = c; next = next }

    number-made : (next : LinkLine) → next ≡ first_link (drop (i + 1) cells)
        → number_of d.renderer d.row.dash_style i (choice_by (named t) d.renderer d.row l (made next)) ≡ get_or (numbers_in t d l) i 0
    number-made next z =
        let k : i < length (take d.width d.cells) = omega (arith, ap length same) in
        let p : made next ≡ get_or (places 0 cells) i no_place = place-made cells i blank_cell c no_place next (omega arith) g z in
        ap (λ (x : Place). number_of d.renderer d.row.dash_style i (choice_by (named t) d.renderer d.row l x))
        (p ∙ ap (λ (cs : List Cell). get_or (places 0 cs) i no_place) same)
        ∙ sym (rw (zero-add i) at (number_at d.renderer d.row.dash_style (choice_by (named t) d.renderer d.row l) 0 i (take d.width d.cells) k))

    choose-next : (numbers : List ℕ) (v : ℕ) → Chosen t d l n m i numbers → v ≡ get_or (numbers_in t d l) i 0 → Chosen t d l n m (i + 1) (set numbers i v)
    choose-next numbers v s z =
        let k : i < length numbers = omega (arith, s.long) in
        let j : i < length (numbers_in t d l) = omega (arith, count-numbers) in
        record {
          within = omega arith;
          long = length-set numbers i v ∙ s.long;
          front = rw (add-one i) (take-suc-set numbers i v k ∙ rw (s.front, z, take-suc (numbers_in t d l) i 0 j));
        }

    pub choose-link : (numbers : List ℕ) (v : ℕ) (next : LinkLine) → Chosen t d l n m i numbers → is_link l ≡ true → next ≡ first_link (drop (i + 1) cells)
        → v ≡ number_of d.renderer d.row.dash_style i (link_line_choice (named t) d.renderer d.row l (made next))
        → Chosen t d l n m (i + 1) (set numbers i v)
    choose-link numbers v next s link z u =
        choose-next numbers v s
        (u ∙ ap (number_of d.renderer d.row.dash_style i) (link-same (named t) d.renderer d.row l (made next) link)
        ∙ number-made next z)

    pub choose-plain : (numbers : List ℕ) (v : ℕ) (first others at : PlainNumbers) → Chosen t d l n m i numbers → is_link l ≡ false
        → Plain d.renderer d.row.dash_style 0 first → Plain d.renderer d.row.dash_style 1 others → at ≡ cond (ltb 0 i) others first
        → v ≡ plain_number at (plain_choice d.row l c)
        → Chosen t d l n m (i + 1) (set numbers i v)
    choose-plain numbers v first others at s link x y b u =
        let p : Plain d.renderer d.row.dash_style i at = rw b (plain_at d.renderer d.row.dash_style i first others x y) in
        let next : LinkLine = first_link (drop (i + 1) cells) in
        choose-next numbers v s
        (u ∙ plain-same d.renderer d.row.dash_style i at p (named t) d.row l (made next) link ∙ number-made next refl)

  -- all of them
  pub choose-all : (i : ℕ) (before numbers : List ℕ) → length before ≡ m → Chosen t d l n m i numbers → n ≤ i → Chooses (numbers_in t d l) before numbers n
  choose-all i before numbers b s h =
      let k : i ≡ n = omega (arith, s.within) in
      let j : min n column_limit ≡ n = omega arith in
      record {
        count = omega (arith, count-numbers, b, f);
        chosen =
            ap (λ (z : ℕ). take z numbers) j ∙ ap (λ (z : ℕ). take z numbers) (sym k) ∙ s.front ∙ ap (λ (z : ℕ). take z (numbers_in t d l)) (k ∙ f ∙ ap₂ min (sym count-numbers) (sym b))
            ∙ take-capped (length before) (numbers_in t d l);
        few = omega (arith, count-numbers);
      }

-- an array of cells has 64, by what the prover knows of an array that is a struct's field
pub cells-long : (l : List Cell) → length l ≡ 64 → length l ≡ column_limit
cells-long l e = e

-- an array for a row's cells holds all numbers of a line
pub chosen-all : {numbers before after : List ℕ} {r : ℕ} → Chooses numbers before after r → length before ≡ column_limit → first_cells r after ≡ numbers
chosen-all {numbers} {before} w e = w.chosen ∙ take_all (length before) numbers (omega (arith, w.few, e))
