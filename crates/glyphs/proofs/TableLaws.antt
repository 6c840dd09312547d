-- Laws of tables of glyphs: what a table holds, the numbers by which cells are drawn from it, and the text of a line drawn by them.
use mathlib.Core.Path.{◌≡◌, refl, sym, ap₂, ◌∙◌}
use mathlib.Core.Bool.{Bool, true, false, cond, not, ◌&&◌}
use mathlib.Core.List.{List, [], ◌∷◌, ◌++◌, map}
use Prim.Native.Nat.{ℕ, zero, suc, ◌+◌, ◌*◌, ◌<◌, ◌≤◌, zero-le}
use native.Mathlib.Nat.{not-suc-le-zero, le_of_suc-le-suc, zero-add}
use native.Mathlib.Omega.{arith}
use lib.Dec.{T, leb, ltb, eqb, lit≤, ltb→lt}
use lib.ListN.{length, get_or, take, length-take, length-map, length-append, get_or-append}
use lib.Seq.{get_or-append-add}
use borrow.Author.Tests.{leb-true, leb-false, lt-leb, le-leb, eqb-true}
use Rattle.render.specs.declared.render.LinkLine.{LinkLine}
use Rattle.render.specs.declared.render.NodeLine.{NodeLine}
use Rattle.render.specs.declared.render.NodeLine.TheVariants as node
use Rattle.render.specs.declared.render.PadLine.{PadLine}
use Rattle.render.specs.declared.render.PadLine.TheVariants as pad
use Rattle.render.specs.declared.types.Cell.{Cell}
use Rattle.render.specs.declared.types.DashStyle.{DashStyle}
use Rattle.render.specs.declared.types.DashStyle.TheVariants.{Persistent, Once}
use Rattle.render.specs.Link.{meets, joined}
use Rattle.render.specs.Lines.{node_to_pad, foot_pad}
use Rattle.slices.specs.Characters.{blank, bar, dot, underscore, tilde}
use Rattle.glyphs.specs.declared.Renderer.{Renderer}
use Rattle.glyphs.specs.declared.Renderer.TheVariants.{Ascii, AsciiLarge, Square, Curved, Dec}
use Rattle.glyphs.specs.declared.types.Choice.{Choice}
use Rattle.glyphs.specs.declared.types.Choice.TheVariants.{Space, Solid, Dashed, Mark, End, Two, Three, Glyph}
use Rattle.glyphs.specs.declared.types.Drawing.{Drawing}
use Rattle.glyphs.specs.declared.types.Line.{Line}
use Rattle.glyphs.specs.declared.types.Line.TheVariants.{PreNode, Node, PostNode, Link, SecondLink, Term, SecondTerm, Ancestry, PostAncestry}
use Rattle.glyphs.specs.declared.types.Place.{Place}
use Rattle.glyphs.specs.declared.types.Row.{Row}
use Rattle.glyphs.specs.Ascii as ascii
use Rattle.glyphs.specs.AsciiLarge as large
use Rattle.glyphs.specs.BoxDrawing as box
use Rattle.glyphs.specs.Cells.{link_choice, second_link_choice, choice_by, choice_of, choices_of, bytes_of, joins_from}
use Rattle.glyphs.specs.Choices.{pad_choice, node_choice, term_choice, choice_with, no_choice}
use Rattle.glyphs.specs.GlyphSets.{ANCESTOR}
use Rattle.glyphs.specs.Inner.{glyph_of}
use Rattle.glyphs.specs.LinkTable.{named}
use Rattle.glyphs.specs.Marks.{horizontal, vertical, vert_parent, vert_ancestor, left_fork, right_fork, left_merge, right_merge, any_fork, any_merge, any_fork_or_merge, child, horiz_parent, horiz_ancestor, left_fork_parent, left_fork_ancestor, right_fork_parent, right_fork_ancestor, left_merge_parent, left_merge_ancestor, right_merge_parent, right_merge_ancestor}
use Rattle.glyphs.specs.Row.{first_link, places}
use Rattle.glyphs.specs.Tables.{placed, glyph_at, paired, uprights, connections, lefts, centers, rights, two, ascii_table, large_table, box_table, table_of, Holds, Tables, place_in, pair_number, ascii_number, first_number, three_number, apart_number, large_number, box_number, number_of, numbers_from, numbers_in, line_in, cells_text}
use Rattle.glyphs.proofs.CountedLaws.{cond-holds, counted, counted-in, counted-past}
use Rattle.glyphs.proofs.LinkLaws.{link-low}

-- ---- the glyphs of a table
module _ (t : List ℕ) (n : ℕ) where
  pub no-glyph : length t < n * 9 + 9 → glyph_at t n ≡ []
  unfolding glyph_at
  no-glyph h = rw (lt-leb (n * 9 + 9) (length t) h)

  pub glyph-there : n * 9 + 9 ≤ length t → glyph_at t n ≡ placed t n
  unfolding glyph_at
  glyph-there h = rw (le-leb (n * 9 + 9) (length t) h)

pub glyph-short : (t : List ℕ) (n : ℕ) → length (glyph_at t n) ≤ 8
unfolding glyph_at
glyph-short t n =
    cond-holds (λ (bs : List ℕ). length bs ≤ 8) (leb (n * 9 + 9) (length t)) (placed t n) [] (rw length-take (omega arith)) zero-le

-- a table holds a list of glyphs if its own, counted out, are these
pub holds : (t : List ℕ) (k : ℕ) (gs : List (List ℕ)) → length t ≡ k * 9 → counted (placed t) 0 k ≡ gs → (n : ℕ) → glyph_at t n ≡ get_or gs n []
unfolding glyph_at
holds t k gs h e n = rw (← e) (go (leb (n * 9 + 9) (length t)) refl)
  where
    go : (b : Bool) → leb (n * 9 + 9) (length t) ≡ b → cond b (placed t n) [] ≡ get_or (counted (placed t) 0 k) n []
    go true b = rw (zero-add n) at (counted-in (placed t) [] 0 k n (omega (arith, h, leb-true (n * 9 + 9) (length t) b)))
    go false b = counted-past (placed t) [] 0 k n (omega (arith, h, leb-false (n * 9 + 9) (length t) b))

-- what stands behind a table's glyphs changes none of them
pub glyph-ahead : (t u : List ℕ) (n : ℕ) → n * 9 + 9 ≤ length t → glyph_at (t ++ u) n ≡ glyph_at t n
glyph-ahead t u n h =
    let same : (j : ℕ) → j < 9 → get_or (t ++ u) (n * 9 + j) 0 ≡ get_or t (n * 9 + j) 0 = λ j b. get_or-append t u 0 (n * 9 + j) (omega (arith, h, b)) in
    let count : get_or (t ++ u) (n * 9) 0 ≡ get_or t (n * 9) 0 = get_or-append t u 0 (n * 9) (omega (arith, h)) in
    let e : placed (t ++ u) n ≡ placed t n =
    rw (count, same 1 (lit≤ tt), same 2 (lit≤ tt), same 3 (lit≤ tt), same 4 (lit≤ tt), same 5 (lit≤ tt), same 6 (lit≤ tt), same 7 (lit≤ tt), same 8 (lit≤ tt)) in
    glyph-there (t ++ u) n (omega (arith, h, length-append t u)) ∙ e ∙ sym (glyph-there t n h)

-- ---- a character's place in a list is at most the list's length
place-low : (xs : List ℕ) (c : ℕ) → place_in xs c ≤ length xs
place-low [] c = zero-le
place-low (x ∷ xs) c = cond-holds (λ (n : ℕ). n ≤ suc (length xs)) (eqb c x) 0 (suc (place_in xs c)) zero-le (omega (arith, place-low xs c))

pub place_short : (xs : List ℕ) (c : ℕ) {n : ℕ} → n ≡ place_in xs c → n ≤ length xs
place_short xs c e = rw e (place-low xs c)

-- ---- the dashed upright's numbers
pub ancestor-small : (d : DashStyle) → box.ancestor d < 15
ancestor-small Persistent = lit≤ tt
ancestor-small Once = lit≤ tt

pub dashed_apart : (d : DashStyle) {n : ℕ} → n ≡ 5 * place_in centers (ascii.ancestor d) → n ≡ three_number blank (ascii.ancestor d) blank
dashed_apart Persistent e = e
dashed_apart Once e = e

pub dashed_first : (d : DashStyle) {n : ℕ} → n ≡ 5 * place_in centers (ascii.ancestor d) → 150 + n ≡ first_number (ascii.ancestor d) blank
dashed_first Persistent e = rw e
dashed_first Once e = rw e

-- ---- the number of a link line's cell is a byte
cond_below : (b : Bool) (x y k : ℕ) → x < k → y < k → cond b x y < k
cond_below b x y k h g = cond-holds (λ (n : ℕ). n < k) b x y h g

styled-below : (d : DashStyle) (n k : ℕ) → 15 ≤ k → n < k → box.styled d n < k
styled-below d n k h g =
    let a : box.ancestor d < k = omega (arith, h, ancestor-small d) in
    cond_below (eqb n ANCESTOR) (box.ancestor d) n k a g

pair_small : (a b : ℕ) → pair_number a b < 256
pair_small a b = omega (arith, place-low uprights a, place-low connections b)

first_small : (b c : ℕ) → first_number b c < 256
first_small b c = omega (arith, place-low centers b, place-low rights c)

three-small : (a b c : ℕ) → three_number a b c < 256
three-small a b c = omega (arith, place-low lefts a, place-low centers b, place-low rights c)

apart-small : (i c : ℕ) → apart_number i c < 256
apart-small i c = cond_below (ltb 0 i) _ _ _ (three-small blank c blank) (first_small c blank)

-- two or three characters of the large ASCII renderer are no glyph
linked-small : (i a b c : ℕ) → glyph_of (large.linked i a b c) < 256
linked-small i a b c = cond-holds (λ (x : Choice). glyph_of x < 256) (ltb 0 i) (Three a b c) (Two b c) (lit≤ tt) (lit≤ tt)

pub large-link-small : (r : Row) (p : Place) → glyph_of (large.link r p) < 256
large-link-small r p = linked-small p.index _ _ _

pub second-small : (q : Renderer) (r : Row) (p : Place) → glyph_of (second_link_choice q r p) < 256
second-small Ascii r p = lit≤ tt
second-small AsciiLarge r p = linked-small p.index _ _ _
second-small Square r p = lit≤ tt
second-small Curved r p = lit≤ tt
second-small Dec r p = lit≤ tt

ascii-small : (d : DashStyle) (x : Choice) → ascii_number d x < 256
ascii-small d Space = lit≤ tt
ascii-small d Solid = lit≤ tt
ascii-small d Dashed = pair_small (ascii.ancestor d) blank
ascii-small d Mark = lit≤ tt
ascii-small d End = lit≤ tt
ascii-small d (Two a b) = pair_small a b
ascii-small d (Three a b c) = lit≤ tt
ascii-small d (Glyph n) = lit≤ tt

large-small : (d : DashStyle) (i : ℕ) (x : Choice) → large_number d i x < 256
large-small d i Space = apart-small i blank
large-small d i Solid = apart-small i bar
large-small d i Dashed = apart-small i (ascii.ancestor d)
large-small d i Mark = cond_below (ltb 0 i) _ _ _ (lit≤ tt) (lit≤ tt)
large-small d i End = apart-small i tilde
large-small d i (Two b c) = first_small b c
large-small d i (Three a b c) = three-small a b c
large-small d i (Glyph n) = lit≤ tt

box-small : (d : DashStyle) (x : Choice) → glyph_of x < 256 → box_number d x < 256
box-small d Space h = lit≤ tt
box-small d Solid h = lit≤ tt
box-small d Dashed h = omega (arith, ancestor-small d)
box-small d Mark h = lit≤ tt
box-small d End h = lit≤ tt
box-small d (Two a b) h = lit≤ tt
box-small d (Three a b c) h = lit≤ tt
box-small d (Glyph n) h = styled-below d n 256 (lit≤ tt) h

pub number_small : (q : Renderer) (d : DashStyle) (i : ℕ) (x : Choice) → glyph_of x < 256 → number_of q d i x < 256
unfolding number_of
number_small Ascii d i x h = ascii-small d x
number_small AsciiLarge d i x h = large-small d i x
number_small Square d i x h = box-small d x h
number_small Curved d i x h = box-small d x h
number_small Dec d i x h = box-small d x h

-- ---- a character that is in a list, and the pairs of two lists
record Among (xs : List ℕ) (c : ℕ) : Type 0 where
  there : place_in xs c < length xs

known : {xs : List ℕ} {c : ℕ} → T (ltb (place_in xs c) (length xs)) → Among xs c
known {xs} {c} h = record { there = ltb→lt (place_in xs c) (length xs) h }

place_at : (xs : List ℕ) (c d : ℕ) → place_in xs c < length xs → get_or xs (place_in xs c) d ≡ c
place_at [] c d h = absurd (not-suc-le-zero h)
place_at (x ∷ xs) c d h = go (eqb c x) refl h (place_at xs c d)
  where
    go : (b : Bool) → eqb c x ≡ b → cond b 0 (suc (place_in xs c)) < suc (length xs) → (place_in xs c < length xs → get_or xs (place_in xs c) d ≡ c)
        → get_or (x ∷ xs) (cond b 0 (suc (place_in xs c))) d ≡ c
    go true e h k = sym (eqb-true c x e)
    go false e h k = k (le_of_suc-le-suc h)

map_at : {A B : Type 0} (f : A → B) (xs : List A) (n : ℕ) (d : A) (e : B) → n < length xs → get_or (map f xs) n e ≡ f (get_or xs n d)
map_at f [] n d e h = absurd (not-suc-le-zero h)
map_at f (x ∷ xs) zero d e h = refl
map_at f (x ∷ xs) (suc n) d e h = map_at f xs n d e (le_of_suc-le-suc h)

paired_at : {A B C : Type 0} (f : A → B → C) (xs : List A) (ys : List B) (i j : ℕ) (a x : A) (b y : B) (c : C) → i < length xs → j < length ys
    → get_or xs i a ≡ x → get_or ys j b ≡ y → get_or (paired f xs ys) (length ys * i + j) c ≡ f x y
paired_at f [] ys i j a x b y c h k e g = absurd (not-suc-le-zero h)
paired_at f (z ∷ xs) ys zero j a x b y c h k e g =
    let n : length ys * zero + j ≡ j = omega arith in
    let m : j < length (map (f z) ys) = omega (arith, length-map ys (f z)) in
    rw n (get_or-append (map (f z) ys) (paired f xs ys) c j m ∙ map_at (f z) ys j b c k ∙ rw (e, g))
paired_at f (z ∷ xs) ys (suc i) j a x b y c h k e g =
    let n : length ys * suc i + j ≡ length (map (f z) ys) + (length ys * i + j) = omega (arith, length-map ys (f z)) in
    rw n (get_or-append-add (map (f z) ys) (paired f xs ys) (length ys * i + j) c ∙ paired_at f xs ys i j a x b y c (le_of_suc-le-suc h) k e g)

pairs-at : (xs ys : List ℕ) (a b : ℕ) → Among xs a → Among ys b → get_or (paired two xs ys) (length ys * place_in xs a + place_in ys b) [] ≡ two a b
pairs-at xs ys a b h k =
    paired_at two xs ys (place_in xs a) (place_in ys b) 0 a 0 b [] h.there k.there (place_at xs a 0 h.there) (place_at ys b 0 k.there)

-- ---- the characters that a link cell can have
cond-among : (xs : List ℕ) (b : Bool) (x y : ℕ) → Among xs x → Among xs y → Among xs (cond b x y)
cond-among xs b x y h k = cond-holds (Among xs) b x y h k

dash-upright : (d : DashStyle) → Among uprights (ascii.ancestor d)
dash-upright Persistent = known tt
dash-upright Once = known tt

dash-center : (d : DashStyle) → Among centers (ascii.ancestor d)
dash-center Persistent = known tt
dash-center Once = known tt

standing-among : (r : Row) (cur : LinkLine) → Among uprights (ascii.standing r cur)
unfolding ascii.standing
standing-among r cur =
    cond-among uprights (meets cur any_fork_or_merge && r.any_horizontal) _ _ (known tt)
    (cond-among uprights (meets cur vert_parent) _ _ (known tt)
    (dash-upright r.dash_style))

upright-among : (r : Row) (cur : LinkLine) → Among uprights (ascii.upright r cur)
unfolding ascii.upright
upright-among r cur =
    cond-among uprights (meets cur horizontal) _ _
    (cond-among uprights (meets cur (joined child any_fork_or_merge)) _ _ (known tt) (known tt))
    (cond-among uprights (meets cur vertical) _ _ (standing-among r cur)
    (cond-among uprights (meets cur any_merge && r.any_horizontal) _ _ (known tt)
    (cond-among uprights (meets cur any_fork && r.any_horizontal) _ _ (known tt)
    (known tt))))

connection-among : (r : Row) (cur next : LinkLine) → Among connections (ascii.connection r cur next)
unfolding ascii.connection
connection-among r cur next =
    cond-among connections (meets cur horizontal) _ _ (known tt)
    (cond-among connections (meets cur right_merge) _ _
    (cond-among connections (meets next left_fork && not r.any_horizontal) _ _ (known tt) (known tt))
    (cond-among connections (meets cur right_fork) _ _
    (cond-among connections (meets next left_merge && not r.any_horizontal) _ _ (known tt) (known tt))
    (known tt)))

stroke-among : (xs : List ℕ) (cur parent indirect : LinkLine) (a b c : ℕ) → Among xs a → Among xs b → Among xs c
    → Among xs (large.stroke cur parent indirect a b c)
stroke-among xs cur parent indirect a b c h k l = cond-among xs (meets cur parent) _ _ h (cond-among xs (meets cur indirect) _ _ k l)

level-among : (xs : List ℕ) (cur : LinkLine) → Among xs underscore → Among xs dot → Among xs blank → Among xs (large.level cur)
unfolding large.level
level-among xs cur h k l = stroke-among xs cur horiz_parent horiz_ancestor _ _ _ h k l

module _ (cur : LinkLine) where
  top-left-among : Among lefts (large.top_left cur)
  unfolding large.top_left
  top-left-among =
      stroke-among lefts cur left_merge_parent left_merge_ancestor _ _ _ (known tt) (known tt)
      (level-among lefts cur (known tt) (known tt) (known tt))

  lying-among : Among centers (large.lying cur)
  unfolding large.lying
  lying-among =
      cond-among centers (meets cur any_merge) _ _ (known tt)
      (level-among centers cur (known tt) (known tt) (known tt))

  top-center-among : (d : DashStyle) → Among centers (large.top_center d cur)
  unfolding large.top_center
  top-center-among d = stroke-among centers cur vert_parent vert_ancestor _ _ _ (known tt) (dash-center d) lying-among

  top-right-among : Among rights (large.top_right cur)
  unfolding large.top_right
  top-right-among =
      stroke-among rights cur right_merge_parent right_merge_ancestor _ _ _ (known tt) (known tt)
      (level-among rights cur (known tt) (known tt) (known tt))

  bottom-left-among : Among lefts (large.bottom_left cur)
  unfolding large.bottom_left
  bottom-left-among =
      stroke-among lefts cur left_fork_parent left_fork_ancestor _ _ _ (known tt) (known tt) (known tt)

  bottom-center-among : (d : DashStyle) → Among centers (large.bottom_center d cur)
  unfolding large.bottom_center
  bottom-center-among d = stroke-among centers cur vert_parent vert_ancestor _ _ _ (known tt) (dash-center d) (known tt)

  bottom-right-among : Among rights (large.bottom_right cur)
  unfolding large.bottom_right
  bottom-right-among =
      stroke-among rights cur right_fork_parent right_fork_ancestor _ _ _ (known tt) (known tt) (known tt)

-- ---- the glyph by a choice's number is the choice's bytes
-- glyph n of a list of glyphs is these bytes
pub record Drawn (table : List (List ℕ)) (n : ℕ) (bs : List ℕ) : Type 0 where
  pub within : n < length table
  pub glyph : get_or table n [] ≡ bs

pair-drawn : (mark a b : ℕ) → Among uprights a → Among connections b → Drawn (ascii_table mark) (pair_number a b) (two a b)
pair-drawn mark a b h k =
    let n : pair_number a b < 32 = omega (arith, h.there, k.there) in
    record {
      within = omega (arith, n);
      glyph = get_or-append (paired two uprights connections) (two mark blank ∷ []) [] (pair_number a b) n ∙ pairs-at uprights connections a b h k;
    }

glyph-drawn : (glyphs : ℕ → List ℕ) (mark n : ℕ) → n < 15 → Drawn (box_table glyphs mark) n (glyphs n)
glyph-drawn glyphs mark n h =
    let e : glyphs n ≡ get_or (counted glyphs 0 15) n [] = rw (zero-add n) at (counted-in glyphs [] 0 15 n h) in
    record { within = omega (arith, h); glyph = get_or-append (counted glyphs 0 15) (two mark blank ∷ []) [] n h ∙ sym e }

module _ (mark : ℕ) where
  abbrev pairs : List (List ℕ)
  pairs = paired two centers rights

  abbrev threes : List (List ℕ)
  threes = paired (λ (a : ℕ) (bs : List ℕ). a ∷ bs) lefts pairs

  abbrev marks : List (List ℕ)
  marks = (blank ∷ two mark blank) ∷ two mark blank ∷ []

  two-drawn : (b c : ℕ) → Among centers b → Among rights c → Drawn (large_table mark) (first_number b c) (two b c)
  two-drawn b c h k =
      let n = 5 * place_in centers b + place_in rights c in
      let m : 5 * place_in centers b + place_in rights c < 30 = omega (arith, h.there, k.there) in
      record {
        within = omega (arith, m);
        glyph = get_or-append-add threes (pairs ++ marks) n [] ∙ get_or-append pairs marks [] n m ∙ pairs-at centers rights b c h k;
      }

  three-drawn : (a b c : ℕ) → Among lefts a → Among centers b → Among rights c → Drawn (large_table mark) (three_number a b c) (a ∷ two b c)
  three-drawn a b c g h k =
      let n = 5 * place_in centers b + place_in rights c in
      let m : 5 * place_in centers b + place_in rights c < 30 = omega (arith, h.there, k.there) in
      let o : three_number a b c < 150 = omega (arith, g.there, h.there, k.there) in
      record {
        within = omega (arith, o);
        glyph =
            get_or-append threes (pairs ++ marks) [] (three_number a b c) o
            ∙ paired_at (λ (a : ℕ) (bs : List ℕ). a ∷ bs) lefts pairs (place_in lefts a) n 0 a [] (two b c) [] g.there m (place_at lefts a 0 g.there)
            (pairs-at centers rights b c h k);
      }

  apart-drawn : (i c : ℕ) → Among centers c → Drawn (large_table mark) (apart_number i c) (large.apart i (two c blank))
  apart-drawn i c h = go (ltb 0 i)
    where
      go : (b : Bool) → Drawn (large_table mark) (cond b (three_number blank c blank) (first_number c blank)) (cond b (blank ∷ two c blank) (two c blank))
      go true = three-drawn blank c blank (known tt) h (known tt)
      go false = two-drawn c blank h (known tt)

  mark-drawn : (i : ℕ) → Drawn (large_table mark) (cond (ltb 0 i) 180 181) (large.apart i (two mark blank))
  mark-drawn i = go (ltb 0 i)
    where
      go : (b : Bool) → Drawn (large_table mark) (cond b 180 181) (cond b (blank ∷ two mark blank) (two mark blank))
      go true = record { within = lit≤ tt; glyph = refl }
      go false = record { within = lit≤ tt; glyph = refl }

-- what holds of each of the five plain choices and of the link cells' holds of each choice
module _ (P : Choice → Type 0) (space : P Space) (solid : P Solid) (dashed : P Dashed) (mark : P Mark) (end : P End) where
  pad-holds : (x : PadLine) → P (pad_choice x)
  pad-holds pad.Parent = solid
  pad-holds pad.Ancestor = dashed
  pad-holds pad.Blank = space

  node-holds : (x : NodeLine) → P (node_choice x)
  node-holds node.Node = mark
  node-holds node.Parent = solid
  node-holds node.Ancestor = dashed
  node-holds node.Blank = space

  term-holds : (x : Choice) (c : Cell) → P x → P (term_choice x c)
  term-holds x c h = cond-holds P c.term x (pad_choice c.ancestry) h (pad-holds c.ancestry)

  pub choice-holds : (link second : Row → Place → Choice) (r : Row) (p : Place) → P (link r p) → P (second r p) → (l : Line) → P (choice_with link second r l p)
  choice-holds link second r p h k PreNode = pad-holds (node_to_pad r.is_head p.cell.node)
  choice-holds link second r p h k Node = node-holds p.cell.node
  choice-holds link second r p h k PostNode = pad-holds (node_to_pad r.is_root p.cell.node)
  choice-holds link second r p h k Link = h
  choice-holds link second r p h k SecondLink = k
  choice-holds link second r p h k Term = term-holds Solid p.cell solid
  choice-holds link second r p h k SecondTerm = term-holds End p.cell end
  choice-holds link second r p h k Ancestry = pad-holds p.cell.ancestry
  choice-holds link second r p h k PostAncestry = pad-holds (foot_pad r.dash_style p.cell.ancestry)

module _ (mark : ℕ) (r : Row) (l : Line) (p : Place) where
  abbrev style : DashStyle
  style = r.dash_style

  abbrev cur : LinkLine
  cur = p.cell.link

  abbrev AsciiDrawn : Choice → Type 0
  AsciiDrawn x = Drawn (ascii_table mark) (ascii_number style x) (ascii.bytes style mark x)

  ascii-drawn : AsciiDrawn (choice_with ascii.link no_choice r l p)
  ascii-drawn =
      choice-holds AsciiDrawn
      (record { within = lit≤ tt; glyph = refl })
      (record { within = lit≤ tt; glyph = refl })
      (pair-drawn mark (ascii.ancestor style) blank (dash-upright style) (known tt))
      (record { within = lit≤ tt; glyph = refl })
      (record { within = lit≤ tt; glyph = refl })
      ascii.link
      no_choice
      r
      p
      (pair-drawn mark (ascii.upright r cur) (ascii.connection r cur p.next) (upright-among r cur) (connection-among r cur p.next))
      (record { within = lit≤ tt; glyph = refl })
      l

  abbrev LargeDrawn : Choice → Type 0
  LargeDrawn x = Drawn (large_table mark) (large_number style p.index x) (large.bytes style mark p.index x)

  linked-drawn : (a b c : ℕ) → Among lefts a → Among centers b → Among rights c → LargeDrawn (large.linked p.index a b c)
  linked-drawn a b c f g h = cond-holds LargeDrawn (ltb 0 p.index) (Three a b c) (Two b c) (three-drawn mark a b c f g h) (two-drawn mark b c g h)

  large-drawn : LargeDrawn (choice_with large.link large.second_link r l p)
  large-drawn =
      choice-holds LargeDrawn
      (apart-drawn mark p.index blank (known tt))
      (apart-drawn mark p.index bar (known tt))
      (apart-drawn mark p.index (ascii.ancestor style) (dash-center style))
      (mark-drawn mark p.index)
      (apart-drawn mark p.index tilde (known tt))
      large.link
      large.second_link
      r
      p
      (linked-drawn _ _ _ (top-left-among cur) (top-center-among cur style) (top-right-among cur))
      (linked-drawn _ _ _ (bottom-left-among cur) (bottom-center-among cur style) (bottom-right-among cur))
      l

  module _ (glyphs : ℕ → List ℕ) where
    abbrev BoxDrawn : Choice → Type 0
    BoxDrawn x = Drawn (box_table glyphs mark) (box_number style x) (box.bytes glyphs style mark x)

    box-drawn : BoxDrawn (choice_with (box.link box.box_link) no_choice r l p)
    box-drawn =
        let facts = box.facts_of r.merge cur in
        choice-holds BoxDrawn
        (record { within = lit≤ tt; glyph = refl })
        (record { within = lit≤ tt; glyph = refl })
        (glyph-drawn glyphs mark (box.ancestor style) (ancestor-small style))
        (record { within = lit≤ tt; glyph = refl })
        (record { within = lit≤ tt; glyph = refl })
        (box.link box.box_link)
        no_choice
        r
        p
        (glyph-drawn glyphs mark (box.styled style (box.box_link facts)) (styled-below style (box.box_link facts) 15 (lit≤ tt) (omega (arith, link-low facts))))
        (record { within = lit≤ tt; glyph = refl })
        l

    pub cell-drawn : (q : Renderer) → Drawn (table_of glyphs q mark) (number_of q style p.index (choice_of q r l p)) (bytes_of glyphs q style mark p.index (choice_of q r l p))
    unfolding number_of bytes_of choice_of
    cell-drawn Ascii = ascii-drawn
    cell-drawn AsciiLarge = large-drawn
    cell-drawn Square = box-drawn
    cell-drawn Curved = box-drawn
    cell-drawn Dec = box-drawn

-- ---- a line drawn by the numbers of its cells
cells-drawn : (t : List ℕ) (glyphs : ℕ → List ℕ) (q : Renderer) (mark : ℕ) → Holds t glyphs q mark → (r : Row) (l : Line) (i : ℕ) (cs : List Cell)
    → cells_text t (numbers_from q r.dash_style i (map (choice_of q r l) (places i cs)))
    ≡ joins_from (bytes_of glyphs q r.dash_style mark) i (map (choice_of q r l) (places i cs))
cells-drawn t glyphs q mark h r l i [] = refl
cells-drawn t glyphs q mark h r l i (c ∷ cs) =
    let p : Place = record { index = i; cell = c; next = first_link cs } in
    let d = cell-drawn mark r l p glyphs q in
    rw (h (number_of q r.dash_style i (choice_of q r l p)) d.within, d.glyph, cells-drawn t glyphs q mark h r l (suc i) cs)

-- a line of a drawing by the numbers of the Rust's choices
pub glyph-line : (t : List ℕ) (glyphs : ℕ → List ℕ) (d : Drawing) → Holds t glyphs d.renderer d.mark → (l : Line)
    → cells_text t (numbers_from d.renderer d.row.dash_style 0 (choices_of d.renderer d.row (take d.width d.cells) l)) ≡ line_in glyphs d l
glyph-line t glyphs d h l = cells-drawn t glyphs d.renderer d.mark h d.row l 0 (take d.width d.cells)

-- names that give a link cell the Rust's choice give every cell of every line that choice
module _ (named : box.Facts → ℕ) (q : Renderer) (r : Row) (names : (p : Place) → link_choice named q r p ≡ link_choice box.box_link q r p) where
  choice-named : (l : Line) (p : Place) → choice_by named q r l p ≡ choice_of q r l p
  unfolding choice_of
  choice-named PreNode p = refl
  choice-named Node p = refl
  choice-named PostNode p = refl
  choice-named Link p = names p
  choice-named SecondLink p = refl
  choice-named Term p = refl
  choice-named SecondTerm p = refl
  choice-named Ancestry p = refl
  choice-named PostAncestry p = refl

  choices-named : (l : Line) (ps : List Place) → map (choice_by named q r l) ps ≡ map (choice_of q r l) ps
  choices-named l [] = refl
  choices-named l (p ∷ ps) = ap₂ ◌∷◌ (choice-named l p) (choices-named l ps)

-- a line of a drawing by the numbers out of a renderer's own table
pub table-line : (t : List ℕ) (glyphs : ℕ → List ℕ) (d : Drawing) → Tables t glyphs d.renderer d.mark → (l : Line)
    → cells_text t (numbers_in t d l) ≡ line_in glyphs d l
table-line t glyphs d h l =
    rw (choices-named (named t) d.renderer d.row (h.names d.row) l (places 0 (take d.width d.cells))) (glyph-line t glyphs d h.holds l)
