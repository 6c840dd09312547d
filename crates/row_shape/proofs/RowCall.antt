-- The row call meets its definition: what holds once the node's column is found, and one law for each return of `next_row_shape`.
use Prim.Native.Nat.{ℕ, suc, ◌+◌, ◌-◌, ◌≤◌, ◌<◌, min, max}
use mathlib.Core.Path.{◌≡◌, refl, ap, ap₂, ◌∙◌, sym}
use mathlib.Core.Bool.{Bool, true, false, cond, ◌&&◌}
use mathlib.Core.List.{List, ◌∷◌, ◌++◌, map}
use native.Mathlib.Omega.{arith}
use lib.Dec.{ltb, eqb}
use lib.ListN.{length, get_or, take, drop, set, replicate, length-append, length-set, length-replicate, length-take}
use lib.Seq.{get_or-set_same, get_or-set_other, get_or-take, ext_get_or}
use borrow.Author.Tests.{lt-ltb, le-ltb, ltb-true, ltb-false, eqb-true, eqb-false}
use Rattle.column.specs.declared.Column.{Column}
use Rattle.column.specs.declared.Column.TheVariants.{Empty, Ancestor, Parent}
use Rattle.std.specs.Prelude.{Some, None, unwrap_or}
use Rattle.column.specs.declared.Slot.{Slot}
use Rattle.column.specs.Found.{Found}
use Rattle.column.specs.Columns.{column_limit, is_parent, is_ancestor, is_named, find, at, put, trim, live, counted, carried, origins, origin_at, empty_slot}
use Rattle.std.specs.List.{swap as exchanged, list_any}
use Rattle.std.proofs.lemmas.List.{take-take, length-take-le}
use Rattle.std.proofs.lemmas.List.Edits.{swap_is as exchanged-is}
use Rattle.slices.proofs.Front.{length_front, front-clamp}
use Rattle.column.proofs.Laws.{column_of as slot_column, live_at, origins-at, origins-past, first_below}
use Rattle.column.proofs.Positions.{at-put-same, length-put, past_end}
use Rattle.render.specs.declared.render.Ancestor.{Ancestor as Entry}
use Rattle.render.specs.declared.render.Entry.{Entry as Entry₁}
use Rattle.render.specs.declared.render.Entries.{Entries}
use Rattle.render.specs.declared.types.Cell.{Cell}
use Rattle.render.specs.declared.types.RowShape.{RowShape}
use Rattle.render.specs.Entries.{entry_limit, is_anonymous, is_too_many, given, listed}
use Rattle.render.specs.Lines.{blank_cell}
use Rattle.render.specs.Refusals.{refusal}
use Rattle.render.proofs.EntryLaws.{few-count, few-given}
use Rattle.links.specs.declared.Drawn.{Drawn}
use Rattle.links.specs.declared.Drawn.TheVariants.{Nobody}
use Rattle.links.specs.declared.Swap.{Swap}
use Rattle.links.specs.declared.AncestorColumnBounds.{AncestorColumnBounds}
use Rattle.links.specs.Links.{bounds_of, linked}
use Rattle.links.specs.Inner.{kind_at, kinds, reach_start, reach_last}
use Rattle.links.proofs.LinkLaws.{kinds-at, Unreached, unreached-before, unreached-after}
use Rattle.shaper.specs.declared.Shaper.{Shaper}
use Rattle.shaper.specs.Shaper.{View, view_of}
use Rattle.shaper.specs.NodeColumn.{unallocated, node_column, head_at, head, Finds}
use Rattle.shaper.proofs.NodeLaws.{node_in, fitting-at, fitting-none, head-held}
use Rattle.placing.specs.Placing.{walk, gave_up, swapped, Placed, place_at, place, kind_of, draws_at, source, line_origin, origin_after}
use Rattle.placing.specs.Inner.{column_before}
use Rattle.placing.proofs.EndLaws.{Ends}
use Rattle.placing.proofs.PlacingLaws.{walk_more, opened-long, opened-is, opened-carries, before-is, Carrying, Going, Gone, going_start, going_end, given-next, given-end}
use Rattle.placing.proofs.SwapLaws.{other-inside, width_is, up_is, moved-is, moved-carries, redrawn-long, redrawn-is, kind-kept}
use Rattle.cells.specs.Cells.{cells_from, cell_of}
use Rattle.cells.specs.Inner.{plain_cell, cell_with}
use Rattle.cells.proofs.CellLaws.{Keeps, cell-is, plain-cell-is, plain-shown, length-cells, cells-start, cells-next, cells_at, cells-inside, cells-past, cells_are}
use Rattle.row_shape.specs.Row.{separator, shape_at, no_shape, RowReply, row_checks, row_after, row_answer, row}
use Rattle.row_shape.specs.Inner.{separator_with}
use Rattle.row_shape.specs.Promises.{Rows}

-- ---- the row call from the node's column on
abbrev row_started : View → ℕ → List Entry → ℕ → RowReply
row_started v n es c =
    let p : Placed = place_at c es (put v.columns c Empty) in row_answer (refusal (row_checks es p)) v n es p

row_from : (v : View) (n : ℕ) (es : List Entry) (c : ℕ) → c ≡ node_column v n → row v n es ≡ row_started v n es c
unfolding row place
row_from v n es c e = sym (ap (row_started v n es) e)

-- ---- a row that is refused
module _ (s : Shaper) (n : ℕ) (es : Entries) where
  abbrev v : View
  v = view_of s

  refused-row : (k : ℕ) → row v n (listed es) ≡ record { refusal = suc k; shape = no_shape; view = v }
      → Rows s n es (record { refusal = suc k; shape = no_shape; shaper = s })
  refused-row k e =
      record {
        reply = sym e;
        refused = λ h. refl;
        fits = λ z. absurd (omega arith);
        rest = λ z. absurd (omega arith);
        options = refl;
      }

  -- more than 8 entries
  pub row-too-many : is_too_many (listed es) ≡ true → Rows s n es (record { refusal = 3; shape = no_shape; shaper = s })
  unfolding row place
  row-too-many h = refused-row 2 (rw h)

  module _ (few : is_too_many (listed es) ≡ false) where
    wide : (c : ℕ) → c ≡ node_column v n → column_limit < length (walk c (listed es) (put v.columns c Empty))
        → row v n (listed es) ≡ record { refusal = 4; shape = no_shape; view = v }
    wide c e h = row_from v n (listed es) c e ∙ rw (few, lt-ltb column_limit (length (walk c (listed es) (put v.columns c Empty))) h)

    -- no room for the node
    pub row-no-column : (existing f : Found) → existing ≡ find n v.columns → Finds (unwrap_or existing (unallocated v)) f → f ≡ None
        → Rows s n es (record { refusal = 4; shape = no_shape; shaper = s })
    row-no-column existing f e g q =
        let c : ℕ = node_column v n in
        let k : unwrap_or existing (unallocated v) ≡ c = rw e in
        let h : column_limit ≤ unwrap_or existing (unallocated v) = fitting-none _ (sym q ∙ g.column) in
        let cs : List Column = put v.columns c Empty in
        refused-row 3 (wide c refl (omega (arith, k, h, walk_more c (listed es) cs, length-put v.columns c Empty)))

-- ---- the node's column is found

-- what holds from there on: m columns are live, and the node's is c
pub record Begun (s : Shaper) (n : ℕ) (es : Entries) (existing : Found) (c m : ℕ) : Type 0 where
  pub few : is_too_many (listed es) ≡ false
  pub held : existing ≡ find n (view_of s).columns
  pub place : c ≡ node_column (view_of s) n
  pub within : c < column_limit
  pub count : m ≡ min s.count column_limit
  pub long : length s.slots ≡ column_limit
  pub wide-list : length es.list ≡ entry_limit

pub column-within : (u c : ℕ) (f : Found) → Finds u f → f ≡ Some c → c < column_limit
column-within u c f g q = let p = fitting-at c u (sym q ∙ g.column) in rw p.0 p.1

pub begun : (s : Shaper) (n : ℕ) (es : Entries) (existing f : Found) (c m : ℕ) → is_too_many (listed es) ≡ false → existing ≡ find n (view_of s).columns
    → Finds (unwrap_or existing (unallocated (view_of s))) f → f ≡ Some c → m ≡ min s.count column_limit → length s.slots ≡ column_limit → length es.list ≡ entry_limit
    → Begun s n es existing c m
begun s n es existing f c m few e g q k long listed-long =
    let p = fitting-at c (unwrap_or existing (unallocated (view_of s))) (sym q ∙ g.column) in
    record { few = few; held = e; place = p.0 ∙ rw e; within = rw p.0 p.1; count = k; long = long; wide-list = listed-long }

module _ (s : Shaper) (n : ℕ) (es : Entries) (existing : Found) (c m : ℕ) (b : Begun s n es existing c m) where
  abbrev u : View
  u = view_of s

  -- the columns before the entries, the node's Empty
  abbrev pub bare : List Column
  bare = put (live m s.slots) c Empty

  same-columns : live m s.slots ≡ u.columns
  same-columns = front-clamp slot_column m s.count s.slots (rw b.long b.count)

  bare-is : bare ≡ put u.columns c Empty
  bare-is = ap (λ (cs : List Column). put cs c Empty) same-columns

  length-live : length (live m s.slots) ≡ m
  length-live = rw (length_front slot_column m s.slots, b.long) (omega (arith, b.count))

  pub near : c ≤ suc m
  near = rw b.place (omega (arith, node_in u n, ap length same-columns, length-live))

  few-columns : m ≤ column_limit
  few-columns = omega (arith, b.count)

  node-in-bare : c < length bare
  node-in-bare = omega (arith, length-put (live m s.slots) c Empty)

  -- the entries are those of the array
  pub given_is : listed es ≡ given es
  given_is = few-given es b.few

  pub count-within : es.count ≤ entry_limit
  count-within = few-count es b.few

  length-given : es.count ≡ length (given es)
  length-given =
      let z : length (given es) ≡ min es.count (length es.list) = length_front (λ (e : Entry₁). e.ancestor) es.count es.list in
      omega (arith, z, b.wide-list, count-within)

  -- the walk begins
  pub row-start : (k w : ℕ) (parents : List Drawn) → k ≡ min m c → w ≡ min (max m (c + 1)) column_limit → parents ≡ replicate column_limit Nobody
      → Going bare c (given es) 0 (set (set s.slots k empty_slot) c empty_slot) w parents 0 false
  row-start k w parents e f p =
      going_start bare c (given es) _ w parents (opened-long s.slots m c b.long few-columns b.within near k w e f) (omega arith)
      (opened-is s.slots m c b.long few-columns b.within near k w e f) p

  same-origins : u.origins ≡ origins m s.slots
  same-origins = sym (front-clamp carried m s.count s.slots (rw b.long b.count))

  pub row_carries : (k w : ℕ) → k ≡ min m c → w ≡ min (max m (c + 1)) column_limit → Carrying n bare u.origins (set (set s.slots k empty_slot) c empty_slot) w
  row_carries k w e f = opened-carries s.slots m c b.long few-columns b.within near k w e f n u.origins same-origins

  length-used : length (take es.count es.list) ≡ es.count
  length-used = length-take-le es.count es.list (rw b.wide-list count-within)

  -- the walk ends
  pub row_walked : (i : ℕ) (slots : List Slot) (count : ℕ) (parents : List Drawn) (last : ℕ) (said : Bool) → Going bare c (given es) i slots count parents last said
      → length (take es.count es.list) ≤ i → Gone bare c (given es) slots count parents last said
  row_walked i slots count parents last said g h = going_end bare c (given es) i slots count parents last said g (given-end es.count es.list i (rw length-used at h))

  -- the next entry of the array
  pub entry_next : (i : ℕ) (d : Entry₁) → i < length (take es.count es.list)
      → drop i (given es) ≡ (get_or (take es.count es.list) i d).ancestor ∷ drop (suc i) (given es)
  entry_next i d h =
      let k : i < es.count = rw length-used at h in
      rw (get_or-take es.count es.list i d k) (given-next es.count es.list i d k (rw b.wide-list (omega (arith, count-within))))

  -- no room for the entries
  pub row-no-room : column_limit < length (walk c (given es) bare) → Rows s n es (record { refusal = 4; shape = no_shape; shaper = s })
  row-no-room h = refused-row s n es 3 (wide s n es b.few c b.place (rw (given_is, ← bare-is) h))

-- ---- the shape

-- who draws in each column of an array, as a function of the place
kinds-are : (n : ℕ) (l : List Drawn) (f : ℕ → Drawn) → n ≤ length l → ((j : ℕ) → kind_at l j ≡ f j) → kinds n l ≡ cells_from f 0 n
kinds-are n l f h e =
    let same : length (kinds n l) ≡ n = rw length-take (omega arith) in
    ext_get_or Nobody (kinds n l) (cells_from f 0 n) (same ∙ sym (length-cells f Nobody 0 n)) (λ i k. get_or-take n l i Nobody (rw same at k) ∙ e i ∙ sym (cells-inside f Nobody n i (rw same at k)))

swap-same : (a : Swap) (f : Found) (d : Bool) → a.given_up ≡ f → a.was_direct ≡ d → a ≡ record { given_up = f; was_direct = d }
swap-same a f d e g = ap₂ (λ (x : Found) (y : Bool). record { given_up = x; was_direct = y }) e g

-- the shape, from what the call found
shape-by : (v : View) (n : ℕ) (es : List Entry) (p : Placed) (merges sep hd root term : Bool) (width : ℕ) (r : AncestorColumnBounds) (w : Swap) (need : Bool) (cells : List Cell)
    → merges ≡ ltb 1 (length es) → sep ≡ separator v (find n v.columns) p.column (list_any is_anonymous es) → hd ≡ head (find n v.columns) v.columns
    → root ≡ eqb (length es) 0 → width ≡ length p.walked → term ≡ list_any is_anonymous es
    → r ≡ bounds_of (cells_from (λ i. kind_of (draws_at p.up p.column es p.bare i)) 0 (length p.walked)) p.column
    → w ≡ record { given_up = p.up; was_direct = is_parent (at p.bare (unwrap_or p.up p.column)) } → need ≡ linked r w
    → cells
    ≡ cells_from (λ i. cell_of need r w i (kind_of (draws_at p.up p.column es p.bare i)) (at p.bare i) (at p.settled i)) 0 (length p.walked)
    ++ replicate (column_limit - length p.walked) blank_cell
    → record {
      node = n;
      merge = merges;
      separator_line = sep;
      style = v.style;
      is_head = hd;
      is_root = root;
      node_column = p.column;
      width = width;
      link_line = need;
      term_line = term;
      cells = cells;
    }
    ≡ shape_at v n es p
shape-by v n es p merges sep hd root term width r w need cells e1 e2 e3 e4 e5 e6 e7 e8 e9 e10 = rw (e1, e2, e3, e4, e5, e6, e10, e9, e7, e8)

accept : (v : View) (n : ℕ) (es : List Entry) (c : ℕ) (cs : List Column) → c ≡ node_column v n → cs ≡ put v.columns c Empty → is_too_many es ≡ false → length (walk c es cs) ≤ column_limit
    → row v n es ≡ record { refusal = 0; shape = shape_at v n es (place_at c es cs); view = row_after v n (place_at c es cs) }
accept v n es c cs e b few h =
    row_from v n es c e ∙ rw (← b, few, le-ltb column_limit (length (walk c es cs)) h)

reply-same : (r : ℕ) (a b : RowShape) (x y : View) → a ≡ b → x ≡ y → ◌≡◌ {A = RowReply} (record { refusal = r; shape = a; view = x }) (record { refusal = r; shape = b; view = y })
reply-same r a b x y e f = ap₂ (λ (g : RowShape) (u : View). record { refusal = r; shape = g; view = u }) e f

-- ---- the columns that are left of an array's first n
pub left-of : (n k m : ℕ) (l : List Slot) → k ≡ n → n ≤ length l → m ≤ length (take n l) → live m (take n l) ≡ trim (live (length (take n l)) (take n l))
    → (m ≤ k) × (live m l ≡ trim (live k l))
left-of n k m l q h below e =
    let w : length (take n l) ≡ n = length-take-le n l h in
    let z : m ≤ n = rw w at below in
    rw q (z, ap (map slot_column) (sym (take-take m n l z)) ∙ e ∙ rw w (ap (λ (x : List Slot). trim (map slot_column x)) (take-take n n l (omega arith))))

-- ---- the loops over the cells
module _ (need : Bool) (r : AncestorColumnBounds) (w : Swap) (parents : List Drawn) (old slots : List Slot) (m c count : ℕ) where
  -- the plain cell of column i
  abbrev pub plain_at : ℕ → Cell
  plain_at i = plain_cell need (get_or slots i empty_slot).column

  -- the cell that is drawn over it
  abbrev pub drawn_at : ℕ → Cell
  drawn_at i = cell_with need r w i (kind_at parents i) (column_before (get_or old i empty_slot) i m c) (get_or slots i empty_slot).column (plain_at i)

  -- what the first loop keeps: the first p cells are plain, the others blank
  pub record Plain (p : ℕ) (cells : List Cell) : Type 0 where
    pub upto : p ≤ count
    pub fits : count ≤ column_limit
    pub stored : cells ≡ cells_from plain_at 0 p ++ replicate (column_limit - p) blank_cell

  pub plain-start : (cells : List Cell) (blank : Cell) → blank ≡ blank_cell → count ≤ column_limit → cells ≡ replicate column_limit blank → Plain 0 cells
  plain-start cells blank e h f = record { upto = omega arith; fits = h; stored = cells-start plain_at blank_cell column_limit cells (f ∙ rw e) }

  pub plain-next : (p : ℕ) (cells : List Cell) (a parent ancestor blank : Cell) → Plain p cells → p < count → parent ≡ plain_cell need (Parent 0) → ancestor ≡ plain_cell need (Ancestor 0)
      → blank ≡ blank_cell → a ≡ cond (is_parent (get_or slots p empty_slot).column) parent (cond (is_ancestor (get_or slots p empty_slot).column) ancestor blank) → Plain (p + 1) (set cells p a)
  plain-next p cells a parent ancestor blank d h e f g q =
      record {
        upto = omega arith;
        fits = d.fits;
        stored = cells-next plain_at blank_cell column_limit p cells a (omega (arith, d.fits)) (q ∙ rw (e, f, g) (plain-shown need (get_or slots p empty_slot).column)) d.stored;
      }

  -- what the second keeps: the cells from the first that the row reaches up to k are drawn, the others plain
  pub record Drawing (k : ℕ) (cells : List Cell) : Type 0 where
    pub from : reach_start r w ≤ k
    pub fits : count ≤ column_limit
    pub long : length cells ≡ column_limit
    pub drawn : (j : ℕ) → reach_start r w ≤ j → j < k → j < count → get_or cells j blank_cell ≡ drawn_at j
    pub before : (j : ℕ) → j < reach_start r w → j < count → get_or cells j blank_cell ≡ plain_at j
    pub behind : (j : ℕ) → k ≤ j → j < count → get_or cells j blank_cell ≡ plain_at j
    pub past : (j : ℕ) → count ≤ j → get_or cells j blank_cell ≡ blank_cell

  pub drawing-start : (p k : ℕ) (cells : List Cell) → k ≡ reach_start r w → count ≤ p → Plain p cells → Drawing k cells
  drawing-start p k cells e h d =
      let q : p ≡ count = omega (arith, d.upto) in
      let s : cells ≡ cells_from plain_at 0 count ++ replicate (column_limit - count) blank_cell = d.stored ∙ rw q in
      let all : (j : ℕ) → j < count → get_or cells j blank_cell ≡ plain_at j = λ j k. ap (λ (l : List Cell). get_or l j blank_cell) s ∙ cells_at plain_at blank_cell count (replicate (column_limit - count) blank_cell) j k in
      record {
        from = omega (arith, e);
        fits = d.fits;
        long = ap length s ∙ rw (length-append, length-cells plain_at blank_cell 0 count, length-replicate) (omega (arith, d.fits));
        drawn = λ j a b g. absurd (omega (arith, e));
        before = λ j a g. all j g;
        behind = λ j a g. all j g;
        past = λ j g. ap (λ (l : List Cell). get_or l j blank_cell) s ∙ cells-past plain_at blank_cell 0 count (column_limit - count) j g;
      }

  pub drawing-next : (k : ℕ) (cells : List Cell) (a : Cell) (x : Column) → Drawing k cells → k < count
      → a ≡ cell_with need r w k (kind_at parents k) x (get_or slots k empty_slot).column (get_or cells k blank_cell) → x ≡ column_before (get_or old k empty_slot) k m c
      → Drawing (k + 1) (set cells k a)
  drawing-next k cells a x d l e f =
      record {
        from = omega (arith, d.from);
        fits = d.fits;
        long = length-set cells k a ∙ d.long;
        drawn = λ j y z g. there j y z g (eqb j k) refl;
        before = λ j y g. get_or-set_other cells k j a blank_cell (λ z. omega (arith, z)) ∙ d.before j y g;
        behind = λ j y g. get_or-set_other cells k j a blank_cell (λ z. omega (arith, z)) ∙ d.behind j (omega arith) g;
        past = λ j g. get_or-set_other cells k j a blank_cell (λ z. omega (arith, z)) ∙ d.past j g;
      }
    where
      here : a ≡ drawn_at k
      here = e ∙ rw (f, d.behind k (omega arith) l)

      there : (j : ℕ) → reach_start r w ≤ j → j < k + 1 → j < count → (t : Bool) → eqb j k ≡ t → get_or (set cells k a) j blank_cell ≡ drawn_at j
      there j y z g true q =
          let w : j ≡ k = eqb-true j k q in
          rw w (get_or-set_same cells k a blank_cell (rw d.long (omega (arith, d.fits))) ∙ here)
      there j y z g false q =
          let w : j ≡ k → ⊥ = eqb-false j k q in
          get_or-set_other cells k j a blank_cell w ∙ d.drawn j y (omega (arith, w)) g

module _ (s : Shaper) (n : ℕ) (es : Entries) (existing : Found) (c m : ℕ) (b : Begun s n es existing c m) (walked : List Slot) (count : ℕ) (met : List Drawn)
    (last : ℕ) (said : Bool) (g : Gone (put (live m s.slots) c Empty) c (given es) walked count met last said) where
  abbrev bs : List Column
  bs = put (live m s.slots) c Empty

  abbrev rs : List Entry
  rs = given es

  abbrev up : Found
  up = gave_up c rs bs

  abbrev ws : List Column
  ws = walk c rs bs

  inside : c < length bs
  inside = node-in-bare s n es existing c m b

  pub width_fits : count ≤ column_limit
  width_fits = g.fits

  -- the column given up, as the call finds it, and the one that changes places with the node's
  module _ (f : Found) (f-is : f ≡ cond (eqb es.count 1 && ltb c last) (Some last) None) (o : ℕ) (o_is : o ≡ unwrap_or f c) where
    f-up : f ≡ up
    f-up = up_is bs c rs walked count met last said g inside es.count f (length-given s n es existing c m b) f-is

    o-other : o ≡ unwrap_or up c
    o-other = o_is ∙ ap (λ (x : Found). unwrap_or x c) f-up

    pub other-within : o < column_limit
    other-within =
        omega (arith, o-other, other-inside bs c rs walked count met last said g inside, width_is bs c rs walked count met last said g inside, g.fits)

    module _ (slots : List Slot) (changed : slots ≡ exchanged walked c o)
        (parents : List Drawn) (parents-is : parents ≡ set (set met o Nobody) c (get_or met o Nobody))
        (direct : Bool) (direct_is : direct ≡ is_parent (column_before (get_or s.slots o empty_slot) o m c)) where
      abbrev swap : Swap
      swap = record { given_up = f; was_direct = direct }

      slots-is : slots ≡ set (set walked c (get_or walked o empty_slot)) o (get_or walked c empty_slot)
      slots-is = changed ∙ sym (exchanged-is walked c o empty_slot (rw g.long b.within) (rw g.long other-within))

      -- the columns after the swap
      abbrev settled : List Column
      settled = swapped up c ws

      settled_is : live count slots ≡ settled
      settled_is =
          ap (live count) (slots-is ∙ ap (λ (x : ℕ). set (set walked c (get_or walked x empty_slot)) x (get_or walked c empty_slot)) o-other)
          ∙ moved-is bs c rs walked count met last said g inside

      pub slots-long : length slots ≡ column_limit
      slots-long = ap length slots-is ∙ length-set (set walked c (get_or walked o empty_slot)) o _ ∙ length-set walked c _ ∙ g.long

      -- what they carry
      module _ (y : Carrying n bs (view_of s).origins walked count) where
        abbrev after : ℕ → ℕ
        after = origin_after n (place_at c rs bs) (view_of s).origins

        moved-slots : slots ≡ set (set walked c (get_or walked (unwrap_or up c) empty_slot)) (unwrap_or up c) (get_or walked c empty_slot)
        moved-slots = slots-is ∙ ap (λ (x : ℕ). set (set walked c (get_or walked x empty_slot)) x (get_or walked c empty_slot)) o-other

        named-origin : (i : ℕ) → is_named (at settled i) ≡ true → (get_or slots i empty_slot).origin ≡ line_origin n bs (view_of s).origins (source up c i)
        named-origin i h =
            ap (λ (l : List Slot). (get_or l i empty_slot).origin) moved-slots
            ∙ moved-carries bs c rs walked count met last said g inside (at-put-same (live m s.slots) c Empty) n (view_of s).origins y i h

        carries-at : (i : ℕ) → origin_at (origins count slots) i ≡ after i
        carries-at i = go (ltb i count) refl (is_named (at settled i)) refl
          where
            there : i < count → origin_at (origins count slots) i ≡ counted (at settled i) (get_or slots i empty_slot).origin
            there h =
                let l : i < length slots = rw slots-long (omega (arith, g.fits)) in
                origins-at count slots i h l ∙ ap (λ (x : Column). counted x (get_or slots i empty_slot).origin) (sym (live_at count slots i h l) ∙ ap (λ (x : List Column). at x i) settled_is)

            go : (a : Bool) → ltb i count ≡ a → (b : Bool) → is_named (at settled i) ≡ b → origin_at (origins count slots) i ≡ after i
            go true q true z = there (ltb-true i count q) ∙ rw z (named-origin i z)
            go true q false z = there (ltb-true i count q) ∙ rw z
            go false q b z =
                let k : count ≤ i = ltb-false i count q in
                let e : at settled i ≡ Empty = past_end settled i (rw (← settled_is, length_front slot_column count slots) (omega arith)) in
                origins-past count slots i (omega arith) ∙ rw e

        origins-after : (x : Shaper) → Ends slots count c s.options x → origins x.count x.slots ≡ cells_from after 0 (length (live x.count x.slots))
        origins-after x h =
            let same : length (origins x.count x.slots) ≡ length (live x.count x.slots) = length_front carried x.count x.slots ∙ sym (length_front slot_column x.count x.slots) in
            ext_get_or 0 (origins x.count x.slots) (cells_from after 0 (length (live x.count x.slots)))
            (same ∙ sym (length-cells after 0 0 (length (live x.count x.slots))))
            (λ i k. h.carried i ∙ carries-at i ∙ sym (cells-inside after 0 (length (live x.count x.slots)) i (rw same at k)))

      redrawn-as : parents ≡ set (set met (unwrap_or up c) Nobody) c (get_or met (unwrap_or up c) Nobody)
      redrawn-as = parents-is ∙ ap (λ (x : ℕ). set (set met x Nobody) c (get_or met x Nobody)) o-other

      abbrev draws : ℕ → Drawn
      draws i = kind_of (draws_at up c rs bs i)

      kinds-is : (i : ℕ) → kind_at parents i ≡ draws i
      kinds-is i = ap (λ (l : List Drawn). kind_at l i) redrawn-as ∙ redrawn-is bs c rs walked count met last said g inside i

      pub parents-long : length parents ≡ column_limit
      parents-long = ap length redrawn-as ∙ redrawn-long bs c rs walked count met last said g inside

      -- the swap's strokes
      swap_is : swap ≡ record { given_up = up; was_direct = is_parent (at bs (unwrap_or up c)) }
      swap_is =
          swap-same swap up (is_parent (at bs (unwrap_or up c))) f-up
          (direct_is
          ∙ ap is_parent (before-is s.slots m c b.long (few-columns s n es existing c m b) b.within (near s n es existing c m b) o other-within)
          ∙ ap (λ (x : ℕ). is_parent (at bs x)) o-other)

      width-as : count ≡ length ws
      width-as = width_is bs c rs walked count met last said g inside

      module _ (r : AncestorColumnBounds) (r-is : r ≡ bounds_of (kinds count parents) c) where
        target_is : r.target ≡ c
        target_is = ap (λ (x : AncestorColumnBounds). x.target) r-is

        -- a column in which nothing of the row ends is kept
        keeps : (i : ℕ) → Keeps r swap i (draws i) (at bs i) (at settled i)
        keeps i d e q = kind-kept i c rs bs d (rw target_is at e) (rw f-up at q)

        old-at : (i : ℕ) → i < count → column_before (get_or s.slots i empty_slot) i m c ≡ at bs i
        old-at i h = before-is s.slots m c b.long (few-columns s n es existing c m b) b.within (near s n es existing c m b) i (omega (arith, g.fits))

        new-at : (i : ℕ) → i < count → (get_or slots i empty_slot).column ≡ at settled i
        new-at i h = sym (live_at count slots i h (rw slots-long (omega (arith, g.fits)))) ∙ ap (λ (x : List Column). at x i) settled_is

        -- each cell that is drawn, and each plain one that the row does not reach, is the definition's
        drawn-is : (need : Bool) (i : ℕ) → i < count → drawn_at need r swap parents s.slots slots m c count i ≡ cell_of need r swap i (draws i) (at bs i) (at settled i)
        drawn-is need i h = rw (old-at i h, new-at i h, kinds-is i) (cell-is need r swap i (draws i) (at bs i) (at settled i) (keeps i))

        plain-is : (need : Bool) (i : ℕ) → i < count → Unreached r swap (kinds count parents) i
            → plain_at need r swap parents s.slots slots m c count i ≡ cell_of need r swap i (draws i) (at bs i) (at settled i)
        plain-is need i h x =
            rw (new-at i h)
            (plain-cell-is need r swap i (draws i) (at bs i) (at settled i) (keeps i) (kinds count parents) x
            (kinds-at count parents i h ∙ kinds-is i))

        bounds-as : r ≡ bounds_of (cells_from draws 0 (length ws)) c
        bounds-as =
            r-is
            ∙ ap (λ (x : List Drawn). bounds_of x c) (kinds-are count parents draws (rw parents-long g.fits) kinds-is)
            ∙ ap (λ (x : ℕ). bounds_of (cells_from draws 0 x) c) width-as

        module _ (need : Bool) (need-is : need ≡ linked r swap) (cells : List Cell) (k : ℕ) (k-end : min (reach_last r swap + 1) count ≤ k)
            (d : Drawing need r swap parents s.slots slots m c count k cells) where
          abbrev p : Placed
          p = place_at c rs bs

          abbrev wanted : ℕ → Cell
          wanted i = cell_of need r swap i (draws i) (at bs i) (at settled i)

          cell_at : (i : ℕ) → i < count → get_or cells i blank_cell ≡ wanted i
          cell_at i h = go (ltb i (reach_start r swap)) refl (ltb i k) refl
            where
              go : (x : Bool) → ltb i (reach_start r swap) ≡ x → (y : Bool) → ltb i k ≡ y → get_or cells i blank_cell ≡ wanted i
              go true q y z =
                  let l : i < reach_start r swap = ltb-true i (reach_start r swap) q in
                  d.before i l h ∙ plain-is need i h (unreached-before r swap (kinds count parents) c i r-is l)
              go false q true z = d.drawn i (ltb-false i (reach_start r swap) q) (ltb-true i k z) h ∙ drawn-is need i h
              go false q false z =
                  let l : k ≤ i = ltb-false i k z in
                  d.behind i l h ∙ plain-is need i h (unreached-after r swap (kinds count parents) c i r-is (omega arith))

          cells-as : cells ≡ cells_from wanted 0 (length ws) ++ replicate (column_limit - length ws) blank_cell
          cells-as =
              cells_are wanted blank_cell cells 0 count (column_limit - count) (d.long ∙ omega (arith, g.fits)) (λ j h. cell_at j h ∙ ap wanted (omega arith)) d.past
              ∙ ap (λ (x : ℕ). cells_from wanted 0 x ++ replicate (column_limit - x) blank_cell) width-as

          head-is : (hd : Bool) → hd ≡ head_at existing (get_or s.slots c empty_slot).column → hd ≡ head existing (view_of s).columns
          head-is hd e = head-held s.slots s.count existing c _ hd b.long b.within there refl e
            where
              there : (i : ℕ) → existing ≡ Some i → (i ≡ c) × (i < s.count)
              there i q =
                  let found : find n (view_of s).columns ≡ Some i = sym b.held ∙ q in
                  let z : c ≡ i = b.place ∙ rw found in
                  (sym z, omega (arith, first_below _ (view_of s).columns i found, length_front slot_column s.count s.slots))

          module _ (hd sep : Bool) (hd-is : hd ≡ head_at existing (get_or s.slots c empty_slot).column)
              (sep-is : sep ≡ separator_with s.options s.previous_node_column existing c said) where
            abbrev shape : RowShape
            shape =
                record {
                  node = n;
                  merge = ltb 1 es.count;
                  separator_line = sep;
                  style = s.options.graph_row_shape_style;
                  is_head = hd;
                  is_root = eqb es.count 0;
                  node_column = c;
                  width = count;
                  link_line = need;
                  term_line = said;
                  cells = cells;
                }

            shape_is : shape ≡ shape_at (view_of s) n rs p
            shape_is =
                shape-by (view_of s) n rs p (ltb 1 es.count) sep hd (eqb es.count 0) said count r swap need cells
                (rw (← length-given s n es existing c m b)) (sep-is ∙ rw (← b.held, ← g.said-is)) (head-is hd hd-is ∙ rw b.held) (rw (← length-given s n es existing c m b))
                width-as g.said-is bounds-as swap_is need-is cells-as

            -- an accepted row: its shape, and the shaper after it
            pub row_done : (x : Shaper) → Ends slots count c s.options x → Carrying n bs (view_of s).origins walked count
                → Rows s n es (record { refusal = 0; shape = shape; shaper = x })
            row_done x h y =
                record {
                  reply =
                      reply-same 0 shape (shape_at (view_of s) n rs p) _ (row_after (view_of s) n p) shape_is (rw (origins-after y x h, h.columns, h.previous, h.options, settled_is))
                      ∙ sym (accept (view_of s) n rs c bs b.place (bare-is s n es existing c m b) (rw (← given_is s n es existing c m b) b.few) (rw (← width-as) g.fits))
                      ∙ ap (row (view_of s) n) (sym (given_is s n es existing c m b));
                  refused = λ z. absurd (z refl);
                  fits = λ z. h.fits;
                  rest = λ z. h.rest;
                  options = h.options;
                }
