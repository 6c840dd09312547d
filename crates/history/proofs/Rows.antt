-- A row: the swap, the reset, and what they leave of the ids that wait, of their columns, and of the lines.
use Prim.Native.Nat.{ℕ, zero, suc, ◌-◌, ◌≤◌, ◌<◌}
use mathlib.Core.Path.{◌≡◌, refl, sym, ◌∙◌, ap, subst}
use mathlib.Core.Logic.{◌≢◌, ◌↔◌}
use mathlib.Core.Bool.{Bool, true, false, cond, false≢true}
use mathlib.Core.List.{List, [], ◌∷◌, map, ◌++◌}
use mathlib.Core.Option.{some, none-ne-some, some-injective}
use native.Mathlib.Omega.{arith}
use native.Mathlib.Decide.{ℕ_discrete}
use borrow.Author.Tests.{eqb-true, eqb-false, ltb-true, ltb-false, lt-ltb, ne_eqb}
use lib.Dec.{eqb, ltb}
use lib.ListN.{length, take, replicate, get_or-eq_default}
use lib.Seq.{take_at}
use Rattle.std.specs.Prelude.{Some, None, unwrap_or}
use Rattle.std.proofs.lemmas.Option.{none-some, cond_some}
use Rattle.std.proofs.lemmas.Simd.{map-map}
use Rattle.column.specs.declared.Column.{Column}
use Rattle.column.specs.declared.Column.TheVariants.{Empty, Blocked, Reserved, Ancestor, Parent}
use Rattle.column.specs.Found.{Found}
use Rattle.column.specs.Columns.{column_limit, rank, id_of, is_named, find, vacant, merge, is_reserved, is_parent, unblock, keep, trim, at, put, origin_at}
use Rattle.column.proofs.Positions.{at-put-same, at-put-other, length-put, past_end}
use Rattle.render.specs.declared.render.Ancestor.{Ancestor as Entry}
use Rattle.render.specs.declared.render.NodeLine.TheVariants as node
use Rattle.render.specs.declared.types.Cell.{Cell}
use Rattle.render.specs.declared.types.DashStyle.{DashStyle}
use Rattle.render.specs.declared.types.DashStyle.TheVariants.{Persistent, Once}
use Rattle.render.specs.Entries.{entry_id}
use Rattle.render.specs.Lines.{blank_cell, node_to_pad, foot_pad, pre_node_line, post_ancestry_line}
use Rattle.shaper.specs.Shaper.{View}
use Rattle.shaper.specs.NodeColumn.{dense, staggered, node_column, head}
use Rattle.placing.specs.Placing.{column_of, column_of_parent, enter, walk, swap, gave_up, swapped, solid_once, place_at, kind_of, draws_at, source, line_origin, origin_after}
use Rattle.links.specs.declared.Drawn.{Drawn}
use Rattle.links.specs.declared.Swap.{Swap}
use Rattle.links.specs.declared.AncestorColumnBounds.{AncestorColumnBounds}
use Rattle.links.specs.Links.{bounds_of, linked}
use Rattle.cells.specs.Cells.{beside_node, node_cell, pad_of, cell_of, cells_from}
use Rattle.row_shape.specs.Row.{shape_at}
use Rattle.marked.proofs.Holding.{Where, away, there, find_is, at-vacant, at-staggered, Spot, spot_is, node_spot, spot-only, empty_holds, enter-stays, walk-stays, flip, flip-left, flip-right, flip-else, flip-flip, at-swap, row_end, solid_column, at-row-end, end-keeps, ids-kept, row-end-stays}
use Rattle.placing.proofs.PlacingLaws.{walk_more}
use Rattle.placing.proofs.SwapLaws.{left-empty}
use Rattle.cells.proofs.CellLaws.{length-cells, cells-inside}
use Rattle.history.specs.Account.{Row, Waiting, ended, waits_after, Named}
use Rattle.history.specs.Demand3.{Stroke, Blank, Other, Holds, wait_of, OneEntry, cell, is_stroke, solid, over_node}
use Rattle.history.proofs.Lines.{pad_stroke, pad-known}
use Rattle.history.proofs.Waits.{Wait-in, waits-carried, rearranged, spot-alone, walk-keeps, bare-keeps}

-- ---- the swap
swapped-keeps : (f : Found) (c : ℕ) (cs : List Column) (os : ℕ → ℕ) (w : Waiting) → ((p : ℕ) → f ≡ Some p → at cs c ≡ Empty) → Wait-in cs os w
    → Wait-in (swapped f c cs) (λ i. os (source f c i)) w
swapped-keeps None c cs os w h W = W
swapped-keeps (Some p) c cs os w h W =
    waits-carried (swap c p cs) (λ i. os (flip c p i)) (λ i. os (source (Some p) c i)) w (λ i n. ap os (from i n (eqb i c) refl (eqb i p) refl))
    (rearranged cs (swap c p cs) os w (flip c p) (flip-flip c p) (λ i. ap id_of (at-swap c p cs i)) (λ i. ap (λ (x : Column). wait_of x (os (flip c p i))) (at-swap c p cs i)) W)
  where
    -- the column given up is Empty, so that no line comes to it
    from : (i : ℕ) → is_named (at (swap c p cs) i) ≡ true → (a : Bool) → eqb i c ≡ a → (b : Bool) → eqb i p ≡ b → cond a p i ≡ flip c p i
    from i n true q b r = sym (ap (flip c p) (eqb-true i c q) ∙ flip-left c p)
    from i n false q true r =
        absurd (false≢true (sym (ap is_named (at-swap c p cs i ∙ ap (at cs) (ap (flip c p) (eqb-true i p r) ∙ flip-right c p) ∙ h p refl)) ∙ n))
    from i n false q false r = sym (flip-else c p i (eqb-false i c q) (eqb-false i p r))

-- where an id is after the entries and the swap
pub settle-moves : (c : ℕ) (es : List Entry) (cs : List Column) (os : ℕ → ℕ) (w : Waiting) (i x : ℕ) → Wait-in cs os w → at cs c ≡ Empty → Holds cs i x
    → (OneEntry x es → c < i → Holds (swapped (gave_up c es cs) c (walk c es cs)) c x)
    × ((OneEntry x es → c < i → ⊥) → Holds (swapped (gave_up c es cs) c (walk c es cs)) i x)
settle-moves c [] cs os w i x W b h = (λ o l. absurd o, λ n. h)
settle-moves c (e ∷ f ∷ es) cs os w i x W b h = (λ o l. absurd o, λ n. walk-stays c (e ∷ f ∷ es) cs i x h)
settle-moves c (e ∷ []) cs os w i x W b h = (pulled (column_of_parent c e cs) (spot_is c e cs), λ n. stays (column_of_parent c e cs) (spot_is c e cs) n (ltb c (column_of_parent c e cs)) refl)
  where
    inside : Holds (enter c e cs) i x
    inside = enter-stays c e cs i x h

    pulled : (p : ℕ) → Spot (entry_id e) cs p → entry_id e ≡ some x → c < i → Holds (swapped (cond (ltb c p) (Some p) None) c (enter c e cs)) c x
    pulled p S o l =
        let q : i ≡ p = spot-alone (entry_id e) cs os w p W S i x o h in
        rw (lt-ltb c p (omega arith))
        (ap id_of (at-swap c p (enter c e cs) c ∙ ap (at (enter c e cs)) (flip-left c p ∙ sym q)) ∙ inside)

    stays : (p : ℕ) → Spot (entry_id e) cs p → (entry_id e ≡ some x → c < i → ⊥) → (t : Bool) → ltb c p ≡ t
        → Holds (swapped (cond t (Some p) None) c (enter c e cs)) i x
    stays p S n false t = inside
    stays p S n true t =
        ap id_of (at-swap c p (enter c e cs) i ∙ ap (at (enter c e cs)) (flip-else c p i not-c not-p)) ∙ inside
      where
        not-c : i ≢ c
        not-c z = empty_holds cs c x b (subst (λ (k : ℕ). Holds cs k x) z h)

        not-p : i ≢ p
        not-p z = n (spot-only (entry_id e) cs p S x (subst (λ (k : ℕ). Holds cs k x) z h)) (omega (arith, ltb-true c p t))

-- ---- the end of a row
kinds_kept : (d : DashStyle) (o : ℕ) (c : Column) → wait_of (unblock (solid_column d c)) o ≡ wait_of c o
kinds_kept d o = end-keeps (λ (c : Column). wait_of c o) refl (λ n. refl) d

named-kept : (d : DashStyle) (c : Column) → is_named (unblock (solid_column d c)) ≡ is_named c
named-kept = end-keeps is_named refl (λ n. refl)

row-end-keeps : (d : DashStyle) (cs : List Column) (os : ℕ → ℕ) (w : Waiting) → Wait-in cs os w → Wait-in (row_end d cs) os w
row-end-keeps d cs os w W =
    rearranged cs (row_end d cs) os w (λ i. i) (λ i. refl)
    (λ i. ap id_of (at-row-end d cs i) ∙ ids-kept d (at cs i))
    (λ i. ap (λ (c : Column). wait_of c (os i)) (at-row-end d cs i) ∙ kinds_kept d (os i) (at cs i)) W

never-blocked : (c : Column) → unblock c ≢ Blocked
never-blocked Empty z = omega (arith, ap rank z)
never-blocked Blocked z = omega (arith, ap rank z)
never-blocked (Reserved n) z = omega (arith, ap rank z)
never-blocked (Ancestor n) z = omega (arith, ap rank z)
never-blocked (Parent n) z = omega (arith, ap rank z)

-- trimming leaves no Empty column last
abbrev Full : List Column → Type 0
Full cs = (n : ℕ) → suc n ≡ length cs → at cs n ≢ Empty

full-one : (c : Column) → c ≢ Empty → Full (c ∷ [])
full-one c h zero e = h
full-one c h (suc n) e = absurd (omega arith)

full-keep : (c : Column) (cs : List Column) → Full cs → Full (keep c cs)
full-keep Empty [] h = h
full-keep Blocked [] h = full-one Blocked (λ z. omega (arith, ap rank z))
full-keep (Reserved m) [] h = full-one (Reserved m) (λ z. omega (arith, ap rank z))
full-keep (Ancestor m) [] h = full-one (Ancestor m) (λ z. omega (arith, ap rank z))
full-keep (Parent m) [] h = full-one (Parent m) (λ z. omega (arith, ap rank z))
full-keep c (d ∷ ds) h = behind
  where
    behind : Full (c ∷ d ∷ ds)
    behind zero e = absurd (omega arith)
    behind (suc n) e = h n (omega arith)

full-trim : (cs : List Column) → Full (trim cs)
full-trim [] = λ n e. absurd (omega arith)
full-trim (c ∷ cs) = full-keep c (trim cs) (full-trim cs)

-- the clauses about the columns after a call
pub record Tidy (cs : List Column) : Type 0 where
  pub unblocked : (i : ℕ) → at cs i ≢ Blocked
  pub full : (n : ℕ) → suc n ≡ length cs → at cs n ≢ Empty

pub row-end-tidy : (d : DashStyle) (cs : List Column) → Tidy (row_end d cs)
row-end-tidy d cs =
    record {
      unblocked = λ i z. never-blocked (solid_column d (at cs i)) (sym (at-row-end d cs i) ∙ z);
      full = full-trim (map unblock (solid_once d cs));
    }

pub reserve-tidy : (cs : List Column) (k n : ℕ) → Tidy cs → Tidy (put cs k (Reserved n))
reserve-tidy cs k n T = record { unblocked = λ i. open_at i (ℕ_discrete i k); full = λ m e. full_at m e (ℕ_discrete m k) }
  where
    written : (i : ℕ) → i ≡ k → at (put cs k (Reserved n)) i ≡ Reserved n
    written i e = rw (e, at-put-same)

    open_at : (i : ℕ) → Dec (i ≡ k) → at (put cs k (Reserved n)) i ≢ Blocked
    open_at i (yes e) z = omega (arith, ap rank (sym (written i e) ∙ z))
    open_at i (no h) z = T.unblocked i (rw at-put-other at z)

    full_at : (m : ℕ) → suc m ≡ length (put cs k (Reserved n)) → Dec (m ≡ k) → at (put cs k (Reserved n)) m ≢ Empty
    full_at m e (yes q) z = omega (arith, ap rank (sym (written m q) ∙ z))
    full_at m e (no h) z = T.full m (omega (arith, length-put cs k (Reserved n))) (rw at-put-other at z)

-- ---- the lines: a line shows the columns
abbrev pub pad : Column → Stroke
pad c = pad_stroke (pad_of c)

abbrev pub Shows : List Stroke → List Column → Type 0
Shows f cs = (i : ℕ) → cell f i ≡ pad (at cs i)

map-cells : {A B : Type 0} (h : A → B) (f : ℕ → A) (k w : ℕ) → map h (cells_from f k w) ≡ cells_from (λ i. h (f i)) k w
map-cells h f k zero = refl
map-cells h f k (suc w) = ap (λ r. h (f k) ∷ r) (map-cells h f (suc k) w)

-- a line that is blank past its width shows a function of the place
line_at : (f : ℕ → Stroke) (w : ℕ) → ((i : ℕ) → w ≤ i → f i ≡ Blank) → (i : ℕ) → cell (cells_from f 0 w) i ≡ f i
line_at f w h i = go (ltb i w) refl
  where
    go : (t : Bool) → ltb i w ≡ t → cell (cells_from f 0 w) i ≡ f i
    go true e = cells-inside f Blank w i (ltb-true _ _ e)
    go false e = get_or-eq_default (cells_from f 0 w) Blank (rw (length-cells f Blank 0 w) (ltb-false _ _ e)) ∙ sym (h i (ltb-false _ _ e))

foot-pad : (d : DashStyle) (c : Column) → pad_stroke (foot_pad d (pad_of c)) ≡ pad (unblock (solid_column d c))
foot-pad Persistent Empty = refl
foot-pad Persistent Blocked = refl
foot-pad Persistent (Reserved n) = refl
foot-pad Persistent (Ancestor n) = refl
foot-pad Persistent (Parent n) = refl
foot-pad Once Empty = refl
foot-pad Once Blocked = refl
foot-pad Once (Reserved n) = refl
foot-pad Once (Ancestor n) = refl
foot-pad Once (Parent n) = refl

-- strokes are the ids that wait as named
pad-named : (c : Column) (o : ℕ) → is_stroke (pad c) → (x : ℕ) × (id_of c ≡ some x) × Named (wait_of c o)
pad-named Empty o h = absurd h
pad-named Blocked o h = absurd h
pad-named (Reserved n) o h = absurd h
pad-named (Ancestor n) o h = (n, refl, tt)
pad-named (Parent n) o h = (n, refl, tt)

named-pad : (c : Column) (o : ℕ) → Named (wait_of c o) → is_stroke (pad c)
named-pad Empty o h = absurd h
named-pad Blocked o h = absurd h
named-pad (Reserved n) o h = absurd h
named-pad (Ancestor n) o h = tt
named-pad (Parent n) o h = tt

pub strokes-of : (f : List Stroke) (cs : List Column) (os : ℕ → ℕ) (w : Waiting) → Shows f cs → Wait-in cs os w → (i : ℕ)
    → is_stroke (cell f i) ↔ ((x : ℕ) × Holds cs i x × Named (w x))
strokes-of f cs os w S W i = (
  λ h. let p = pad-named (at cs i) (os i) (subst is_stroke (S i) h) in (p.0, p.1, subst Named (sym (W.waits i p.0 p.1)) p.2),
  λ p. subst is_stroke (sym (S i)) (named-pad (at cs i) (os i) (subst Named (W.waits i p.0 p.1) p.2)),
)

-- no cell of a line that shows columns has another glyph
pub never_other : (f : List Stroke) (cs : List Column) → Shows f cs → (i : ℕ) → cell f i ≢ Other
never_other f cs S i e = pad-known (pad_of (at cs i)) (sym (S i) ∙ e)

-- ---- a whole row, placed: its lines and its columns
pub gave-in : (c : ℕ) (es : List Entry) (cs : List Column) (q : ℕ) → gave_up c es cs ≡ Some q → q < length (walk c es cs)
gave-in c [] cs q e = absurd (none-some q e)
gave-in c (e ∷ f ∷ es) cs q h = absurd (none-some q h)
gave-in c (e ∷ []) cs q h =
    let k : ℕ = column_of_parent c e cs in
    omega (arith, (cond_some (ltb c k) k q h).1, length-put cs k (merge (at cs k) (column_of e)))

module _ (v : View) (n : ℕ) (es : List Entry) where
  abbrev c : ℕ
  c = node_column v n

  abbrev bare : List Column
  bare = put v.columns c Empty

  abbrev ws : List Column
  ws = walk c es bare

  abbrev settled : List Column
  settled = swapped (gave_up c es bare) c ws

  abbrev end : List Column
  end = row_end v.style.dash_style settled

  abbrev width : ℕ
  width = length ws

  long : c < width
  long = omega (arith, walk_more c es bare, length-put v.columns c Empty)

  swap-past : (f : Found) → ((q : ℕ) → f ≡ Some q → q < width) → (i : ℕ) → width ≤ i → at (swapped f c ws) i ≡ Empty
  swap-past None h i k = past_end ws i k
  swap-past (Some q) h i k =
      let l : q < width = h q refl in
      at-swap c q ws i ∙ ap (at ws) (flip-else c q i (λ z. omega (arith, long)) (λ z. omega arith)) ∙ past_end ws i k

  -- the shape's cells
  abbrev cell_at : ℕ → Cell
  cell_at i =
      let draws : ℕ → Drawn = λ i. kind_of (draws_at (gave_up c es bare) c es bare i) in
      let r : AncestorColumnBounds = bounds_of (cells_from draws 0 width) c in
      let s : Swap = record { given_up = gave_up c es bare; was_direct = is_parent (at bare (unwrap_or (gave_up c es bare) c)) } in
      cell_of (linked r s) r s i (draws i) (at bare i) (at settled i)

  abbrev cells : List Cell
  cells = take width (cells_from cell_at 0 width ++ replicate (column_limit - width) blank_cell)

  -- a line of the shape, from what each of its cells shows
  pub line-is : {A : Type 0} (h : Cell → A) → map h cells ≡ cells_from (λ i. h (cell_at i)) 0 width
  line-is h =
      ap (map h) (take_at (cells_from cell_at 0 width) (replicate (column_limit - width) blank_cell) width (length-cells cell_at blank_cell 0 width))
      ∙ map-cells h cell_at 0 width

  -- the foot line shows the columns after the row
  pub foot-shows : Shows (map pad_stroke (post_ancestry_line (shape_at v n es (place_at c es bare)))) end
  foot-shows i =
      ap (λ (l : List Stroke). cell l i) (map-map pad_stroke (λ (x : Cell). foot_pad v.style.dash_style x.ancestry) cells ∙ line-is (λ (x : Cell). pad_stroke (foot_pad v.style.dash_style x.ancestry)))
      ∙ line_at (λ i. pad_stroke (foot_pad v.style.dash_style (pad_of (at settled i)))) width blank i
      ∙ foot-pad v.style.dash_style (at settled i)
      ∙ sym (ap pad (at-row-end v.style.dash_style settled i))
    where
      blank : (i : ℕ) → width ≤ i → pad_stroke (foot_pad v.style.dash_style (pad_of (at settled i))) ≡ Blank
      blank i h = ap (λ (x : Column). pad_stroke (foot_pad v.style.dash_style (pad_of x))) (swap-past (gave_up c es bare) (gave-in c es bare) i h)

  -- over the node the head line is solid or blank, as the node's column was
  over-node : (b : Bool) (f : Found) → Where n v.columns f → pad_stroke (node_to_pad (head f v.columns) node.Node) ≡ solid (pad (at v.columns (unwrap_or f (cond b (staggered v.previous v.columns) (vacant v.columns)))))
  over-node true None (away h) = rw (at-staggered v.previous v.columns)
  over-node false None (away h) = rw (at-vacant v.columns)
  over-node b (Some j) (there k h) = held (at v.columns j) h
    where
      held : (x : Column) → id_of x ≡ some n → pad_stroke (node_to_pad (is_reserved x) node.Node) ≡ solid (pad x)
      held Empty q = absurd (none-ne-some n q)
      held Blocked q = absurd (none-ne-some n q)
      held (Reserved m) q = refl
      held (Ancestor m) q = refl
      held (Parent m) q = refl

  beside-node : (b : Bool) (x : Column) → pad_stroke (node_to_pad b (beside_node x)) ≡ pad x
  beside-node b Empty = refl
  beside-node b Blocked = refl
  beside-node b (Reserved m) = refl
  beside-node b (Ancestor m) = refl
  beside-node b (Parent m) = refl

  abbrev hd : Bool
  hd = head (find n v.columns) v.columns

  -- the head line is the foot line before, if that showed the columns before
  pub head_meets : (f : List Stroke) → Shows f v.columns → (i : ℕ)
      → cell (map pad_stroke (pre_node_line (shape_at v n es (place_at c es bare)))) i ≡ over_node c i (cell f i)
  head_meets f S i =
      ap (λ (l : List Stroke). cell l i) (map-map pad_stroke (λ (x : Cell). node_to_pad hd x.node) cells ∙ line-is (λ (x : Cell). pad_stroke (node_to_pad hd x.node)))
      ∙ line_at (λ i. pad_stroke (node_to_pad hd (node_cell i c (at bare i)))) width blank i
      ∙ go (eqb i c) refl
    where
      blank : (i : ℕ) → width ≤ i → pad_stroke (node_to_pad hd (node_cell i c (at bare i))) ≡ Blank
      blank i h =
          let e : eqb i c ≡ false = ne_eqb i c (λ z. omega (arith, long)) in
          rw (e, past_end bare i (omega (arith, walk_more c es bare)))

      go : (t : Bool) → eqb i c ≡ t → pad_stroke (node_to_pad hd (cond t node.Node (beside_node (at bare i)))) ≡ cond t (solid (cell f i)) (cell f i)
      go true e =
          over-node (dense v) (find n v.columns) (find_is n v.columns)
          ∙ ap solid (ap (λ (k : ℕ). pad (at v.columns k)) (sym (eqb-true i c e)) ∙ sym (S i))
      go false e = beside-node hd (at bare i) ∙ ap pad (at-put-other v.columns c Empty i (eqb-false i c e)) ∙ sym (S i)

  module _ (w : Waiting) (W : Wait-in v.columns (origin_at v.origins) w) where
    -- what the line in each column carries after the row, if the row leaves it named
    abbrev lines : ℕ → ℕ
    lines i = line_origin n bare v.origins i

    bare-waits : Wait-in bare lines (ended n w)
    bare-waits =
        waits-carried bare (origin_at v.origins) lines (ended n w) (λ i h. rw h) (bare-keeps n v.columns (origin_at v.origins) w c (node_spot v n) W)

    settled-waits : Wait-in settled (λ i. lines (source (gave_up c es bare) c i)) (waits_after (Row n es) w)
    settled-waits =
        swapped-keeps (gave_up c es bare) c ws lines (waits_after (Row n es) w) (λ p u. left-empty c es bare p u (at-put-same v.columns c Empty))
        (walk-keeps n c es bare lines (ended n w) (waits_after (Row n es) w) (λ i h. rw h) bare-waits (λ x. refl))

    -- what the columns carry after the row is what their lines do
    pub row_keeps : Wait-in end (origin_at (cells_from (origin_after n (place_at c es bare) v.origins) 0 (length end))) (waits_after (Row n es) w)
    row_keeps =
        waits-carried end (λ i. lines (source (gave_up c es bare) c i)) (origin_at (cells_from after 0 (length end))) (waits_after (Row n es) w) carries
        (row-end-keeps v.style.dash_style settled (λ i. lines (source (gave_up c es bare) c i)) (waits_after (Row n es) w) settled-waits)
      where
        after : ℕ → ℕ
        after = origin_after n (place_at c es bare) v.origins

        below : (i : ℕ) → is_named (at end i) ≡ true → (t : Bool) → ltb i (length end) ≡ t → i < length end
        below i h true q = ltb-true i (length end) q
        below i h false q = absurd (false≢true (sym (ap is_named (past_end end i (ltb-false i (length end) q))) ∙ h))

        carries : (i : ℕ) → is_named (at end i) ≡ true → origin_at (cells_from after 0 (length end)) i ≡ lines (source (gave_up c es bare) c i)
        carries i h =
            let q : is_named (at settled i) ≡ true = sym (ap is_named (at-row-end v.style.dash_style settled i) ∙ named-kept v.style.dash_style (at settled i)) ∙ h in
            cells-inside after 0 (length end) i (below i h (ltb i (length end)) refl) ∙ rw q

    bare-stays : (i x : ℕ) → x ≢ n → Holds v.columns i x → Holds bare i x
    bare-stays i x h q =
        ap id_of (at-put-other v.columns c Empty i
        (λ z. h (sym (some-injective n x (spot-only (some n) v.columns c (node_spot v n) x (subst (λ (k : ℕ). Holds v.columns k x) z q))))))
        ∙ q

    pub row-moves : (x i j : ℕ) → Holds v.columns i x → Holds end j x → x ≢ n
        → (OneEntry x es → c < i → j ≡ c) × ((OneEntry x es → c < i → ⊥) → j ≡ i)
    row-moves x i j a q h =
        let m = settle-moves c es bare lines (ended n w) i x bare-waits (at-put-same v.columns c Empty) (bare-stays i x h a) in (
          λ o l. row_keeps.one j c x q (row-end-stays v.style.dash_style settled c x (m.0 o l)),
          λ no-pull. row_keeps.one j i x q (row-end-stays v.style.dash_style settled i x (m.1 no-pull)),
        )

-- ---- a reservation moves no id and changes no line
pub reserve-stays : (n : ℕ) (cs : List Column) (i x : ℕ) → Holds cs i x → Holds (put cs (vacant cs) (Reserved n)) i x
reserve-stays n cs i x h =
    let g : i ≢ vacant cs = λ z. empty_holds cs (vacant cs) x (at-vacant cs) (rw z at h) in
    simp at-put-other h

pub reserve-shows : (n : ℕ) (cs : List Column) (f : List Stroke) → Shows f cs → Shows f (put cs (vacant cs) (Reserved n))
reserve-shows n cs f S i = S i ∙ go (ℕ_discrete i (vacant cs))
  where
    go : Dec (i ≡ vacant cs) → pad (at cs i) ≡ pad (at (put cs (vacant cs) (Reserved n)) i)
    go (yes e) = rw e (simp (at-put-same, at-vacant))
    go (no h) = simp at-put-other
