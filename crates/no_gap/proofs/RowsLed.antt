-- R-9 of one accepted row on any shaper, hand-made ones too: the columns that the marks lead to are the definition's own columns of the entries, and the one given up.
use Prim.Native.Nat.{ℕ, zero, suc, ◌≤◌, ◌<◌}
use mathlib.Core.Path.{◌≡◌, refl, sym, ◌∙◌, ap}
use mathlib.Core.Logic.{◌↔◌}
use mathlib.Core.Bool.{Bool, true, false, cond, ◌||◌, or-false, false≢true}
use mathlib.Core.List.{List, [], ◌∷◌, ◌++◌, append-nil}
use mathlib.Core.Option.{some, none-ne-some}
use native.Mathlib.Omega.{arith}
use native.Mathlib.Decide.{ℕ_discrete, dec_lt}
use borrow.Author.Tests.{eqb-true, ltb-true, eq-eqb, ne_eqb}
use lib.Dec.{eqb, ltb}
use lib.ListN.{length, get_or, get_or-eq_default}
use Rattle.std.specs.Prelude.{Some, None, unwrap_or}
use Rattle.column.specs.declared.Column.{Column}
use Rattle.column.specs.declared.Column.TheVariants.{Empty, Blocked}
use Rattle.column.specs.Found.{Found}
use Rattle.column.specs.Columns.{id_of, is_empty, is_parent, first, find, find_empty, merge, at, put}
use Rattle.column.proofs.Positions.{at-put-same, length-put}
use Rattle.render.specs.declared.render.Ancestor.{Ancestor as Entry}
use Rattle.render.specs.declared.render.Ancestor.TheVariants.{Ancestor as Indirect, Parent as Direct, Anonymous}
use Rattle.render.specs.declared.render.LinkLine.{LinkLine}
use Rattle.render.specs.declared.types.Cell.{Cell}
use Rattle.render.specs.declared.types.RowShape.{RowShape}
use Rattle.render.specs.Entries.{entry_id, is_anonymous}
use Rattle.render.specs.Link.{no_marks}
use Rattle.links.specs.declared.Drawn.{Drawn}
use Rattle.links.specs.declared.Drawn.TheVariants as drawn
use Rattle.links.specs.declared.AncestorColumnBounds.{AncestorColumnBounds}
use Rattle.links.specs.declared.Swap.{Swap}
use Rattle.links.specs.Links.{is_drawn, is_anonymously_drawn, bounds_of, linked, from_node}
use Rattle.shaper.specs.Shaper.{View}
use Rattle.shaper.specs.NodeColumn.{node_column}
use Rattle.placing.specs.Placing.{column_of, held_by, column_of_parent, enter, walk, gave_up, swapped, Placed, place_at, place, Nobody, By, kind_of, met_by, draws_at}
use Rattle.placing.proofs.PlacingLaws.{walk_more}
use Rattle.placing.proofs.SwapLaws.{up_right}
use Rattle.cells.specs.Cells.{link_cell, cell_of, cells_from}
use Rattle.cells.proofs.CellLaws.{length-cells, cells-inside}
use Rattle.row_shape.specs.Row.{shape_at, row_after, row}
use Rattle.marked.proofs.Holding.{Where, away, there, find_is, spot_is, spot-id, walk-stays, flip-left, at-swap, row_end, row-end-stays}
use Rattle.history.specs.Demand3.{Holds}
use Rattle.history.proofs.Rows.{gave-in, line-is}
use Rattle.history.proofs.Keeps.{row-reply}
use Rattle.no_gap.specs.NoGap.{NoGap, Unlinked, count_of, is_set}
use Rattle.no_gap.specs.EntryColumns.{merged_into, swapped_to, entry_columns, anonymous_in, given_up, reached_columns, is_in, In, marks_from_node, term_cells, WaitIn, RowLed}
use Rattle.no_gap.proofs.Merged.{entry-draws, met-merged, merged-below, anonymous-draws, anonymous-merged, anonymous-count, unset}
use Rattle.no_gap.proofs.Spans.{no-gap-same}
use Rattle.no_gap.proofs.RowMarks.{Known, is_reached, row-no-gap, row-unlinked}

-- ---- who draws, and the columns of the entries
-- who draws in column i of a row
abbrev draws_in : ℕ → List Entry → List Column → ℕ → Drawn
draws_in c es cs i = kind_of (draws_at (gave_up c es cs) c es cs i)

-- an entry that no column holds goes to the node's column, which is Empty
own-empty : (c : ℕ) (cs : List Column) → at cs c ≡ Empty → c < length cs → find_empty c cs ≡ Some c
own-empty c cs e l = go (get_or cs c Blocked) (same cs c l ∙ e)
  where
    same : (cs : List Column) (c : ℕ) → c < length cs → get_or cs c Blocked ≡ at cs c
    same [] c l = absurd (omega arith)
    same (d ∷ cs) zero l = refl
    same (d ∷ cs) (suc c) l = same cs c (omega arith)

    go : (d : Column) → d ≡ Empty → cond (is_empty d) (Some c) (first is_empty cs) ≡ Some c
    go d z = rw z

pub unheld-own : (c : ℕ) (e : Entry) (cs : List Column) → at cs c ≡ Empty → c < length cs → ((n i : ℕ) → entry_id e ≡ some n → Holds cs i n → ⊥) → column_of_parent c e cs ≡ c
unheld-own c e cs b l h = ap (λ (k : ℕ). unwrap_or (held_by e cs) k) own ∙ by-entry e h
  where
    own : unwrap_or (find_empty c cs) (length cs) ≡ c
    own = ap (λ (f : Found). unwrap_or f (length cs)) (own-empty c cs b l)

    not_found : (n : ℕ) (f : Found) → Where n cs f → ((i : ℕ) → Holds cs i n → ⊥) → unwrap_or f c ≡ c
    not_found n f (away z) h = refl
    not_found n f (there i q) h = absurd (h i q)

    by-entry : (e : Entry) → ((n i : ℕ) → entry_id e ≡ some n → Holds cs i n → ⊥) → unwrap_or (held_by e cs) c ≡ c
    by-entry (Indirect n) h = not_found n (find n cs) (find_is n cs) (λ i q. h n i refl q)
    by-entry (Direct n) h = not_found n (find n cs) (find_is n cs) (λ i q. h n i refl q)
    by-entry Anonymous h = refl

-- so a single Anonymous entry does not swap
named-swaps : (c : ℕ) (e : Entry) (cs : List Column) → at cs c ≡ Empty → c < length cs → c < column_of_parent c e cs → is_anonymous e ≡ false
named-swaps c (Indirect n) cs b l s = refl
named-swaps c (Direct n) cs b l s = refl
named-swaps c Anonymous cs b l s = absurd (omega (arith, unheld-own c Anonymous cs b l (λ n i z q. none-ne-some n z)))

module _ (c : ℕ) (cs : List Column) (t : ℕ) where
  -- without a swap
  reached-straight : (es : List Entry) → (is_drawn (kind_of (met_by t c es cs Nobody)) || false) ≡ is_in t (merged_into c es cs ++ [])
  reached-straight es = or-false (is_drawn (kind_of (met_by t c es cs Nobody))) ∙ (met-merged t c es cs Nobody ∙ ap (is_in t) (sym (append-nil (merged_into c es cs))))

  -- a column is reached exactly if it is an entry's or was given up
  reached-is : (es : List Entry) → is_reached (gave_up c es cs) (draws_in c es cs) t ≡ is_in t (reached_columns (place_at c es cs) es)
  reached-is [] = reached-straight []
  reached-is (e ∷ f ∷ es) = reached-straight (e ∷ f ∷ es)
  reached-is (e ∷ []) = go (ltb c k)
    where
      k : ℕ
      k = column_of_parent c e cs

      either : (x y : Bool) → (is_drawn (kind_of (cond x (By e) Nobody)) || y) ≡ (x || (y || false))
      either true y = rw (entry-draws e)
      either false true = refl
      either false false = refl

      turned : eqb k t ≡ eqb t k
      turned = by-test (ℕ_discrete k t)
        where
          by-test : Dec (k ≡ t) → eqb k t ≡ eqb t k
          by-test (yes q) = eq-eqb k t q ∙ sym (eq-eqb t k (sym q))
          by-test (no q) = ne_eqb k t q ∙ sym (ne_eqb t k (λ z. q (sym z)))

      go : (b : Bool) → is_reached (cond b (Some k) None) (λ i. kind_of (draws_at (cond b (Some k) None) c (e ∷ []) cs i)) t
          ≡ is_in t (swapped_to (cond b (Some k) None) c (merged_into c (e ∷ []) cs) ++ given_up (cond b (Some k) None))
      go true = rw (eq-eqb k k refl, turned) (either (eqb t c) (eqb t k))
      go false = reached-straight (e ∷ [])

  -- the term cells are the Anonymous entries' columns
  terms-are : at cs c ≡ Empty → c < length cs → (es : List Entry) → is_anonymously_drawn (draws_in c es cs t) ≡ is_in t (anonymous_in es (entry_columns (place_at c es cs) es))
  terms-are b l [] = refl
  terms-are b l (e ∷ f ∷ es) = anonymous-merged t c (e ∷ f ∷ es) cs Nobody (λ z. absurd (false≢true z))
  terms-are b l (e ∷ []) = go (ltb c k) refl
    where
      k : ℕ
      k = column_of_parent c e cs

      nobody : (x : Bool) → is_anonymous e ≡ false → is_anonymously_drawn (kind_of (cond x (By e) Nobody)) ≡ false
      nobody true h = anonymous-draws e ∙ h
      nobody false h = refl

      go : (x : Bool) → ltb c k ≡ x → is_anonymously_drawn (kind_of (draws_at (cond x (Some k) None) c (e ∷ []) cs t))
          ≡ is_in t (anonymous_in (e ∷ []) (swapped_to (cond x (Some k) None) c (merged_into c (e ∷ []) cs)))
      go true q = let n = named-swaps c e cs b l (ltb-true c k q) in rw (eq-eqb k k refl, n) (nobody (eqb t c) n)
      go false q = anonymous-merged t c (e ∷ []) cs Nobody (λ z. absurd (false≢true z))

-- ---- each Anonymous entry has one
cells_same : {A : Type 0} (f g : ℕ → A) → ((i : ℕ) → f i ≡ g i) → (j n : ℕ) → cells_from f j n ≡ cells_from g j n
cells_same f g h j zero = refl
cells_same f g h j (suc n) = rw (h j, cells_same f g h (suc j) n)

terms-count : (c : ℕ) (es : List Entry) (cs : List Column) → at cs c ≡ Empty → c < length cs
    → count_of is_set (cells_from (λ i. is_in i (anonymous_in es (entry_columns (place_at c es cs) es))) 0 (length (walk c es cs))) ≡ count_of is_anonymous es
terms-count c [] cs b l = unset 0 (length cs)
terms-count c (e ∷ f ∷ es) cs b l = anonymous-count c (e ∷ f ∷ es) cs (length (walk c (e ∷ f ∷ es) cs)) (merged-below c (e ∷ f ∷ es) cs)
terms-count c (e ∷ []) cs b l = go (ltb c k) refl
  where
    k : ℕ
    k = column_of_parent c e cs

    go : (x : Bool) → ltb c k ≡ x
        → count_of is_set (cells_from (λ i. is_in i (anonymous_in (e ∷ []) (swapped_to (cond x (Some k) None) c (merged_into c (e ∷ []) cs)))) 0 (length (enter c e cs))) ≡ count_of is_anonymous (e ∷ [])
    go true q = rw (named-swaps c e cs b l (ltb-true c k q)) (unset 0 (length (enter c e cs)))
    go false q = anonymous-count c (e ∷ []) cs (length (enter c e cs)) (merged-below c (e ∷ []) cs)

-- ---- what is known of a row
known : (c : ℕ) (es : List Entry) (cs : List Column) → c < length cs → Known (gave_up c es cs) (draws_in c es cs) (length (walk c es cs)) c
known c es cs l = record { below = λ t. below (gave_up c es cs) t; inside = inside; up = λ p u. (up_right c es cs p u, gave-in c es cs p u, λ i n. ap (λ (f : Found). kind_of (draws_at f c es cs i)) u ∙ rw (ne_eqb i c n)) }
  where
    inside : c < length (walk c es cs)
    inside = omega (arith, walk_more c es cs)

    below : (f : Found) (t : ℕ) → is_drawn (kind_of (draws_at f c es cs t)) ≡ true → t < length (walk c es cs)
    below None t h = merged-below c es cs t (sym (met-merged t c es cs Nobody) ∙ h)
    below (Some p) t h = go (eqb t c) refl h
      where
        go : (x : Bool) → eqb t c ≡ x → is_drawn (kind_of (cond x (met_by p c es cs Nobody) Nobody)) ≡ true → t < length (walk c es cs)
        go true q z = omega (arith, eqb-true t c q, inside)
        go false q z = absurd (false≢true z)

-- ---- where the entries' ids wait

-- an entry's id is in the column that it merged into
enter-holds : (c : ℕ) (e : Entry) (cs : List Column) (x : ℕ) → entry_id e ≡ some x → Holds (enter c e cs) (column_of_parent c e cs) x
enter-holds c e cs x q = let k : ℕ = column_of_parent c e cs in ap id_of (at-put-same cs k (merge (at cs k) (column_of e))) ∙ (spot-id e cs k (spot_is c e cs) ∙ q)

walk-waits : (c : ℕ) (es : List Entry) (cs : List Column) → WaitIn (walk c es cs) es (merged_into c es cs)
walk-waits c [] cs = tt
walk-waits c (e ∷ es) cs = (λ x q. walk-stays c es (enter c e cs) (column_of_parent c e cs) x (enter-holds c e cs x q), walk-waits c es (enter c e cs))

-- after the swap
settled-waits : (c : ℕ) (es : List Entry) (cs : List Column) → WaitIn (swapped (gave_up c es cs) c (walk c es cs)) es (swapped_to (gave_up c es cs) c (merged_into c es cs))
settled-waits c [] cs = tt
settled-waits c (e ∷ f ∷ es) cs = walk-waits c (e ∷ f ∷ es) cs
settled-waits c (e ∷ []) cs = go (ltb c k)
  where
    k : ℕ
    k = column_of_parent c e cs

    go : (t : Bool) → WaitIn (swapped (cond t (Some k) None) c (enter c e cs)) (e ∷ []) (swapped_to (cond t (Some k) None) c (k ∷ []))
    go false = (enter-holds c e cs, tt)
    go true = (λ x q. ap id_of (at-swap c k (enter c e cs) c ∙ ap (at (enter c e cs)) (flip-left c k)) ∙ enter-holds c e cs x q, tt)

-- what keeps each id where it is keeps them waiting
waits_kept : (cs ds : List Column) → ((i x : ℕ) → Holds cs i x → Holds ds i x) → (es : List Entry) (ps : List ℕ) → WaitIn cs es ps → WaitIn ds es ps
waits_kept cs ds k [] [] w = tt
waits_kept cs ds k [] (p ∷ ps) w = w
waits_kept cs ds k (e ∷ es) [] w = w
waits_kept cs ds k (e ∷ es) (p ∷ ps) w = (λ x q. k p x (w.0 x q), waits_kept cs ds k es ps w.1)

-- ---- the row
module _ (v : View) (n : ℕ) (es : List Entry) where
  abbrev c : ℕ
  c = node_column v n

  abbrev bare : List Column
  bare = put v.columns c Empty

  abbrev width : ℕ
  width = length (walk c es bare)

  abbrev p : Placed
  p = place_at c es bare

  abbrev g : RowShape
  g = shape_at v n es p

  abbrev bounds : AncestorColumnBounds
  bounds = bounds_of (cells_from (draws_in c es bare) 0 width) c

  abbrev solid : Bool
  solid = is_parent (at bare (unwrap_or (gave_up c es bare) c))

  abbrev swap : Swap
  swap = record { given_up = gave_up c es bare; was_direct = solid }

  -- the shape's cells
  abbrev cell_at : ℕ → Cell
  cell_at i = cell_of (linked bounds swap) bounds swap i (draws_in c es bare i) (at bare i) (at p.settled i)

  empty : at bare c ≡ Empty
  empty = at-put-same v.columns c Empty

  inside : c < length bare
  inside = omega (arith, length-put v.columns c Empty)

  mark-at : (i : ℕ) → i < width → get_or (marks_from_node g) i no_marks ≡ link_cell (linked bounds swap) (from_node bounds swap i (draws_in c es bare i))
  mark-at i h =
      ap (λ (l : List LinkLine). get_or l i no_marks) (line-is v n es (λ (x : Cell). x.link_from_node))
      ∙ cells-inside (λ i. (cell_at i).link_from_node) no_marks width i h

  mark-past : (i : ℕ) → width ≤ i → get_or (marks_from_node g) i no_marks ≡ no_marks
  mark-past i h =
      ap (λ (l : List LinkLine). get_or l i no_marks) (line-is v n es (λ (x : Cell). x.link_from_node))
      ∙ get_or-eq_default (cells_from (λ i. (cell_at i).link_from_node) 0 width) no_marks (omega (arith, length-cells (λ i. (cell_at i).link_from_node) no_marks 0 width))

  -- the columns that are reached, by who draws and as a list
  same : (t : ℕ) → (is_reached (gave_up c es bare) (draws_in c es bare) t ≡ true) ↔ In (reached_columns p es) t
  same t = (λ h. sym (reached-is c bare t es) ∙ h, λ h. reached-is c bare t es ∙ h)

  whole : NoGap (λ i. get_or (marks_from_node g) i no_marks) c (In (reached_columns p es))
  whole =
      no-gap-same (λ i. get_or (marks_from_node g) i no_marks) c (λ t. is_reached (gave_up c es bare) (draws_in c es bare) t ≡ true) (In (reached_columns p es)) same
      (row-no-gap (draws_in c es bare) width c solid (gave_up c es bare) (known c es bare inside) (λ i. get_or (marks_from_node g) i no_marks) mark-at mark-past)

  unlinked : linked bounds swap ≡ false → Unlinked (λ i. get_or (marks_from_node g) i no_marks) c (In (reached_columns p es))
  unlinked h =
      let U = row-unlinked (draws_in c es bare) width c solid (gave_up c es bare) (known c es bare inside) (λ i. get_or (marks_from_node g) i no_marks) mark-at mark-past h in
      record { unmarked = U.unmarked; straight = λ t q. U.straight t ((same t).1 q) }

  -- the term cells
  terms-line : term_cells g ≡ cells_from (λ i. is_in i (anonymous_in es (entry_columns p es))) 0 width
  terms-line =
      line-is v n es (λ (x : Cell). x.term)
      ∙ cells_same (λ i. is_anonymously_drawn (draws_in c es bare i)) (λ i. is_in i (anonymous_in es (entry_columns p es))) (λ i. terms-are c bare i empty inside es) 0 width

  term-at : (i : ℕ) → get_or (term_cells g) i false ≡ is_in i (anonymous_in es (entry_columns p es))
  term-at i = ap (λ (l : List Bool). get_or l i false) terms-line ∙ go (dec_lt i width) (is_in i (anonymous_in es (entry_columns p es))) refl
    where
      drawn-too : (d : Drawn) → is_anonymously_drawn d ≡ true → is_drawn d ≡ true
      drawn-too drawn.Nobody h = h
      drawn-too drawn.Indirect h = refl
      drawn-too drawn.Direct h = refl
      drawn-too drawn.Anonymous h = refl

      go : Dec (i < width) → (x : Bool) → is_in i (anonymous_in es (entry_columns p es)) ≡ x → get_or (cells_from (λ i. is_in i (anonymous_in es (entry_columns p es))) 0 width) i false ≡ x
      go (yes h) x e = cells-inside (λ i. is_in i (anonymous_in es (entry_columns p es))) false width i h ∙ e
      go (no h) true e = absurd (omega (arith, (known c es bare inside).below i (drawn-too (draws_in c es bare i) (terms-are c bare i empty inside es ∙ e))))
      go (no h) false e =
          get_or-eq_default (cells_from (λ i. is_in i (anonymous_in es (entry_columns p es))) 0 width) false
          (omega (arith, length-cells (λ i. is_in i (anonymous_in es (entry_columns p es))) false 0 width))

  led : RowLed p es g (row_after v n p).columns
  led =
      record {
        whole = whole;
        unlinked = unlinked;
        terms = term-at;
        count = ap (count_of is_set) terms-line ∙ terms-count c es bare empty inside;
        waits = waits_kept p.settled (row_end v.style.dash_style p.settled) (row-end-stays v.style.dash_style p.settled) es (entry_columns p es) (settled-waits c es bare);
      }

  -- "Show for every accepted row"
  pub row-led : (row v n es).refusal ≡ 0 → RowLed (place v n es) es (row v n es).shape (row v n es).view.columns
  unfolding place
  row-led h = rw (row-reply v n es zero h) led
