-- The marks of a row that come from its node: R-9 of any row, from who draws in each column and the column given up.
use Prim.Native.Nat.{ℕ, ◌+◌, ◌≤◌, ◌<◌}
use mathlib.Core.Path.{◌≡◌, refl, sym, ◌∙◌, ap}
use mathlib.Core.Logic.{◌≢◌, ◌⊎◌, inl, inr}
use mathlib.Core.Bool.{Bool, true, false, cond, not, ◌&&◌, ◌||◌, and-false, or-true, or-false, false≢true}
use mathlib.Core.List.{List}
use native.Mathlib.Omega.{arith}
use native.Mathlib.Decide.{dec_lt}
use borrow.Author.Tests.{eqb-true, eqb-false, ltb-true, ltb-false, lt-ltb, le-ltb, eq-eqb, ne_eqb}
use lib.Dec.{eqb, ltb}
use lib.ListN.{get_or, get_or-eq_default}
use Rattle.std.specs.Prelude.{Some, None, unwrap_or}
use Rattle.column.specs.Found.{Found}
use Rattle.render.specs.declared.render.LinkLine.{LinkLine}
use Rattle.render.specs.declared.render.Marks.{Marks}
use Rattle.render.specs.Link.{meets, no_marks, only, link_of}
use Rattle.glyphs.specs.Marks.{horizontal}
use Rattle.links.specs.declared.Drawn.{Drawn}
use Rattle.links.specs.declared.Drawn.TheVariants.{Nobody, Indirect, Direct, Anonymous}
use Rattle.links.specs.declared.AncestorColumnBounds.{AncestorColumnBounds}
use Rattle.links.specs.declared.Swap.{Swap}
use Rattle.links.specs.Links.{is_drawn, is_directly_drawn, is_indirectly_drawn, found_as, is_at, leftmost, rightmost, bounds_of, from_node, linked}
use Rattle.links.proofs.LinkLaws.{leftmost-within, rightmost-within, leftmost-at, rightmost-at, leftmost-direct, rightmost-direct, leftmost-is, rightmost-is}
use Rattle.cells.specs.Cells.{link_cell, cells_from}
use Rattle.cells.proofs.CellLaws.{length-cells, cells-inside}
use Rattle.no_gap.specs.NoGap.{NoGap, Unlinked, marks_in, facing_left, facing_right}
use Rattle.no_gap.proofs.MarkLaws.{horizontal-told, left-told, right-told}
use Rattle.no_gap.proofs.Spans.{Span, Marked, no_gap, no-gap-straight}

-- ---- the conditions of the marks, counted

-- a cell is crossed, solid or dashed, between the outermost entries or up to the column given up
level-told : (here inn out bar solid : Bool) → (inn ≡ true → out ≡ true)
    → ((not here && (inn || (bar && solid))) || (not here && ((not inn && out) || (bar && not solid)))) ≡ (not here && (out || bar))
level-told true inn out bar solid h = refl
level-told false true out bar solid h = rw (h refl)
level-told false false true true true h = refl
level-told false false true true false h = refl
level-told false false true false solid h = refl
level-told false false false true true h = refl
level-told false false false true false h = refl
level-told false false false false solid h = refl

-- the forks and merges of a cell that face left
left-count : (here right gone solid near all : Bool) (d : Drawn) → (near ≡ true → all ≡ true) → (here ≡ true → right ≡ false)
    → (gone ≡ true → (d ≡ Nobody) × (here ≡ false) × (right ≡ true))
    → only (right && is_directly_drawn d) 1 + (only (right && is_indirectly_drawn d) 1 + (only ((here && near) || (gone && solid)) 1 + (only ((here && (not near && all)) || (gone && not solid)) 1 + 0)))
    ≡ only (cond here all (right && (is_drawn d || gone))) 1
left-count here right true solid near all d n h g = let z = g refl in rw (z.0, z.1, z.2) (go solid)
  where
    go : (solid : Bool) → only (true && false) 1 + (only (true && false) 1 + (only ((false && near) || (true && solid)) 1 + (only ((false && (not near && all)) || (true && not solid)) 1 + 0))) ≡ 1
    go true = refl
    go false = refl
left-count true right false solid true all d n h g = rw (h refl, n refl)
left-count true right false solid false true d n h g = rw (h refl)
left-count true right false solid false false d n h g = rw (h refl)
left-count false true false solid near all Nobody n h g = refl
left-count false true false solid near all Indirect n h g = refl
left-count false true false solid near all Direct n h g = refl
left-count false true false solid near all Anonymous n h g = refl
left-count false false false solid near all d n h g = refl

-- those that face right
right-count : (here left swap solid near all : Bool) (d : Drawn) → (near ≡ true → all ≡ true) → (here ≡ true → left ≡ false) → (swap ≡ true → all ≡ false)
    → only ((left && is_directly_drawn d) || ((here && swap) && solid)) 1
    + (only ((left && is_indirectly_drawn d) || ((here && swap) && not solid)) 1 + (only (here && near) 1 + (only (here && (not near && all)) 1 + 0)))
    ≡ only (cond here (all || swap) (left && is_drawn d)) 1
right-count true left true solid true all d n h g = absurd (false≢true (sym (g refl) ∙ n refl))
right-count true left true true false all d n h g = rw (h refl, g refl)
right-count true left true false false all d n h g = rw (h refl, g refl)
right-count true left false solid true all d n h g = rw (h refl, n refl)
right-count true left false solid false true d n h g = rw (h refl)
right-count true left false solid false false d n h g = rw (h refl)
right-count false true swap solid near all Nobody n h g = refl
right-count false true swap solid near all Indirect n h g = refl
right-count false true swap solid near all Direct n h g = refl
right-count false true swap solid near all Anonymous n h g = refl
right-count false false swap solid near all d n h g = refl

-- what is known of a row: who draws, in so many columns, where the node's is c and f was given up
pub record Known (f : Found) (draws : ℕ → Drawn) (w c : ℕ) : Type 0 where
  pub below : (t : ℕ) → is_drawn (draws t) ≡ true → t < w
  pub inside : c < w
  pub up : (p : ℕ) → f ≡ Some p → (c < p) × (p < w) × ((i : ℕ) → i ≢ c → draws i ≡ Nobody)

-- whether a column is an entry's, or the one given up
abbrev pub is_reached : Found → (ℕ → Drawn) → ℕ → Bool
is_reached f draws t = is_drawn (draws t) || is_at f t

-- ---- how far the entries reach
module _ (draws : ℕ → Drawn) (w c : ℕ) where
  abbrev ds : List Drawn
  ds = cells_from draws 0 w

  abbrev bounds : AncestorColumnBounds
  bounds = bounds_of ds c

  -- the outermost columns, the node's among them
  abbrev a : ℕ
  a = leftmost is_drawn ds 0 c

  abbrev b : ℕ
  b = rightmost is_drawn ds 0 c

  draws-at : (j : ℕ) → is_drawn (get_or ds j Nobody) ≡ true → is_drawn (draws j) ≡ true
  draws-at j h = go (dec_lt j w)
    where
      go : Dec (j < w) → is_drawn (draws j) ≡ true
      go (yes l) = ap is_drawn (sym (cells-inside draws Nobody w j l)) ∙ h
      go (no n) = absurd (false≢true (ap is_drawn (sym (get_or-eq_default ds Nobody (omega (arith, length-cells draws Nobody 0 w)))) ∙ h))

  module _ (below : (t : ℕ) → is_drawn (draws t) ≡ true → t < w) where
    at-drawn : (j : ℕ) → is_drawn (draws j) ≡ true → is_drawn (get_or ds j Nobody) ≡ true
    at-drawn j h = ap is_drawn (cells-inside draws Nobody w j (below j h)) ∙ h

    entries-span : Span (λ t. is_drawn (draws t)) c a b
    entries-span =
        record {
          low = λ t h. omega (arith, leftmost-at ds 0 c t (at-drawn t h));
          high = λ t h. omega (arith, rightmost-at ds 0 c t (at-drawn t h));
          left = omega (arith, leftmost-within is_drawn ds 0 c);
          right = omega (arith, rightmost-within is_drawn ds 0 c);
          first = outermost a (leftmost-is is_drawn ds 0 c);
          last = outermost b (rightmost-is is_drawn ds 0 c);
        }
      where
        outermost : (t : ℕ) → (t ≡ c) ⊎ ((j : ℕ) × (is_drawn (get_or ds j Nobody) ≡ true) × (t ≡ 0 + j)) → (t ≡ c) ⊎ (is_drawn (draws t) ≡ true)
        outermost t (inl e) = inl e
        outermost t (inr e) = let q : t ≡ e.0 = omega (arith, e.2) in inr (ap (λ (j : ℕ). is_drawn (draws j)) q ∙ draws-at e.0 e.1)

  -- ---- with the column given up

  -- in a swap nobody draws but in the node's column
  narrow : (p : ℕ) → Known (Some p) draws w c → (a ≡ c) × (b ≡ c)
  narrow p K = (alone a S.first, alone b S.last)
    where
      S : Span (λ t. is_drawn (draws t)) c a b
      S = entries-span K.below

      alone : (t : ℕ) → (t ≡ c) ⊎ (is_drawn (draws t) ≡ true) → t ≡ c
      alone t (inl e) = e
      alone t (inr h) = go (eqb t c) refl
        where
          go : (x : Bool) → eqb t c ≡ x → t ≡ c
          go true e = eqb-true t c e
          go false e = absurd (false≢true (ap is_drawn (sym ((K.up p refl).2 t (eqb-false t c e))) ∙ h))

  reached-below : (f : Found) → Known f draws w c → (t : ℕ) → is_reached f draws t ≡ true → t < w
  reached-below None K t h = K.below t (sym (or-false (is_drawn (draws t))) ∙ h)
  reached-below (Some p) K t h = go (is_drawn (draws t)) refl (eqb p t) refl h
    where
      go : (x : Bool) → is_drawn (draws t) ≡ x → (y : Bool) → eqb p t ≡ y → (x || y) ≡ true → t < w
      go true e y q z = K.below t e
      go false e true q z = omega (arith, eqb-true p t q, (K.up p refl).1)
      go false e false q z = absurd (false≢true z)

  -- with the column given up, the columns reach from the leftmost entry to the last
  reached-span : (f : Found) → Known f draws w c → Span (is_reached f draws) c a (unwrap_or f b)
  reached-span None K =
      let S = entries-span K.below in
      record {
        low = λ t h. S.low t (sym (or-false (is_drawn (draws t))) ∙ h);
        high = λ t h. S.high t (sym (or-false (is_drawn (draws t))) ∙ h);
        left = S.left;
        right = S.right;
        first = widen a S.first;
        last = widen b S.last;
      }
    where
      widen : (t : ℕ) → (t ≡ c) ⊎ (is_drawn (draws t) ≡ true) → (t ≡ c) ⊎ (is_reached None draws t ≡ true)
      widen t (inl e) = inl e
      widen t (inr h) = inr (or-false (is_drawn (draws t)) ∙ h)
  reached-span (Some p) K =
      let n = narrow p K in
      let l : c < p = (K.up p refl).0 in
      record {
        low = λ t h. omega (arith, n.0, (within t h).0);
        high = λ t h. (within t h).1;
        left = omega (arith, n.0);
        right = omega arith;
        first = inl n.0;
        last = inr (rw (eq-eqb p p refl) (or-true (is_drawn (draws p))));
      }
    where
      within : (t : ℕ) → is_reached (Some p) draws t ≡ true → (c ≤ t) × (t ≤ p)
      within t h = go (eqb t c) refl (eqb p t) refl
        where
          go : (x : Bool) → eqb t c ≡ x → (y : Bool) → eqb p t ≡ y → (c ≤ t) × (t ≤ p)
          go true e y q = (omega (arith, eqb-true t c e), omega (arith, eqb-true t c e, (K.up p refl).0))
          go false e true q = (omega (arith, eqb-true p t q, (K.up p refl).0), omega (arith, eqb-true p t q))
          go false e false q = absurd (false≢true (sym (rw ((K.up p refl).2 t (eqb-false t c e), q)) ∙ h))

  -- the column given up lies right of the node's, and nobody draws in it
  gone-facts : (f : Found) → Known f draws w c → (i : ℕ) → is_at f i ≡ true → (draws i ≡ Nobody) × (eqb i c ≡ false) × (ltb c i ≡ true)
  gone-facts None K i h = absurd (false≢true h)
  gone-facts (Some p) K i h =
      let l : c < i = omega (arith, eqb-true p i h, (K.up p refl).0) in
      let n : i ≢ c = λ z. omega arith in
      ((K.up p refl).2 i n, ne_eqb i c n, lt-ltb c i l)

  swap-facts : (f : Found) → Known f draws w c → found_as (λ p. true) f ≡ true → ltb c b ≡ false
  swap-facts None K h = absurd (false≢true h)
  swap-facts (Some p) K h = le-ltb c b (omega (arith, (narrow p K).1))

  -- what stands between the outermost columns, said with the last one
  bar-is : (f : Found) → Known f draws w c → (i : ℕ)
      → ((ltb a i && ltb i b) || (ltb c i && found_as (ltb i) f)) ≡ (ltb a i && ltb i (unwrap_or f b))
  bar-is None K i = rw (and-false (ltb c i)) (or-false (ltb a i && ltb i b))
  bar-is (Some p) K i = let n = narrow p K in rw (n.0, n.1) (go (ltb c i) refl)
    where
      go : (x : Bool) → ltb c i ≡ x → ((x && ltb i c) || (x && ltb i p)) ≡ (x && ltb i p)
      go true e = rw (le-ltb i c (omega (arith, ltb-true c i e)))
      go false e = refl

  far-is : (f : Found) → Known f draws w c → (ltb c b || found_as (λ p. true) f) ≡ ltb c (unwrap_or f b)
  far-is None K = or-false (ltb c b)
  far-is (Some p) K = rw ((narrow p K).1, le-ltb c c (omega arith), lt-ltb c p (K.up p refl).0)

  -- the column given up is not left of the node's
  left-reached : (f : Found) → Known f draws w c → (i : ℕ) → (ltb i c && is_drawn (draws i)) ≡ (ltb i c && is_reached f draws i)
  left-reached None K i = rw (or-false (is_drawn (draws i)))
  left-reached (Some p) K i = go (ltb i c) refl
    where
      go : (x : Bool) → ltb i c ≡ x → (x && is_drawn (draws i)) ≡ (x && (is_drawn (draws i) || eqb p i))
      go true e = rw (ne_eqb p i (λ z. omega (arith, ltb-true i c e, (K.up p refl).0))) (sym (or-false (is_drawn (draws i))))
      go false e = refl

  -- ---- direct entries reach no farther
  abbrev near-left : ℕ
  near-left = leftmost is_directly_drawn ds 0 c

  abbrev near-right : ℕ
  near-right = rightmost is_directly_drawn ds 0 c

  direct-within : (i : ℕ) → (ltb near-left i && ltb i near-right) ≡ true → (ltb a i && ltb i b) ≡ true
  direct-within i h = go (ltb near-left i) refl (ltb i near-right) refl h
    where
      go : (x : Bool) → ltb near-left i ≡ x → (y : Bool) → ltb i near-right ≡ y → (x && y) ≡ true → (ltb a i && ltb i b) ≡ true
      go true e true q z = rw (lt-ltb a i (omega (arith, ltb-true near-left i e, leftmost-direct ds 0 c)), lt-ltb i b (omega (arith, ltb-true i near-right q, rightmost-direct ds 0 c)))
      go true e false q z = absurd (false≢true z)
      go false e y q z = absurd (false≢true z)

  left_near : ltb near-left c ≡ true → ltb a c ≡ true
  left_near e = lt-ltb a c (omega (arith, ltb-true near-left c e, leftmost-direct ds 0 c))

  right_near : ltb c near-right ≡ true → ltb c b ≡ true
  right_near e = lt-ltb c b (omega (arith, ltb-true c near-right e, rightmost-direct ds 0 c))

  -- the node's cell is neither left nor right of itself
  here-not-right : (i : ℕ) → eqb i c ≡ true → ltb c i ≡ false
  here-not-right i e = le-ltb c i (omega (arith, eqb-true i c e))

  here-not-left : (i : ℕ) → eqb i c ≡ true → ltb i c ≡ false
  here-not-left i e = le-ltb i c (omega (arith, eqb-true i c e))

  -- ---- the marks of a cell
  module _ (solid : Bool) where
    -- the row's swap
    abbrev swap_of : Found → Swap
    swap_of f = record { given_up = f; was_direct = solid }

    abbrev m : Found → ℕ → Marks
    m f i = from_node bounds (swap_of f) i (draws i)

    level-cell : (f : Found) (i : ℕ) → meets (link_of (m f i)) horizontal ≡ (not (eqb i c) && ((ltb a i && ltb i b) || (ltb c i && found_as (ltb i) f)))
    level-cell f i = horizontal-told (m f i) ∙ level-told (eqb i c) (ltb near-left i && ltb i near-right) (ltb a i && ltb i b) (ltb c i && found_as (ltb i) f) solid (direct-within i)

    left-cell : (f : Found) → Known f draws w c → (i : ℕ) → marks_in (link_of (m f i)) facing_left ≡ only (cond (eqb i c) (ltb a c) (ltb c i && is_reached f draws i)) 1
    left-cell f K i =
        left-told (m f i) ∙ left-count (eqb i c) (ltb c i) (is_at f i) solid (ltb near-left c) (ltb a c) (draws i) left_near (here-not-right i) (gone-facts f K i)

    right-cell : (f : Found) → Known f draws w c → (i : ℕ)
        → marks_in (link_of (m f i)) facing_right ≡ only (cond (eqb i c) (ltb c b || found_as (λ p. true) f) (ltb i c && is_drawn (draws i))) 1
    right-cell f K i =
        right-told (m f i) ∙ right-count (eqb i c) (ltb i c) (found_as (λ p. true) f) solid (ltb c near-right) (ltb c b) (draws i) right_near (here-not-left i) (swap-facts f K)

    -- ---- all cells
    module _ (f : Found) (K : Known f draws w c) (marks : ℕ → LinkLine)
        (at-marks : (i : ℕ) → i < w → marks i ≡ link_cell (linked bounds (swap_of f)) (from_node bounds (swap_of f) i (draws i)))
        (past-marks : (i : ℕ) → w ≤ i → marks i ≡ no_marks) where
      abbrev last : ℕ
      last = unwrap_or f b

      S : Span (is_reached f draws) c a last
      S = reached-span f K

      last-below : last < w
      last-below = go S.last
        where
          go : (last ≡ c) ⊎ (is_reached f draws last ≡ true) → last < w
          go (inl e) = omega (arith, e, K.inside)
          go (inr h) = reached-below f K last h

      unreached : (i : ℕ) → w ≤ i → (x : Bool) → is_reached f draws i ≡ x → x ≡ false
      unreached i h true e = absurd (omega (arith, reached-below f K i e))
      unreached i h false e = refl

      -- a row with a link line
      drawn : linked bounds (swap_of f) ≡ true → Marked marks (is_reached f draws) c a last
      drawn need =
          record {
            level = λ i. level i (dec_lt i w);
            facing-left = λ i. facing-left i (dec_lt i w);
            facing-right = λ i. facing-right i (dec_lt i w);
          }
        where
          here : (i : ℕ) → i < w → marks i ≡ link_of (m f i)
          here i h = at-marks i h ∙ ap (λ (t : Bool). link_cell t (m f i)) need

          level : (i : ℕ) → Dec (i < w) → meets (marks i) horizontal ≡ (not (eqb i c) && (ltb a i && ltb i last))
          level i (yes h) = ap (λ (x : LinkLine). meets x horizontal) (here i h) ∙ (level-cell f i ∙ ap (λ (t : Bool). not (eqb i c) && t) (bar-is f K i))
          level i (no n) = rw (past-marks i (omega arith), le-ltb i last (omega (arith, last-below)), and-false (ltb a i), and-false (not (eqb i c)))

          facing-left : (i : ℕ) → Dec (i < w) → marks_in (marks i) facing_left ≡ only (cond (eqb i c) (ltb a c) (ltb c i && is_reached f draws i)) 1
          facing-left i (yes h) = ap (λ (x : LinkLine). marks_in x facing_left) (here i h) ∙ left-cell f K i
          facing-left i (no n) = rw (past-marks i (omega arith), ne_eqb i c (λ z. omega (arith, K.inside)), unreached i (omega arith) (is_reached f draws i) refl, and-false (ltb c i))

          facing-right : (i : ℕ) → Dec (i < w) → marks_in (marks i) facing_right ≡ only (cond (eqb i c) (ltb c last) (ltb i c && is_reached f draws i)) 1
          facing-right i (yes h) = ap (λ (x : LinkLine). marks_in x facing_right) (here i h) ∙ (right-cell f K i ∙ rw (far-is f K, left-reached f K i))
          facing-right i (no n) = rw (past-marks i (omega arith), ne_eqb i c (λ z. omega (arith, K.inside)), unreached i (omega arith) (is_reached f draws i) refl, and-false (ltb i c))

      -- one without
      pub row-unlinked : linked bounds (swap_of f) ≡ false → Unlinked marks c (λ t. is_reached f draws t ≡ true)
      row-unlinked none = record { unmarked = λ i. unmarked i (dec_lt i w); straight = λ t h. straight (linked-not (found_as (λ p. true) f) (ltb a c) (ltb c b) none) t h }
        where
          unmarked : (i : ℕ) → Dec (i < w) → marks i ≡ no_marks
          unmarked i (yes h) = at-marks i h ∙ rw none
          unmarked i (no n) = past-marks i (omega arith)

          linked-not : (x y z : Bool) → (x || (y || z)) ≡ false → (x ≡ false) × (y ≡ false) × (z ≡ false)
          linked-not true y z e = absurd (false≢true (sym e))
          linked-not false true z e = absurd (false≢true (sym e))
          linked-not false false z e = (refl, refl, e)

          straight : (found_as (λ p. true) f ≡ false) × (ltb a c ≡ false) × (ltb c b ≡ false) → (t : ℕ) → is_reached f draws t ≡ true → t ≡ c
          straight n t h =
              let l : ltb c last ≡ false = sym (far-is f K) ∙ rw (n.0, n.2) in
              omega (arith, S.low t h, S.high t h, ltb-false a c n.1, ltb-false c last l)

      pub row-no-gap : NoGap marks c (λ t. is_reached f draws t ≡ true)
      row-no-gap = go (linked bounds (swap_of f)) refl
        where
          go : (x : Bool) → linked bounds (swap_of f) ≡ x → NoGap marks c (λ t. is_reached f draws t ≡ true)
          go true e = no_gap marks (is_reached f draws) c a last S (drawn e)
          go false e = no-gap-straight marks c (λ t. is_reached f draws t ≡ true) (row-unlinked e)
