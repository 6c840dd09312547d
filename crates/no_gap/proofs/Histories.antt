-- R-9 of whole lists, of any machine that keeps every line and whose accepted rows are rows of ours: the columns that the marks lead to are where the named ids wait, the term cells and the
-- column given up; and each named id's own next row has its node where the id waited.
use Prim.Native.Nat.{ℕ, ◌<◌}
use mathlib.Core.Path.{◌≡◌, refl, sym, ◌∙◌, ap, subst}
use mathlib.Core.Logic.{◌≢◌, ◌↔◌, ◌⊎◌, inl, inr}
use mathlib.Core.Bool.{Bool, true, false, cond, ◌||◌, or-true, or-false, false≢true}
use mathlib.Core.List.{List, [], ◌∷◌, ◌++◌}
use mathlib.Core.Option.{some, none-ne-some}
use native.Mathlib.Omega.{arith}
use borrow.Author.Tests.{eqb-true, eq-eqb, ne_eqb, lt-ltb, ltb-true}
use lib.Dec.{eqb, ltb}
use lib.ListN.{length}
use Rattle.std.specs.Prelude.{Some, None}
use Rattle.std.proofs.lemmas.List.Folds.{list_any-append}
use Rattle.column.specs.declared.Column.{Column}
use Rattle.column.specs.declared.Column.TheVariants.{Empty}
use Rattle.column.specs.Columns.{id_of, at, put, origin_at}
use Rattle.column.proofs.Positions.{at-put-same, at-put-other, length-put}
use Rattle.render.specs.declared.render.Ancestor.{Ancestor as Entry}
use Rattle.render.specs.declared.render.Ancestor.TheVariants.{Ancestor as Indirect, Parent as Direct, Anonymous}
use Rattle.render.specs.declared.types.RowShape.{RowShape}
use Rattle.render.specs.Entries.{entry_id, is_anonymous}
use Rattle.shaper.specs.Shaper.{View}
use Rattle.shaper.specs.NodeColumn.{node_column}
use Rattle.placing.specs.Placing.{column_of_parent, gave_up, place}
use Rattle.marked.proofs.Holding.{Spot, taken, free, spot_is, empty_holds}
use Rattle.history.specs.Account.{Call, Reserve, Row, Wait, Idle, AsReserved, AsNamed, Waiting, call_id, is_drawn, nobody, names, named, starter, ended, unless_waiting, account}
use Rattle.history.specs.Demand3.{Machine, Holds, OneEntry, Pulls, Above, nothing_above, Clause, draws, columns_after, waiting_after, above_after, Kept, Each, KeepsEveryLine}
use Rattle.history.proofs.Waits.{named≢idle, reserved≢idle, busy}
use Rattle.no_gap.specs.NoGap.{NoGap, Unlinked, Links, entries_of, mark_at, Reached, Arrives, ParentsFollowed, AllFollowed, Leads}
use Rattle.no_gap.specs.EntryColumns.{entry_columns, anonymous_in, given_up, is_in, In, WaitIn, RowLed}
use Rattle.no_gap.specs.OurLinks.{links_by, own_columns}
use Rattle.no_gap.proofs.Merged.{anonymous-in}
use Rattle.no_gap.proofs.RowsLed.{unheld-own}
use Rattle.no_gap.proofs.Spans.{no-gap-same}

-- ---- lists of columns
in_left : (t : ℕ) (ps qs : List ℕ) → In ps t → In (ps ++ qs) t
in_left t ps qs h = list_any-append (eqb t) ps qs ∙ rw h

in_right : (t : ℕ) (ps qs : List ℕ) → In qs t → In (ps ++ qs) t
in_right t ps qs h = list_any-append (eqb t) ps qs ∙ rw h (or-true (is_in t ps))

in_either : (t : ℕ) (ps qs : List ℕ) → In (ps ++ qs) t → In ps t ⊎ In qs t
in_either t ps qs h = go (is_in t ps) refl (sym (list_any-append (eqb t) ps qs) ∙ h)
  where
    go : (x : Bool) → is_in t ps ≡ x → (x || is_in t qs) ≡ true → In ps t ⊎ In qs t
    go true e z = inl e
    go false e z = inr z

-- ---- an entry's id, and its column
named-entry : (e : Entry) (x : ℕ) → names x e ≡ true → entry_id e ≡ some x
named-entry (Indirect n) x h = ap some (sym (eqb-true x n h))
named-entry (Direct n) x h = ap some (sym (eqb-true x n h))
named-entry Anonymous x h = absurd (false≢true h)

-- an id that is named is in the column of an entry
named-column : (cs : List Column) (es : List Entry) (ps : List ℕ) (x : ℕ) → WaitIn cs es ps → named x es ≡ true → (t : ℕ) × In ps t × Holds cs t x
named-column cs [] ps x w h = absurd (false≢true h)
named-column cs (e ∷ es) [] x w h = absurd w
named-column cs (e ∷ es) (p ∷ ps) x w h = go (named-column cs es ps x w.1) (names x e) refl h
  where
    go : (named x es ≡ true → (t : ℕ) × In ps t × Holds cs t x) → (y : Bool) → names x e ≡ y → (y || named x es) ≡ true → (t : ℕ) × In (p ∷ ps) t × Holds cs t x
    go more true q z = (p, rw (eq-eqb p p refl), w.0 x (named-entry e x q))
    go more false q z = let r = more z in (r.0, rw r.1 (or-true (eqb r.0 p)), r.2)

-- in the column of an entry is an id that is named, or the entry is Anonymous
column-named : (cs : List Column) (es : List Entry) (ps : List ℕ) (t : ℕ) → WaitIn cs es ps → In ps t → ((x : ℕ) × (named x es ≡ true) × Holds cs t x) ⊎ In (anonymous_in es ps) t
column-named cs [] [] t w h = absurd (false≢true h)
column-named cs [] (p ∷ ps) t w h = absurd w
column-named cs (e ∷ es) [] t w h = absurd w
column-named cs (e ∷ es) (p ∷ ps) t w h = go e w.0 (column-named cs es ps t w.1) (eqb t p) refl h
  where
    Found-so : Entry → Type 0
    Found-so e = ((x : ℕ) × ((names x e || named x es) ≡ true) × Holds cs t x) ⊎ In (cond (is_anonymous e) (p ∷ anonymous_in es ps) (anonymous_in es ps)) t

    rest : (e : Entry) → ((x : ℕ) × (named x es ≡ true) × Holds cs t x) ⊎ In (anonymous_in es ps) t → Found-so e
    rest e (inl r) = inl (r.0, rw r.1 (or-true (names r.0 e)), r.2)
    rest e (inr r) = inr (behind (is_anonymous e))
      where
        behind : (a : Bool) → In (cond a (p ∷ anonymous_in es ps) (anonymous_in es ps)) t
        behind true = rw r (or-true (eqb t p))
        behind false = r

    go : (e : Entry) → ((x : ℕ) → entry_id e ≡ some x → Holds cs p x) → (In ps t → ((x : ℕ) × (named x es ≡ true) × Holds cs t x) ⊎ In (anonymous_in es ps) t)
        → (y : Bool) → eqb t p ≡ y → (y || is_in t ps) ≡ true → Found-so e
    go e k more false q z = rest e (more z)
    go (Indirect n) k more true q z = inl (n, rw (eq-eqb n n refl), subst (λ (i : ℕ). Holds cs i n) (sym (eqb-true t p q)) (k n refl))
    go (Direct n) k more true q z = inl (n, rw (eq-eqb n n refl), subst (λ (i : ℕ). Holds cs i n) (sym (eqb-true t p q)) (k n refl))
    go Anonymous k more true q z = inr (rw q)

-- no id is in two columns
abbrev One : List Column → Type 0
One cs = (i j x : ℕ) → Holds cs i x → Holds cs j x → i ≡ j

-- the column given up is where the single entry's id waited
module _ (c : ℕ) (cs : List Column) (one : One cs) where
  abbrev bare : List Column
  bare = put cs c Empty

  empty : at bare c ≡ Empty
  empty = at-put-same cs c Empty

  inside : c < length bare
  inside = omega (arith, length-put cs c Empty)

  -- what another column than the node's holds
  bare-holds : (i x : ℕ) → i ≢ c → Holds cs i x → Holds bare i x
  bare-holds i x n h = ap id_of (at-put-other cs c Empty i n) ∙ h

  still-holds : (i x : ℕ) → Holds bare i x → Holds cs i x
  still-holds i x h =
      let n : i ≢ c = λ z. empty_holds bare c x empty (subst (λ (j : ℕ). Holds bare j x) z h) in
      sym (ap id_of (at-put-other cs c Empty i n)) ∙ h

  -- an entry whose id waits to the right of the node merges there
  given-held : (e : Entry) (t x : ℕ) → entry_id e ≡ some x → c < t → Holds cs t x → column_of_parent c e bare ≡ t
  given-held e t x q l h = go (column_of_parent c e bare) (spot_is c e bare)
    where
      go : (k : ℕ) → Spot (entry_id e) bare k → k ≡ t
      go k (taken m z r) = one k t x (still-holds k x (r ∙ (sym z ∙ q))) h
      go k (free z f) = absurd (f x t q (bare-holds t x (λ y. omega arith) h))

  -- and the column of an entry to the right of the node holds its id
  held-given : (e : Entry) → c < column_of_parent c e bare → (x : ℕ) × (entry_id e ≡ some x) × Holds cs (column_of_parent c e bare) x
  held-given e l = go (spot_is c e bare)
    where
      go : Spot (entry_id e) bare (column_of_parent c e bare) → (x : ℕ) × (entry_id e ≡ some x) × Holds cs (column_of_parent c e bare) x
      go (taken m z r) = (m, z, still-holds (column_of_parent c e bare) m r)
      go (free z f) = absurd (omega (arith, unheld-own c e bare empty inside f))

  -- "the column given up in a swap" is the one where the id waited that moves
  given-in : (es : List Entry) (t x : ℕ) → OneEntry x es → c < t → Holds cs t x → In (given_up (gave_up c es bare)) t
  given-in [] t x o l h = absurd o
  given-in (e ∷ f ∷ es) t x o l h = absurd o
  given-in (e ∷ []) t x o l h =
      let k : column_of_parent c e bare ≡ t = given-held e t x o l h in
      rw (lt-ltb c (column_of_parent c e bare) (omega arith), eq-eqb t (column_of_parent c e bare) (sym k))

  given_out : (es : List Entry) (t : ℕ) → In (given_up (gave_up c es bare)) t → (x : ℕ) × OneEntry x es × (c < t) × Holds cs t x
  given_out [] t h = absurd (false≢true h)
  given_out (e ∷ f ∷ es) t h = absurd (false≢true h)
  given_out (e ∷ []) t h = go (ltb c (column_of_parent c e bare)) refl h
    where
      go : (b : Bool) → ltb c (column_of_parent c e bare) ≡ b → In (given_up (cond b (Some (column_of_parent c e bare)) None)) t → (x : ℕ) × OneEntry x (e ∷ []) × (c < t) × Holds cs t x
      go true q z =
          let k : t ≡ column_of_parent c e bare = eqb-true t (column_of_parent c e bare) (sym (or-false (eqb t (column_of_parent c e bare))) ∙ z) in
          let l : c < column_of_parent c e bare = ltb-true c (column_of_parent c e bare) q in
          let r = held-given e l in
          (r.0, r.1, omega arith, subst (λ (j : ℕ). Holds cs j r.0) (sym k) r.2)
      go false q z = absurd (false≢true z)

-- ---- R-9 of a row in a list

-- an id is pulled by an accepted row that has it as its one entry
pulls-are : (k : Call) (r : Bool) (x i c : ℕ) → Pulls k r x i c ↔ ((r ≡ false) × OneEntry x (entries_of k) × (c < i))
pulls-are (Reserve n) r x i c = (λ p. absurd p, λ p. absurd p.1)
pulls-are (Row n es) r x i c = (λ p. p, λ p. p)

-- a drawn call of a machine that is a row of ours: on the view that the machine's state has, with this shape
pub record RowOf (M : Machine) (view_at : M.State → View) (shape_at : M.State → M.Item → RowShape) (s : M.State) (k : M.Item) : Type 0 where
  pub columns : M.columns s ≡ (view_at s).columns
  pub accepted : M.refuses s k ≡ false
  pub stands : M.node s k ≡ (shape_at s k).node_column
  pub shown : (shape_at s k).node_column ≡ node_column (view_at s) (call_id (M.call k))
  pub led : RowLed (place (view_at s) (call_id (M.call k)) (entries_of (M.call k))) (entries_of (M.call k)) (shape_at s k) (columns_after M s k)

module _ (M : Machine) (view_at : M.State → View) (shape_at : M.State → M.Item → RowShape) where
  abbrev L : Links M
  L = links_by M shape_at

  -- the definition's own columns
  abbrev Own-columns : M.State → M.Item → ℕ → Type 0
  Own-columns s k = In (own_columns (view_at s) (M.call k))

  module _ (s : M.State) (k : M.Item) (R : RowOf M view_at shape_at s k) (before : One (M.columns s)) (after : One (columns_after M s k)) where
    abbrev c : ℕ
    c = node_column (view_at s) (call_id (M.call k))

    abbrev cs : List Column
    cs = (view_at s).columns

    abbrev es : List Entry
    es = entries_of (M.call k)

    abbrev ps : List ℕ
    ps = entry_columns (place (view_at s) (call_id (M.call k)) es) es

    abbrev given : List ℕ
    given = given_up (gave_up c es (put cs c Empty))

    one : One cs
    one = subst One R.columns before

    node : M.node s k ≡ c
    node = R.stands ∙ R.shown

    forth : (t : ℕ) → Reached M L s k t → Own-columns s k t
    unfolding place
    forth t (inl p) =
        let r = named-column (columns_after M s k) es ps p.0 R.led.waits p.1 in
        in_left t ps given (subst (In ps) (after r.0 t p.0 r.2 p.2) r.1)
    forth t (inr (inl h)) = in_left t ps given (anonymous-in es ps t (sym (R.led.terms t) ∙ h))
    forth t (inr (inr p)) =
        let pulls = (pulls-are (M.call k) (M.refuses s k) p.0 t (M.node s k)).0 p.2 in
        in_right t ps given (given-in c cs one es t p.0 pulls.1 (omega (arith, pulls.2, node)) (subst (λ (l : List Column). Holds l t p.0) R.columns p.1))

    back : (t : ℕ) → Own-columns s k t → Reached M L s k t
    unfolding place
    back t h = go (in_either t ps given h)
      where
        by-entry : ((x : ℕ) × (named x es ≡ true) × Holds (columns_after M s k) t x) ⊎ In (anonymous_in es ps) t → Reached M L s k t
        by-entry (inl p) = inl p
        by-entry (inr q) = inr (inl (R.led.terms t ∙ q))

        go : In ps t ⊎ In given t → Reached M L s k t
        go (inl q) = by-entry (column-named (columns_after M s k) es ps t R.led.waits q)
        go (inr q) =
            let r = given_out c cs one es t q in
            inr (inr (r.0, subst (λ (l : List Column). Holds l t r.0) (sym R.columns) r.3, (pulls-are (M.call k) (M.refuses s k) r.0 t (M.node s k)).1 (R.accepted, r.1, omega (arith, r.2, node))))

    row-whole : NoGap (mark_at M L s k) (M.node s k) (Reached M L s k)
    row-whole = no-gap-same (mark_at M L s k) (M.node s k) (Own-columns s k) (Reached M L s k) (λ t. (back t, forth t)) (rw R.stands R.led.whole)

    row-unlinked : L.linked s k ≡ false → Unlinked (mark_at M L s k) (M.node s k) (Reached M L s k)
    row-unlinked h =
        let U : Unlinked (mark_at M L s k) (M.node s k) (Own-columns s k) = rw R.stands (R.led.unlinked h) in
        record { unmarked = U.unmarked; straight = λ t q. U.straight t (forth t q) }

-- ---- "With demand 3": of any machine that keeps every line

-- an id that an accepted row names waits after it
named-waits : (c : Call) (r : Bool) (w : Waiting) (x : ℕ) → is_drawn c r ≡ true → named x (entries_of c) ≡ true → account c r w x ≢ Idle
named-waits (Reserve n) r w x d h = absurd (false≢true h)
named-waits (Row n es) true w x d h = absurd (false≢true d)
named-waits (Row n es) false w x d h = rw h (named≢idle (starter n (ended n w x)))

-- and until its own accepted row
still-waits : (c : Call) (r : Bool) (w : Waiting) (x : ℕ) → ((is_drawn c r ≡ true) × (call_id c ≡ x) → ⊥) → w x ≢ Idle → account c r w x ≢ Idle
still-waits c true w x o h = h
still-waits (Reserve n) false w x o h = go (w x) h (eqb x n)
  where
    go : (v : Wait) → v ≢ Idle → (t : Bool) → cond t (unless_waiting v) v ≢ Idle
    go Idle h t = absurd (h refl)
    go AsReserved h true = reserved≢idle
    go AsReserved h false = h
    go (AsNamed m) h true = named≢idle m
    go (AsNamed m) h false = h
still-waits (Row n es) false w x o h = rw (ne_eqb x n (λ z. o (refl, sym z))) (go (named x es))
  where
    go : (t : Bool) → cond t (AsNamed (starter n (w x))) (w x) ≢ Idle
    go true = named≢idle (starter n (w x))
    go false = h

module _ (M : Machine) where
  -- what is known before a call: an id in a column waits, and is in no other
  record Before (s : M.State) (w : Waiting) : Type 0 where
    waiting : (i x : ℕ) → Holds (M.columns s) i x → w x ≢ Idle
    one : One (M.columns s)

  after_kept : (s : M.State) (w : Waiting) (a : Above) (k : M.Item) → Kept M s w a k → Before (M.after s k) (waiting_after M s k w)
  after_kept s w a k K = record { waiting = λ i x h z. busy (at (columns_after M s k) i) (origin_at (M.origins (M.after s k)) i) x h (sym (K.waits i x h) ∙ z); one = K.one }

  -- there are no columns at first
  begin : (s : M.State) → M.columns s ≡ [] → Before s nobody
  begin s e = record { waiting = λ i x h. absurd (nothing-held i x h); one = λ i j x h l. absurd (nothing-held i x h) }
    where
      nothing-held : (i x : ℕ) → Holds (M.columns s) i x → ⊥
      nothing-held i x h = none-ne-some x (subst (λ (cs : List Column). Holds cs i x) e h)

  -- "a named parent waits right after the row in its entry's column (the node's after a swap)"
  parent-waits : (s : M.State) (w : Waiting) (a : Above) (k : M.Item) → Before s w → Kept M s w a k → draws M s k ≡ true → (x : ℕ) → named x (entries_of (M.call k)) ≡ true
      → (t : ℕ) × Holds (columns_after M s k) t x × ((i : ℕ) → Holds (M.columns s) i x → Pulls (M.call k) (M.refuses s k) x i (M.node s k) → t ≡ M.node s k)
  parent-waits s w a k B K d x h =
      let stays : waiting_after M s k w x ≢ Idle = named-waits (M.call k) (M.refuses s k) w x d h in
      let r = K.held x stays in
      (r.0, r.1, λ i q p. K.to x i r.0 (B.waiting i x q) stays q r.1 (λ e z. not_own i q p z) p)
    where
      -- the node stands in its own id's column
      not_own : (i : ℕ) → Holds (M.columns s) i x → Pulls (M.call k) (M.refuses s k) x i (M.node s k) → x ≢ call_id (M.call k)
      not_own i q p z =
          let own : Holds (M.columns s) (M.node s k) x = rw z (K.own d (rw z at (B.waiting i x q))) in
          omega (arith, B.one i (M.node s k) x q own, ((pulls-are (M.call k) (M.refuses s k) x i (M.node s k)).0 p).2)

  -- "its own next accepted row, if that comes, has its node in the column where it waited until then"
  parent-arrives : (x : ℕ) (s : M.State) (w : Waiting) (a : Above) (ks : List M.Item) → w x ≢ Idle → Each M (Kept M) s w a ks → Arrives M x s (M.columns s) ks
  parent-arrives x s w a [] h K = tt
  parent-arrives x s w a (k ∷ ks) h K = (
    λ o. subst (λ (y : ℕ). Holds (M.columns s) (M.node s k) y) o.1 (K.0.own o.0 (subst (λ (y : ℕ). w y ≢ Idle) (sym o.1) h)),
    λ n. parent-arrives x (M.after s k) (waiting_after M s k w) (above_after M s k a) ks (still-waits (M.call k) (M.refuses s k) w x n h) K.1,
  )

  followed : (s : M.State) (w : Waiting) (a : Above) (k : M.Item) (ks : List M.Item) → Before s w → Each M (Kept M) s w a (k ∷ ks) → ParentsFollowed M s k ks
  followed s w a k ks B K d x h =
      record {
        waits = parent-waits s w a k B K.0 d x h;
        arrives = parent-arrives x (M.after s k) (waiting_after M s k w) (above_after M s k a) ks (named-waits (M.call k) (M.refuses s k) w x d h) K.1;
      }

  all-followed : (s : M.State) (w : Waiting) (a : Above) (ks : List M.Item) → Before s w → Each M (Kept M) s w a ks → AllFollowed M s ks
  all-followed s w a [] B K = tt
  all-followed s w a (k ∷ ks) B K =
      (followed s w a k ks B K, all-followed (M.after s k) (waiting_after M s k w) (above_after M s k a) ks (after_kept s w a k K.0) K.1)

  -- of any machine that keeps every line, the programs among them
  pub keeps-followed : (s : M.State) (ks : List M.Item) → KeepsEveryLine M s ks → AllFollowed M s ks
  keeps-followed s ks K = all-followed s nobody nothing_above ks (begin s K.fresh) K.calls

-- ---- whole lists
module _ (M : Machine) (view_at : M.State → View) (shape_at : M.State → M.Item → RowShape) where
  -- each drawn call of a list is a row of ours
  abbrev pub AllRows : M.State → List M.Item → Type 0
  AllRows s [] = Unit {0}
  AllRows s (k ∷ ks) = (draws M s k ≡ true → RowOf M view_at shape_at s k) × AllRows (M.after s k) ks

  leads : (s : M.State) (w : Waiting) (a : Above) (ks : List M.Item) → Before M s w → Each M (Kept M) s w a ks → AllRows s ks → Leads M (links_by M shape_at) s ks
  leads s w a [] B K R = tt
  leads s w a (k ∷ ks) B K R = (
    record {
      whole = λ d. row-whole M view_at shape_at s k (R.0 d) B.one K.0.one;
      unlinked = λ d. row-unlinked M view_at shape_at s k (R.0 d) B.one K.0.one;
      terms = λ d. (R.0 d).led.count;
      parents = followed M s w a k ks B K;
    },
    leads (M.after s k) (waiting_after M s k w) (above_after M s k a) ks (after_kept M s w a k K.0) K.1 R.1,
  )

  pub keeps-leads : (s : M.State) (ks : List M.Item) → KeepsEveryLine M s ks → AllRows s ks → Leads M (links_by M shape_at) s ks
  keeps-leads s ks K R = leads s nobody nothing_above ks (begin M s K.fresh) K.calls R

  -- the columns that are reached by a row of ours are the definition's own
  abbrev pub Owned : Clause M
  Owned s w a k = RowOf M view_at shape_at s k → (t : ℕ) → Reached M (links_by M shape_at) s k t ↔ In (own_columns (view_at s) (M.call k)) t

  owns : (s : M.State) (w : Waiting) (a : Above) (ks : List M.Item) → Before M s w → Each M (Kept M) s w a ks → Each M Owned s w a ks
  owns s w a [] B K = tt
  owns s w a (k ∷ ks) B K = (
    λ R t. (forth M view_at shape_at s k R B.one K.0.one t, back M view_at shape_at s k R B.one K.0.one t),
    owns (M.after s k) (waiting_after M s k w) (above_after M s k a) ks (after_kept M s w a k K.0) K.1,
  )

  pub keeps-owns : (s : M.State) (ks : List M.Item) → KeepsEveryLine M s ks → Each M Owned s nobody nothing_above ks
  keeps-owns s ks K = owns s nobody nothing_above ks (begin M s K.fresh) K.calls
