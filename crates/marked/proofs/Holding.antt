-- Which column holds an id, and that a row keeps the ids it should: laws of the definitions over any list of columns.
use Prim.Native.Nat.{ℕ, zero, suc, ◌<◌}
use mathlib.Core.Path.{◌≡◌, refl, sym, ◌∙◌, ap}
use mathlib.Core.Logic.{◌≢◌}
use mathlib.Core.Bool.{Bool, true, false, cond, ◌||◌, false≢true}
use mathlib.Core.List.{List, [], ◌∷◌, map}
use mathlib.Core.Option.{Option, none, some, none-ne-some, some-injective}
use native.Mathlib.Nat.{not-suc-le-zero, le_of_suc-le-suc}
use native.Mathlib.Omega.{arith}
use native.Mathlib.Decide.{ℕ_discrete, dec_lt}
use borrow.Author.Tests.{eqb-true, eqb-false, eq-eqb, ne_eqb}
use lib.Dec.{eqb, ltb}
use lib.ListN.{length, get_or, set, get_or-eq_default, get_or-map}
use Rattle.std.specs.Prelude.{Some, None, unwrap_or}
use Rattle.column.specs.declared.Column.{Column}
use Rattle.column.specs.declared.Column.TheVariants.{Empty, Blocked, Reserved, Ancestor, Parent}
use Rattle.column.specs.Found.{Found}
use Rattle.column.specs.Columns.{rank, id_of, is_id, holds, is_empty, first, next, find, find_empty, vacant, merge, direct, unblock, reset, at, put}
use Rattle.column.proofs.Laws.{trim-at}
use Rattle.column.proofs.Positions.{at-put-same, at-put-other, past_end}
use Rattle.render.specs.declared.render.Ancestor.{Ancestor as Entry}
use Rattle.render.specs.declared.render.Ancestor.TheVariants.{Ancestor as Indirect, Parent as Direct, Anonymous}
use Rattle.render.specs.declared.types.DashStyle.{DashStyle}
use Rattle.render.specs.declared.types.DashStyle.TheVariants.{Persistent, Once}
use Rattle.render.specs.Entries.{entry_id}
use Rattle.shaper.specs.Shaper.{View}
use Rattle.shaper.specs.NodeColumn.{dense, staggered, unallocated, node_column}
use Rattle.placing.specs.Placing.{column_of, column_of_parent, enter, walk, swap, gave_up, swapped, solid_once}

-- column i holds the id x
abbrev pub Holds : List Column → ℕ → ℕ → Type 0
Holds cs i x = id_of (at cs i) ≡ some x

-- ---- what a search finds
pub data First (p : Column → Bool) (cs : List Column) : Found → Type 0 where
  miss : ((i : ℕ) → i < length cs → p (at cs i) ≡ false) → First p cs None
  hit : (i : ℕ) → i < length cs → p (at cs i) ≡ true → First p cs (Some i)

pub first_is : (p : Column → Bool) (cs : List Column) → First p cs (first p cs)
first_is p [] = miss (λ i h. absurd (not-suc-le-zero h))
first_is p (c ∷ cs) = step (p c) refl (first p cs) (first_is p cs)
  where
    behind : p c ≡ false → ((i : ℕ) → i < length cs → p (at cs i) ≡ false) → (i : ℕ) → i < suc (length cs) → p (at (c ∷ cs) i) ≡ false
    behind e h zero l = e
    behind e h (suc i) l = h i (le_of_suc-le-suc l)

    step : (t : Bool) → p c ≡ t → (o : Found) → First p cs o → First p (c ∷ cs) (cond t (Some 0) (next o))
    step true e o f = hit 0 (omega arith) e
    step false e o (miss h) = miss (behind e h)
    step false e o (hit i l q) = hit (suc i) (omega arith) q

pub is_id-true : (n : ℕ) (o : Option ℕ) → is_id n o ≡ true → o ≡ some n
is_id-true n none e = absurd (false≢true e)
is_id-true n (some m) e = ap some (sym (eqb-true n m e))

pub is_id-false : (n : ℕ) (o : Option ℕ) → is_id n o ≡ false → o ≢ some n
is_id-false n none e z = none-ne-some n z
is_id-false n (some m) e z = eqb-false n m e (sym (some-injective m n z))

pub is_empty-true : (c : Column) → is_empty c ≡ true → c ≡ Empty
is_empty-true Empty e = refl
is_empty-true Blocked e = absurd (false≢true e)
is_empty-true (Reserved n) e = absurd (false≢true e)
is_empty-true (Ancestor n) e = absurd (false≢true e)
is_empty-true (Parent n) e = absurd (false≢true e)

-- where an id is
pub data Where (n : ℕ) (cs : List Column) : Found → Type 0 where
  away : ((i : ℕ) → Holds cs i n → ⊥) → Where n cs None
  there : (i : ℕ) → Holds cs i n → Where n cs (Some i)

-- what a column holds is a column
pub held_below : (cs : List Column) (i n : ℕ) → Holds cs i n → i < length cs
held_below cs i n h = go (dec_lt i (length cs))
  where
    go : Dec (i < length cs) → i < length cs
    go (yes l) = l
    go (no m) = absurd (none-ne-some n (sym (ap id_of (get_or-eq_default cs Empty (omega arith))) ∙ h))

pub find_is : (n : ℕ) (cs : List Column) → Where n cs (find n cs)
find_is n cs = go (find n cs) (first_is (holds n) cs)
  where
    go : (o : Found) → First (holds n) cs o → Where n cs o
    go o (miss h) = away (λ i q. is_id-false n (id_of (at cs i)) (h i (held_below cs i n q)) q)
    go o (hit i l q) = there i (is_id-true n (id_of (at cs i)) q)

-- ---- a free column is Empty
pub at-vacant : (cs : List Column) → at cs (vacant cs) ≡ Empty
at-vacant cs = go (first is_empty cs) (first_is is_empty cs)
  where
    go : (o : Found) → First is_empty cs o → at cs (unwrap_or o (length cs)) ≡ Empty
    go o (miss h) = past_end cs (length cs) (omega arith)
    go o (hit i l q) = is_empty-true (at cs i) q

at-known : (cs : List Column) (i : ℕ) → get_or cs i Blocked ≡ Empty → at cs i ≡ Empty
at-known [] i e = refl
at-known (c ∷ cs) zero e = e
at-known (c ∷ cs) (suc i) e = at-known cs i e

pub at-free : (c : ℕ) (cs : List Column) → at cs (unwrap_or (find_empty c cs) (length cs)) ≡ Empty
at-free c cs = go (is_empty (get_or cs c Blocked)) refl
  where
    go : (t : Bool) → is_empty (get_or cs c Blocked) ≡ t → at cs (unwrap_or (cond t (Some c) (first is_empty cs)) (length cs)) ≡ Empty
    go true e = at-known cs c (is_empty-true (get_or cs c Blocked) e)
    go false e = at-vacant cs

at-masked : (cs : List Column) (p i : ℕ) → at (set cs p Blocked) i ≡ Empty → at cs i ≡ Empty
at-masked [] p i e = refl
at-masked (c ∷ cs) zero zero e = absurd (false≢true (ap is_empty e))
at-masked (c ∷ cs) zero (suc i) e = e
at-masked (c ∷ cs) (suc p) zero e = e
at-masked (c ∷ cs) (suc p) (suc i) e = at-masked cs p i e

pub at-staggered : (p : Found) (cs : List Column) → at cs (staggered p cs) ≡ Empty
at-staggered None cs = at-vacant cs
at-staggered (Some p) cs = go (first is_empty (set cs p Blocked)) (first_is is_empty (set cs p Blocked))
  where
    new : (t : Bool) → at cs (cond t (suc (length cs)) (length cs)) ≡ Empty
    new true = past_end cs (suc (length cs)) (omega arith)
    new false = past_end cs (length cs) (omega arith)

    go : (o : Found) → First is_empty (set cs p Blocked) o → at cs (unwrap_or o (cond (eqb p (length cs)) (suc (length cs)) (length cs))) ≡ Empty
    go o (miss h) = new (eqb p (length cs))
    go o (hit i l q) = at-masked cs p i (is_empty-true (at (set cs p Blocked) i) q)

-- ---- the column that an id goes to: its own, or an Empty one if it has none
pub data Spot (o : Option ℕ) (cs : List Column) (k : ℕ) : Type 0 where
  taken : (n : ℕ) → o ≡ some n → Holds cs k n → Spot o cs k
  free : at cs k ≡ Empty → ((n i : ℕ) → o ≡ some n → Holds cs i n → ⊥) → Spot o cs k

pub found-spot : (n : ℕ) (cs : List Column) (k : ℕ) → at cs k ≡ Empty → (o : Found) → Where n cs o → Spot (some n) cs (unwrap_or o k)
found-spot n cs k e o (there i q) = taken n refl q
found-spot n cs k e o (away h) = free e (λ m i z q. h i (q ∙ sym z))

pub spot_is : (c : ℕ) (e : Entry) (cs : List Column) → Spot (entry_id e) cs (column_of_parent c e cs)
spot_is c (Indirect n) cs = found-spot n cs (unwrap_or (find_empty c cs) (length cs)) (at-free c cs) (find n cs) (find_is n cs)
spot_is c (Direct n) cs = found-spot n cs (unwrap_or (find_empty c cs) (length cs)) (at-free c cs) (find n cs) (find_is n cs)
spot_is c Anonymous cs = free (at-free c cs) (λ n i z q. none-ne-some n z)

-- the node's: its own, or an Empty one
pub node_spot : (v : View) (n : ℕ) → Spot (some n) v.columns (node_column v n)
node_spot v n = found-spot n v.columns (unallocated v) (go (dense v)) (find n v.columns) (find_is n v.columns)
  where
    go : (t : Bool) → at v.columns (cond t (staggered v.previous v.columns) (vacant v.columns)) ≡ Empty
    go true = at-staggered v.previous v.columns
    go false = at-vacant v.columns

pub empty_holds : (cs : List Column) (k x : ℕ) → at cs k ≡ Empty → Holds cs k x → ⊥
empty_holds cs k x e q = none-ne-some x (sym (ap id_of e) ∙ q)

pub spot-only : (o : Option ℕ) (cs : List Column) (k : ℕ) → Spot o cs k → (x : ℕ) → Holds cs k x → o ≡ some x
spot-only o cs k (taken n e q) x h = e ∙ (sym q ∙ h)
spot-only o cs k (free e f) x h = absurd (empty_holds cs k x e h)

-- ---- merging an entry into its column leaves the entry's id there
pub merge-empty : (c : Column) (e : Entry) → c ≡ Empty → merge c (column_of e) ≡ column_of e
merge-empty c e z = ap (λ (d : Column). merge d (column_of e)) z ∙ go e
  where
    go : (e : Entry) → merge Empty (column_of e) ≡ column_of e
    go Anonymous = refl
    go (Indirect n) = refl
    go (Direct n) = refl

pub column-id : (e : Entry) → id_of (column_of e) ≡ entry_id e
column-id Anonymous = refl
column-id (Indirect n) = refl
column-id (Direct n) = refl

merge-id : (c : Column) (e : Entry) (n : ℕ) → id_of c ≡ some n → entry_id e ≡ some n → id_of (merge c (column_of e)) ≡ some n
merge-id c e n p q = go (ltb (rank c) (rank (column_of e)))
  where
    go : (t : Bool) → id_of (cond t (column_of e) c) ≡ some n
    go true = column-id e ∙ q
    go false = p

pub spot-id : (e : Entry) (cs : List Column) (k : ℕ) → Spot (entry_id e) cs k → id_of (merge (at cs k) (column_of e)) ≡ entry_id e
spot-id e cs k (taken n z q) = merge-id (at cs k) e n q z ∙ sym z
spot-id e cs k (free z f) = ap id_of (merge-empty (at cs k) e z) ∙ column-id e

-- ---- the entries leave every id where it is, and their own ids held
pub enter-stays : (c : ℕ) (e : Entry) (cs : List Column) (i x : ℕ) → Holds cs i x → Holds (enter c e cs) i x
enter-stays c e cs i x h = go (column_of_parent c e cs) (spot_is c e cs) (ℕ_discrete i (column_of_parent c e cs))
  where
    go : (k : ℕ) → Spot (entry_id e) cs k → Dec (i ≡ k) → Holds (put cs k (merge (at cs k) (column_of e))) i x
    go k S (no n) = simp at-put-other h
    go k S (yes z) = rw (z, at-put-same) (spot-id e cs k S ∙ spot-only (entry_id e) cs k S x (rw z at h))

pub walk-stays : (c : ℕ) (es : List Entry) (cs : List Column) (i x : ℕ) → Holds cs i x → Holds (walk c es cs) i x
walk-stays c [] cs i x h = h
walk-stays c (e ∷ es) cs i x h = walk-stays c es (enter c e cs) i x (enter-stays c e cs i x h)

-- the id is in an Ancestor or a Parent entry
abbrev pub named : ℕ → List Entry → Bool
named x [] = false
named x (e ∷ es) = is_id x (entry_id e) || named x es

pub walk-holds : (c : ℕ) (es : List Entry) (cs : List Column) (x : ℕ) → named x es ≡ true → (i : ℕ) × Holds (walk c es cs) i x
walk-holds c [] cs x h = absurd (false≢true h)
walk-holds c (e ∷ es) cs x h = go (λ z. walk-holds c es (enter c e cs) x z) (is_id x (entry_id e)) refl h
  where
    go : (named x es ≡ true → (i : ℕ) × Holds (walk c es (enter c e cs)) i x) → (t : Bool) → is_id x (entry_id e) ≡ t → (t || named x es) ≡ true
        → (i : ℕ) × Holds (walk c es (enter c e cs)) i x
    go rest true q z = (
      column_of_parent c e cs,
      walk-stays c es (enter c e cs) (column_of_parent c e cs) x
          (rw (at-put-same cs (column_of_parent c e cs) (merge (at cs (column_of_parent c e cs)) (column_of e))) (spot-id e cs (column_of_parent c e cs) (spot_is c e cs) ∙ is_id-true x (entry_id e) q)),
    )
    go rest false q z = rest z

-- ---- two columns change places
abbrev pub flip : ℕ → ℕ → ℕ → ℕ
flip i j m = cond (eqb m j) i (cond (eqb m i) j m)

pub flip-right : (i j : ℕ) → flip i j j ≡ i
flip-right i j = simp eq-eqb

pub flip-left : (i j : ℕ) → flip i j i ≡ j
flip-left i j = go (eqb i j) refl
  where
    go : (t : Bool) → eqb i j ≡ t → cond t i (cond (eqb i i) j i) ≡ j
    go true e = eqb-true i j e
    go false e = simp eq-eqb

pub flip-else : (i j m : ℕ) → m ≢ i → m ≢ j → flip i j m ≡ m
flip-else i j m p q = simp ne_eqb

pub flip-flip : (i j m : ℕ) → flip i j (flip i j m) ≡ m
flip-flip i j m = go (ℕ_discrete m i) (ℕ_discrete m j)
  where
    go : Dec (m ≡ i) → Dec (m ≡ j) → flip i j (flip i j m) ≡ m
    go d (yes e) = rw (e, flip-right i j) (flip-left i j)
    go (yes d) (no q) = rw (d, flip-left i j) (flip-right i j)
    go (no p) (no q) = ap (flip i j) (flip-else i j m p q) ∙ flip-else i j m p q

pub at-swap : (i j : ℕ) (cs : List Column) (m : ℕ) → at (swap i j cs) m ≡ at cs (flip i j m)
at-swap i j cs m = go (ℕ_discrete m i) (ℕ_discrete m j)
  where
    go : Dec (m ≡ i) → Dec (m ≡ j) → at (swap i j cs) m ≡ at cs (flip i j m)
    go d (yes e) = rw e (simp (at-put-same, flip-right))
    go (yes d) (no q) = let p : i ≢ j = λ z. q (d ∙ z) in rw (d, flip-left i j) (simp (at-put-other, at-put-same))
    go (no p) (no q) = simp (at-put-other, flip-else)

swapped-holds : (f : Found) (c : ℕ) (cs : List Column) (i x : ℕ) → Holds cs i x → (j : ℕ) × Holds (swapped f c cs) j x
swapped-holds None c cs i x h = (i, h)
swapped-holds (Some p) c cs i x h = (flip c p i, ap id_of (at-swap c p cs (flip c p i) ∙ ap (at cs) (flip-flip c p i)) ∙ h)

-- ---- the end of a row: dashes, Blocked columns, and Empty ones at the end
abbrev pub row_end : DashStyle → List Column → List Column
row_end d cs = reset (solid_once d cs)

abbrev pub solid_column : DashStyle → Column → Column
solid_column Persistent c = c
solid_column Once c = direct c

at-solid-once : (d : DashStyle) (cs : List Column) (i : ℕ) → at (solid_once d cs) i ≡ solid_column d (at cs i)
at-solid-once Persistent cs i = refl
at-solid-once Once cs i = get_or-map direct cs i Empty

pub at-row-end : (d : DashStyle) (cs : List Column) (i : ℕ) → at (row_end d cs) i ≡ unblock (solid_column d (at cs i))
at-row-end d cs i = trim-at (map unblock (solid_once d cs)) i ∙ (get_or-map unblock (solid_once d cs) i Empty ∙ ap unblock (at-solid-once d cs i))

-- what is the same of Empty and Blocked columns, and of Parent and Ancestor ones, the end of a row keeps
pub end-keeps : {A : Type 0} (f : Column → A) → f Empty ≡ f Blocked → ((n : ℕ) → f (Parent n) ≡ f (Ancestor n)) → (d : DashStyle) (c : Column) → f (unblock (solid_column d c)) ≡ f c
end-keeps f b a Persistent Empty = refl
end-keeps f b a Persistent Blocked = b
end-keeps f b a Persistent (Reserved n) = refl
end-keeps f b a Persistent (Ancestor n) = refl
end-keeps f b a Persistent (Parent n) = refl
end-keeps f b a Once Empty = refl
end-keeps f b a Once Blocked = b
end-keeps f b a Once (Reserved n) = refl
end-keeps f b a Once (Ancestor n) = a n
end-keeps f b a Once (Parent n) = refl

pub ids-kept : (d : DashStyle) (c : Column) → id_of (unblock (solid_column d c)) ≡ id_of c
ids-kept = end-keeps id_of refl (λ n. refl)

pub row-end-stays : (d : DashStyle) (cs : List Column) (i x : ℕ) → Holds cs i x → Holds (row_end d cs) i x
row-end-stays d cs i x h = ap id_of (at-row-end d cs i) ∙ (ids-kept d (at cs i) ∙ h)

-- a named parent is held after the row
pub row-holds : (d : DashStyle) (c : ℕ) (es : List Entry) (cs : List Column) (x : ℕ) → named x es ≡ true
    → (i : ℕ) × Holds (row_end d (swapped (gave_up c es cs) c (walk c es cs))) i x
row-holds d c es cs x h =
    let a = walk-holds c es cs x h in
    let b = swapped-holds (gave_up c es cs) c (walk c es cs) a.0 x a.1 in
    (b.0, row-end-stays d (swapped (gave_up c es cs) c (walk c es cs)) b.0 x b.1)
