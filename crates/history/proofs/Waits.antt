-- The ids in the columns are those that wait: one law for a column that is written, and one for columns that change places.
use Prim.Native.Nat.{ℕ}
use mathlib.Core.Path.{◌≡◌, refl, sym, ◌∙◌, ap}
use mathlib.Core.Logic.{◌≢◌}
use mathlib.Core.Bool.{Bool, true, false, cond, ◌||◌, false≢true}
use mathlib.Core.List.{List, [], ◌∷◌}
use mathlib.Core.Option.{Option, none, some, none-ne-some, some-injective}
use native.Mathlib.Decide.{ℕ_discrete}
use borrow.Author.Tests.{eqb-true, eq-eqb, ne_eqb}
use lib.Dec.{eqb}
use Rattle.std.specs.Prelude.{Some, None}
use Rattle.column.specs.declared.Column.{Column}
use Rattle.column.specs.declared.Column.TheVariants.{Empty, Blocked, Reserved, Ancestor, Parent}
use Rattle.column.specs.Found.{Found}
use Rattle.column.specs.Columns.{id_of, is_named, find, vacant, merge, at, put, origin_at}
use Rattle.slices.proofs.Places.{put_other}
use Rattle.column.proofs.Positions.{at-put-same, at-put-other}
use Rattle.render.specs.declared.render.Ancestor.{Ancestor as Entry}
use Rattle.render.specs.declared.render.Ancestor.TheVariants.{Ancestor as Indirect, Parent as Direct, Anonymous}
use Rattle.render.specs.Entries.{entry_id}
use Rattle.shaper.specs.Shaper.{reserved, reserved_in, reserved_origins, reserved_origins_in}
use Rattle.placing.specs.Placing.{column_of, column_of_parent, enter, walk}
use Rattle.placing.proofs.PlacingLaws.{merge-stays}
use Rattle.marked.proofs.Holding.{Where, away, there, find_is, at-vacant, Spot, taken, free, spot_is, spot-only, empty_holds, merge-empty, spot-id}
use Rattle.history.specs.Account.{Reserve, Wait, Idle, AsReserved, AsNamed, Waiting, names, named, unless_waiting, ended, starter, waits_after}
use Rattle.history.specs.Demand3.{Holds, wait_of}

-- the clauses about the ids that wait, of columns, what each carries, and an account
pub record Wait-in (cs : List Column) (os : ℕ → ℕ) (w : Waiting) : Type 0 where
  pub held : (x : ℕ) → w x ≢ Idle → (i : ℕ) × Holds cs i x
  pub waits : (i x : ℕ) → Holds cs i x → w x ≡ wait_of (at cs i) (os i)
  pub one : (i j x : ℕ) → Holds cs i x → Holds cs j x → i ≡ j

-- only what the columns carry that are named counts
pub waits-carried : (cs : List Column) (os os' : ℕ → ℕ) (w : Waiting) → ((i : ℕ) → is_named (at cs i) ≡ true → os' i ≡ os i) → Wait-in cs os w → Wait-in cs os' w
waits-carried cs os os' w h W = record { held = W.held; waits = λ i x q. W.waits i x q ∙ same (at cs i) (os i) (os' i) (h i); one = W.one }
  where
    same : (c : Column) (o p : ℕ) → (is_named c ≡ true → p ≡ o) → wait_of c o ≡ wait_of c p
    same Empty o p e = refl
    same Blocked o p e = refl
    same (Reserved n) o p e = refl
    same (Ancestor n) o p e = ap AsNamed (sym (e refl))
    same (Parent n) o p e = ap AsNamed (sym (e refl))

pub dec_id : (o : Option ℕ) (x : ℕ) → Dec (o ≡ some x)
dec_id none x = no (none-ne-some x)
dec_id (some m) x = go (ℕ_discrete m x)
  where
    go : Dec (m ≡ x) → Dec (◌≡◌ {A = Option ℕ} (some m) (some x))
    go (yes e) = yes (ap some e)
    go (no h) = no (λ z. h (some-injective m x z))

-- column k is written: the ids of all others wait as before
module _ (cs : List Column) (os : ℕ → ℕ) (w w' : Waiting) (k : ℕ) (v : Column) (W : Wait-in cs os w)
    (alone : (i x : ℕ) → id_of v ≡ some x → Holds cs i x → i ≡ k)
    (new : (x : ℕ) → id_of v ≡ some x → w' x ≡ wait_of v (os k))
    (gone : (x : ℕ) → id_of v ≢ some x → Holds cs k x → w' x ≡ Idle)
    (rest : (x : ℕ) → id_of v ≢ some x → (Holds cs k x → ⊥) → w' x ≡ w x) where
  -- what stands in a column afterwards stood there before, or is what was written
  back : (i x : ℕ) → i ≢ k → Holds (put cs k v) i x → Holds cs i x
  back i x h q = rw at-put-other at q

  back-here : (i x : ℕ) → i ≡ k → Holds (put cs k v) i x → id_of v ≡ some x
  back-here i x e q = cc (at-put-same cs k v)

  put-held : (x : ℕ) → w' x ≢ Idle → (i : ℕ) × Holds (put cs k v) i x
  put-held x h = go (dec_id (id_of v) x) (dec_id (id_of (at cs k)) x)
    where
      go : Dec (id_of v ≡ some x) → Dec (Holds cs k x) → (i : ℕ) × Holds (put cs k v) i x
      go (yes e) d = (k, rw at-put-same e)
      go (no n) (yes q) = absurd (h (gone x n q))
      go (no n) (no m) =
          let f : (i : ℕ) × Holds cs i x = W.held x (λ z. h (rest x n m ∙ z)) in
          let g : f.0 ≢ k = λ e. m (rw e at f.1) in
          (f.0, simp at-put-other f.1)

  put-waits : (i x : ℕ) → Holds (put cs k v) i x → w' x ≡ wait_of (at (put cs k v) i) (os i)
  put-waits i x q = go (ℕ_discrete i k)
    where
      go : Dec (i ≡ k) → w' x ≡ wait_of (at (put cs k v) i) (os i)
      go (yes e) = rw (e, at-put-same) (new x (back-here i x e q))
      go (no n) =
          let r : Holds cs i x = back i x n q in
          rw at-put-other (rest x (λ z. n (alone i x z r)) (λ z. n (W.one i k x r z)) ∙ W.waits i x r)

  put_one : (i j x : ℕ) → Holds (put cs k v) i x → Holds (put cs k v) j x → i ≡ j
  put_one i j x p q = go (ℕ_discrete i k) (ℕ_discrete j k)
    where
      go : Dec (i ≡ k) → Dec (j ≡ k) → i ≡ j
      go (yes d) (yes e) = cc
      go (yes d) (no n) = absurd (n (alone j x (back-here i x d p) (back j x n q)))
      go (no m) (yes e) = absurd (m (alone i x (back-here j x e q) (back i x m p)))
      go (no m) (no n) = W.one i j x (back i x m p) (back j x n q)

  pub put_keeps : Wait-in (put cs k v) os w'
  put_keeps = record { held = put-held; waits = put-waits; one = put_one }

-- columns that change places, and columns whose ids wait as before
pub rearranged : (cs ds : List Column) (os : ℕ → ℕ) (w : Waiting) (σ : ℕ → ℕ) → ((i : ℕ) → σ (σ i) ≡ i)
    → ((i : ℕ) → id_of (at ds i) ≡ id_of (at cs (σ i))) → ((i : ℕ) → wait_of (at ds i) (os (σ i)) ≡ wait_of (at cs (σ i)) (os (σ i)))
    → Wait-in cs os w → Wait-in ds (λ i. os (σ i)) w
rearranged cs ds os w σ back ids kinds W =
    record {
      held = λ x h. (σ (W.held x h).0, ids (σ (W.held x h).0) ∙ (rw back (W.held x h).1));
      waits = λ i x q. W.waits (σ i) x (sym (ids i) ∙ q) ∙ sym (kinds i);
      one = λ i j x p q. sym (back i) ∙ (ap σ (W.one (σ i) (σ j) x (sym (ids i) ∙ p) (sym (ids j) ∙ q)) ∙ back j);
    }

pub waits-ext : (cs : List Column) (os : ℕ → ℕ) (w w' : Waiting) → ((x : ℕ) → w' x ≡ w x) → Wait-in cs os w → Wait-in cs os w'
waits-ext cs os w w' h W =
    record { held = λ x n. W.held x (λ z. n (h x ∙ z)); waits = λ i x q. h x ∙ W.waits i x q; one = W.one }

pub named≢idle : (m : ℕ) → AsNamed m ≢ Idle
named≢idle m e = cc

pub reserved≢idle : AsReserved ≢ Idle
reserved≢idle e = cc

-- an id that a column holds waits
pub busy : (c : Column) (o n : ℕ) → id_of c ≡ some n → wait_of c o ≢ Idle
busy Empty o n q = absurd (none-ne-some n q)
busy Blocked o n q = absurd (none-ne-some n q)
busy (Reserved m) o n q = reserved≢idle
busy (Ancestor m) o n q = named≢idle o
busy (Parent m) o n q = named≢idle o

-- one that no column holds does not
pub idle : (cs : List Column) (os : ℕ → ℕ) (w : Waiting) → Wait-in cs os w → (x : ℕ) → ((i : ℕ) → Holds cs i x → ⊥) → w x ≡ Idle
idle cs os w W x h = go (w x) refl
  where
    some-where : w x ≢ Idle → ⊥
    some-where n = h (W.held x n).0 (W.held x n).1

    go : (a : Wait) → w x ≡ a → w x ≡ Idle
    go Idle e = e
    go AsReserved e = absurd (some-where (λ z. reserved≢idle (sym e ∙ z)))
    go (AsNamed m) e = absurd (some-where (λ z. named≢idle m (sym e ∙ z)))

-- who is in the column is the id, and nobody else has it
pub spot-alone : (o : Option ℕ) (cs : List Column) (os : ℕ → ℕ) (w : Waiting) (k : ℕ) → Wait-in cs os w → Spot o cs k
    → (i x : ℕ) → o ≡ some x → Holds cs i x → i ≡ k
spot-alone o cs os w k W (taken n e q) i x z h = W.one i k x h (q ∙ (sym e ∙ z))
spot-alone o cs os w k W (free e f) i x z h = absurd (f x i z h)

-- merging an entry into its column leaves its id named there
merge-named : (c : Column) (e : Entry) (o n : ℕ) → id_of c ≡ some n → entry_id e ≡ some n → wait_of (merge c (column_of e)) o ≡ AsNamed o
merge-named Empty e o n p q = absurd (none-ne-some n p)
merge-named Blocked e o n p q = absurd (none-ne-some n p)
merge-named (Reserved m) Anonymous o n p q = absurd (none-ne-some n q)
merge-named (Reserved m) (Indirect k) o n p q = refl
merge-named (Reserved m) (Direct k) o n p q = refl
merge-named (Ancestor m) Anonymous o n p q = absurd (none-ne-some n q)
merge-named (Ancestor m) (Indirect k) o n p q = refl
merge-named (Ancestor m) (Direct k) o n p q = refl
merge-named (Parent m) Anonymous o n p q = absurd (none-ne-some n q)
merge-named (Parent m) (Indirect k) o n p q = refl
merge-named (Parent m) (Direct k) o n p q = refl

column-named : (e : Entry) (o n : ℕ) → entry_id e ≡ some n → wait_of (column_of e) o ≡ AsNamed o
column-named Anonymous o n q = absurd (none-ne-some n q)
column-named (Indirect m) o n q = refl
column-named (Direct m) o n q = refl

spot-named : (e : Entry) (cs : List Column) (o k n : ℕ) → Spot (entry_id e) cs k → entry_id e ≡ some n → wait_of (merge (at cs k) (column_of e)) o ≡ AsNamed o
spot-named e cs o k n (taken m z q) h = merge-named (at cs k) e o m q z
spot-named e cs o k n (free z f) h = ap (λ (c : Column). wait_of c o) (merge-empty (at cs k) e z) ∙ column-named e o n h

-- who first named the id in a column: who did if it is named, else the row's node
starter-of : (n : ℕ) (c : Column) (o : ℕ) → starter n (wait_of c o) ≡ cond (is_named c) o n
starter-of n Empty o = refl
starter-of n Blocked o = refl
starter-of n (Reserved m) o = refl
starter-of n (Ancestor m) o = refl
starter-of n (Parent m) o = refl

names-is : (x : ℕ) (e : Entry) → entry_id e ≡ some x → names x e ≡ true
names-is x (Indirect n) h = eq-eqb x n (sym (some-injective n x h))
names-is x (Direct n) h = eq-eqb x n (sym (some-injective n x h))
names-is x Anonymous h = absurd (none-ne-some x h)

names-not : (x : ℕ) (e : Entry) → entry_id e ≢ some x → names x e ≡ false
names-not x (Indirect n) h = ne_eqb x n (λ z. h (ap some (sym z)))
names-not x (Direct n) h = ne_eqb x n (λ z. h (ap some (sym z)))
names-not x Anonymous h = refl

-- an entry of a row of n: its id waits as named
abbrev pub naming : ℕ → Entry → Waiting → Waiting
naming n e w x = cond (names x e) (AsNamed (starter n (w x))) (w x)

-- columns that are not named carry n, as those do in a row of n that will be
abbrev Ready : ℕ → List Column → (ℕ → ℕ) → Type 0
Ready n cs os = (i : ℕ) → is_named (at cs i) ≡ false → os i ≡ n

enter-ready : (n c : ℕ) (e : Entry) (cs : List Column) (os : ℕ → ℕ) → Ready n cs os → Ready n (enter c e cs) os
enter-ready n c e cs os R i h = go (column_of_parent c e cs) (ℕ_discrete i (column_of_parent c e cs)) h
  where
    before : (b : Column) → is_named (merge (at cs i) b) ≡ false → (t : Bool) → is_named (at cs i) ≡ t → os i ≡ n
    before b h true q = absurd (false≢true (sym h ∙ merge-stays (at cs i) b q))
    before b h false q = R i q

    go : (k : ℕ) → Dec (i ≡ k) → is_named (at (put cs k (merge (at cs k) (column_of e))) i) ≡ false → os i ≡ n
    go k (yes z) h =
        let q : at (put cs k (merge (at cs k) (column_of e))) i ≡ merge (at cs i) (column_of e) = rw z (at-put-same cs k (merge (at cs k) (column_of e))) in
        before (column_of e) (sym (ap is_named q) ∙ h) (is_named (at cs i)) refl
    go k (no z) h = R i (sym (ap is_named (at-put-other cs k (merge (at cs k) (column_of e)) i z)) ∙ h)

pub enter-keeps : (n c : ℕ) (e : Entry) (cs : List Column) (os : ℕ → ℕ) (w : Waiting) → Ready n cs os → Wait-in cs os w → Wait-in (enter c e cs) os (naming n e w)
enter-keeps n c e cs os w R W = go (column_of_parent c e cs) (spot_is c e cs)
  where
    starts : (k x : ℕ) → Spot (entry_id e) cs k → entry_id e ≡ some x → starter n (w x) ≡ os k
    starts k x (taken m z q) h =
        ap (starter n) (W.waits k x (q ∙ sym z ∙ h)) ∙ starter-of n (at cs k) (os k) ∙ carries (is_named (at cs k)) refl
      where
        carries : (t : Bool) → is_named (at cs k) ≡ t → cond t (os k) n ≡ os k
        carries true e = refl
        carries false e = sym (R k e)
    starts k x (free z f) h = ap (starter n) (idle cs os w W x (λ i q. f x i h q)) ∙ sym (R k (ap is_named z))

    go : (k : ℕ) → Spot (entry_id e) cs k → Wait-in (put cs k (merge (at cs k) (column_of e))) os (naming n e w)
    go k S =
        put_keeps cs os w (naming n e w) k (merge (at cs k) (column_of e)) W
        (λ i x z h. spot-alone (entry_id e) cs os w k W S i x (sym (spot-id e cs k S) ∙ z) h)
        (λ x z.
        let i : entry_id e ≡ some x = sym (spot-id e cs k S) ∙ z in
        rw (names-is x e i) (ap AsNamed (starts k x S i) ∙ sym (spot-named e cs (os k) k x S i)))
        (λ x n q. absurd (n (spot-id e cs k S ∙ spot-only (entry_id e) cs k S x q)))
        (λ x n m. rw (names-not x e (λ z. n (spot-id e cs k S ∙ z))))

-- an id that is named twice was first named once
cond-or : (a b : Bool) (n : ℕ) (y : Wait) → cond (a || b) (AsNamed (starter n y)) y ≡ cond b (AsNamed (starter n (cond a (AsNamed (starter n y)) y))) (cond a (AsNamed (starter n y)) y)
cond-or true true n y = refl
cond-or true false n y = refl
cond-or false b n y = refl

pub walk-keeps : (n c : ℕ) (es : List Entry) (cs : List Column) (os : ℕ → ℕ) (w w' : Waiting) → Ready n cs os → Wait-in cs os w
    → ((x : ℕ) → w' x ≡ cond (named x es) (AsNamed (starter n (w x))) (w x)) → Wait-in (walk c es cs) os w'
walk-keeps n c [] cs os w w' R W h = waits-ext cs os w w' h W
walk-keeps n c (e ∷ es) cs os w w' R W h =
    walk-keeps n c es (enter c e cs) os (naming n e w) w' (enter-ready n c e cs os R) (enter-keeps n c e cs os w R W)
    (λ x. h x ∙ cond-or (names x e) (named x es) n (w x))

-- the node: its id waits no more
pub bare-keeps : (n : ℕ) (cs : List Column) (os : ℕ → ℕ) (w : Waiting) (c : ℕ) → Spot (some n) cs c → Wait-in cs os w → Wait-in (put cs c Empty) os (ended n w)
bare-keeps n cs os w c S W =
    put_keeps cs os w (ended n w) c Empty W
    (λ i x z h. absurd (none-ne-some x z))
    (λ x z. absurd (none-ne-some x z))
    (λ x z q. rw (eq-eqb x n (sym (some-injective n x (spot-only (some n) cs c S x q)))))
    (λ x z m. rest x m S (eqb x n) refl)
  where
    rest : (x : ℕ) → (Holds cs c x → ⊥) → Spot (some n) cs c → (t : Bool) → eqb x n ≡ t → cond t Idle (w x) ≡ w x
    rest x m S false e = refl
    rest x m (taken k z q) true e = absurd (m (q ∙ (sym z ∙ ap some (sym (eqb-true x n e)))))
    rest x m (free z f) true e = sym (idle cs os w W x (λ i h. f x i (ap some (sym (eqb-true x n e))) h))

-- a reservation: what a column carries that holds a reserved id does not count
pub reserve-keeps : (n : ℕ) (cs : List Column) (os : ℕ → ℕ) (w : Waiting) → Wait-in cs os w → Wait-in (reserved n cs) os (waits_after (Reserve n) w)
reserve-keeps n cs os w W = go (find n cs) (find_is n cs)
  where
    waiting : (a : Wait) → a ≢ Idle → unless_waiting a ≡ a
    waiting Idle h = absurd (h refl)
    waiting AsReserved h = refl
    waiting (AsNamed m) h = refl

    as_before : (i : ℕ) → Holds cs i n → (x : ℕ) (t : Bool) → eqb x n ≡ t → cond t (unless_waiting (w x)) (w x) ≡ w x
    as_before i q x false e = refl
    as_before i q x true e =
        waiting (w x) (λ z. busy (at cs i) (os i) n q (sym (W.waits i n q) ∙ (ap w (sym (eqb-true x n e)) ∙ z)))

    go : (o : Found) → Where n cs o → Wait-in (reserved_in o n cs) os (waits_after (Reserve n) w)
    go o (there i q) = waits-ext cs os w (waits_after (Reserve n) w) (λ x. as_before i q x (eqb x n) refl) W
    go o (away h) =
        put_keeps cs os w (waits_after (Reserve n) w) (vacant cs) (Reserved n) W
        (λ i x z q. absurd (h i (q ∙ sym z)))
        (λ x z. rw (eq-eqb x n (sym (some-injective n x z)), idle cs os w W x (λ i q. h i (q ∙ sym z))))
        (λ x z q. absurd (empty_holds cs (vacant cs) x (at-vacant cs) q))
        (λ x z m. rw (ne_eqb x n (λ e. z (ap some (sym e)))))

-- what a reservation writes is carried by no named column
pub reserved-carries : (n : ℕ) (cs : List Column) (os : List ℕ) (i : ℕ) → is_named (at (reserved n cs) i) ≡ true → origin_at (reserved_origins n cs os) i ≡ origin_at os i
reserved-carries n cs os i = go (find n cs)
  where
    go : (f : Found) → is_named (at (reserved_in f n cs) i) ≡ true → origin_at (reserved_origins_in f cs os) i ≡ origin_at os i
    go (Some j) h = refl
    go None h = put_other 0 os (vacant cs) 0 i not_there
      where
        not_there : i ≢ vacant cs
        not_there z = let y : at (put cs (vacant cs) (Reserved n)) i ≡ Reserved n = rw z (at-put-same cs (vacant cs) (Reserved n)) in false≢true (sym (ap is_named y) ∙ h)
