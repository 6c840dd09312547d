-- Laws of the definitions in specs/NodeColumn.antt, one for each return of the functions, and where the node's column lies.
use Prim.Native.Nat.{ℕ, suc, ◌+◌, ◌≤◌, ◌<◌, min}
use mathlib.Core.Path.{◌≡◌, refl, ap, ◌∙◌, sym}
use mathlib.Core.Bool.{Bool, true, false, cond, not, ◌&&◌, ◌||◌}
use mathlib.Core.List.{List}
use native.Mathlib.Numerals.{add-one}
use native.Mathlib.Omega.{arith}
use lib.Dec.{ltb, leb, eqb}
use lib.ListN.{length, get_or, set, length-set}
use borrow.Author.Tests.{lt-ltb, le-ltb, le-leb, lt-leb, ltb-true, ltb-false, eq-eqb, ne_eqb}
use Rattle.column.specs.declared.Column.{Column}
use Rattle.column.specs.declared.Column.TheVariants.{Blocked}
use Rattle.column.specs.declared.Slot.{Slot}
use Rattle.std.specs.Prelude.{Some, None, unwrap_or}
use Rattle.column.specs.Found.{Found}
use Rattle.column.specs.Columns.{column_limit, is_empty, is_reserved, first, vacant, live, find, at, empty_slot}
use Rattle.column.proofs.Laws.{first_below, live_at}
use Rattle.render.specs.declared.types.Options.{Options}
use Rattle.shaper.specs.Shaper.{height_limit, View, view_with}
use Rattle.shaper.specs.NodeColumn.{dense, unallocated, head_at, head, staggered, node_column, fitting, Finds}

-- ---- whether staggering counts, by the code's test
pub not-dense : (b : Bool) (h : ℕ) → (not b || ltb 1 h) ≡ true → (b && leb (min h height_limit) 1) ≡ false
not-dense false h e = refl
not-dense true h e = lt-leb (min h height_limit) 1 (omega (arith, ltb-true 1 h e))

pub is-dense : (b : Bool) (h : ℕ) → (not b || ltb 1 h) ≡ false → (b && leb (min h height_limit) 1) ≡ true
is-dense false h e = let z : ◌≡◌ {A = ℕ} 0 1 = cc in absurd (omega arith)
is-dense true h e = le-leb (min h height_limit) 1 (omega (arith, ltb-false 1 h e))

-- ---- the column of a node that none holds
module _ (cs : List Column) (os : List ℕ) (prev : Found) (o : Options) where
  abbrev stagger : Bool
  stagger = o.stagger_consecutive_disconnected_nodes

  abbrev height : ℕ
  height = o.min_row_height

  abbrev asked : Bool
  asked = not stagger || ltb 1 height

  pub unallocated-plain : (r : ℕ) → asked ≡ true → r ≡ vacant cs → r ≡ unallocated (view_with cs os prev o)
  unallocated-plain r e h = rw (not-dense stagger height e) h

  module _ (e : asked ≡ false) where
    pub unallocated-first : (r : ℕ) → prev ≡ None → r ≡ vacant cs → r ≡ unallocated (view_with cs os prev o)
    unallocated-first r p h = rw (is-dense stagger height e, p) h

    module _ (p : ℕ) (f : prev ≡ Some p) where
      pub unallocated-other : (i : ℕ) → first is_empty (set cs p Blocked) ≡ Some i → i ≡ unallocated (view_with cs os prev o)
      unallocated-other i q = rw (is-dense stagger height e, f, q)

      module _ (q : first is_empty (set cs p Blocked) ≡ None) (n : ℕ) (k : n ≡ length cs) where
        pub unallocated-skip : p ≡ n → n + 1 ≡ unallocated (view_with cs os prev o)
        unallocated-skip h = rw (is-dense stagger height e, f, q, eq-eqb p (length cs) (h ∙ k), add-one n, k)

        pub unallocated-last : (p ≡ n → ⊥) → n ≡ unallocated (view_with cs os prev o)
        unallocated-last h = rw (is-dense stagger height e, f, q, ne_eqb p (length cs) (λ z. h (z ∙ sym k))) k

pub fitting-in : (c : ℕ) → c < column_limit → Some c ≡ fitting c
fitting-in c h = rw (lt-ltb c column_limit h)

pub fitting-out : (c : ℕ) → column_limit ≤ c → None ≡ fitting c
fitting-out c h = rw (le-ltb c column_limit h)

-- what a column that fits, or none, gives
finds : (c : ℕ) → Finds c (fitting c)
finds c = go (ltb c column_limit) refl
  where
    go : (b : Bool) → ltb c column_limit ≡ b → Finds c (cond b (Some c) None)
    go true q = record { column = rw q; number = rw (lt-leb column_limit c (ltb-true _ _ q)) }
    go false q = record { column = rw q; number = rw (le-leb column_limit c (ltb-false _ _ q)) }

pub find-column-free : (r existing : Found) (c u : ℕ) → existing ≡ None → c ≡ u → r ≡ fitting c → Finds (unwrap_or existing u) r
find-column-free r existing c u e f g = rw (e, ← f, g) (finds c)

pub find-column-held : (r existing : Found) (i u : ℕ) → existing ≡ Some i → r ≡ fitting i → Finds (unwrap_or existing u) r
find-column-held r existing i u e g = rw (e, g) (finds i)

-- ---- head
module _ (s : List Slot) (count : ℕ) (existing : Found) (c : ℕ) where
  -- what stands in the node's column, where its id was held there
  pub head-held : (held : Column) (r : Bool) → length s ≡ column_limit → c < column_limit → ((i : ℕ) → existing ≡ Some i → (i ≡ c) × (i < count))
      → held ≡ (get_or s c empty_slot).column → r ≡ head_at existing held → r ≡ head existing (live count s)
  head-held held r long h near e g = go existing refl
    where
      go : (f : Found) → existing ≡ f → r ≡ head f (live count s)
      go None q = g ∙ rw q
      go (Some i) q =
          let n = near i q in
          let w : held ≡ at (live count s) i = e ∙ rw n.0 (sym (live_at count s c (rw (← n.0) n.1) (rw long h))) in
          g ∙ rw q (ap is_reserved w)

-- ---- the node's column is one there is, a new last one, or one past that
vacant-in : (cs : List Column) → vacant cs ≤ suc (length cs)
vacant-in cs = go (first is_empty cs) refl
  where
    go : (f : Found) → first is_empty cs ≡ f → unwrap_or f (length cs) ≤ suc (length cs)
    go (Some i) e = omega (arith, first_below is_empty cs i e)
    go None e = omega arith

staggered-in : (p : Found) (cs : List Column) → staggered p cs ≤ suc (length cs)
staggered-in None cs = vacant-in cs
staggered-in (Some p) cs = go (first is_empty (set cs p Blocked)) refl (eqb p (length cs))
  where
    go : (f : Found) → first is_empty (set cs p Blocked) ≡ f → (b : Bool) → unwrap_or f (cond b (suc (length cs)) (length cs)) ≤ suc (length cs)
    go (Some i) e b = omega (arith, first_below is_empty (set cs p Blocked) i e, length-set cs p Blocked)
    go None e true = omega arith
    go None e false = omega arith

pub node_in : (v : View) (n : ℕ) → node_column v n ≤ suc (length v.columns)
node_in v n = go (find n v.columns) refl (dense v)
  where
    go : (f : Found) → find n v.columns ≡ f → (b : Bool) → unwrap_or f (cond b (staggered v.previous v.columns) (vacant v.columns)) ≤ suc (length v.columns)
    go (Some i) e b = omega (arith, first_below _ v.columns i e)
    go None e true = staggered-in v.previous v.columns
    go None e false = vacant-in v.columns

pub fitting-at : (c k : ℕ) → Some c ≡ fitting k → (c ≡ k) × (k < column_limit)
fitting-at c k e = go (ltb k column_limit) refl e
  where
    go : (b : Bool) → ltb k column_limit ≡ b → Some c ≡ cond b (Some k) None → (c ≡ k) × (k < column_limit)
    go true q f = (cc, ltb-true _ _ q)
    go false q f = let z : ◌≡◌ {A = ℕ} 0 1 = cc in absurd (omega arith)

pub fitting-none : (k : ℕ) → None ≡ fitting k → column_limit ≤ k
fitting-none k e = go (ltb k column_limit) refl e
  where
    go : (b : Bool) → ltb k column_limit ≡ b → None ≡ cond b (Some k) None → column_limit ≤ k
    go true q f = let z : ◌≡◌ {A = ℕ} 0 1 = cc in absurd (omega arith)
    go false q f = ltb-false _ _ q
