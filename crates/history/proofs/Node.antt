-- The node's column: its id's where the id waits, else the first Empty one, or the next after the previous node's where staggering skips that.
use Prim.Native.Nat.{ℕ, zero, suc, ◌<◌}
use mathlib.Core.Path.{◌≡◌, refl, sym, ◌∙◌, ap, subst}
use mathlib.Core.Bool.{Bool, true, false, cond, false≢true}
use mathlib.Core.List.{List, [], ◌∷◌}
use mathlib.Core.Logic.{◌≢◌}
use mathlib.Core.Option.{some}
use native.Mathlib.Omega.{arith}
use native.Mathlib.Decide.{ℕ_discrete}
use borrow.Author.Tests.{eqb-true}
use lib.Dec.{eqb}
use lib.ListN.{length, set, length-set}
use lib.Seq.{get_or-set_other}
use Rattle.std.specs.Prelude.{Some, None, unwrap_or}
use Rattle.column.specs.declared.Column.{Column}
use Rattle.column.specs.declared.Column.TheVariants.{Empty, Blocked}
use Rattle.column.specs.Found.{Found}
use Rattle.column.specs.Columns.{is_empty, first, next, find, vacant, at}
use Rattle.shaper.specs.Shaper.{View}
use Rattle.shaper.specs.NodeColumn.{dense, staggered, unallocated, node_column}
use Rattle.marked.proofs.Holding.{Spot, taken, free, node_spot, Where, away, there, find_is}
use Rattle.history.specs.Account.{Idle, Waiting}
use Rattle.history.specs.Demand3.{Holds}
use Rattle.history.proofs.Waits.{Wait-in, busy}

-- what stands left of the first column that passes a test does not pass it, nor does any where none passes
left-of-first : (p : Column → Bool) (cs : List Column) (i : ℕ) → i < unwrap_or (first p cs) (length cs) → p (at cs i) ≡ false
left-of-first p [] i h = absurd (omega (arith, h))
left-of-first p (c ∷ cs) i h = go (left-of-first p cs) (p c) refl i h
  where
    behind : (o : Found) → unwrap_or (next o) (suc (length cs)) ≡ suc (unwrap_or o (length cs))
    behind (Some k) = refl
    behind None = refl

    go : ((i : ℕ) → i < unwrap_or (first p cs) (length cs) → p (at cs i) ≡ false)
        → (t : Bool) → p c ≡ t → (i : ℕ) → i < unwrap_or (cond t (Some 0) (next (first p cs))) (suc (length cs)) → p (at (c ∷ cs) i) ≡ false
    go rest true e i h = absurd (omega (arith, h))
    go rest false e zero h = e
    go rest false e (suc i) h = rest i (omega (arith, h, behind (first p cs)))

left-of-vacant : (cs : List Column) (i : ℕ) → i < vacant cs → at cs i ≢ Empty
left-of-vacant cs i h e = false≢true (sym (left-of-first is_empty cs i h) ∙ ap is_empty e)

-- an Empty column left of the one that staggering finds is the previous node's
left-of-staggered : (p : Found) (cs : List Column) (i : ℕ) → i < staggered p cs → at cs i ≡ Empty → p ≡ Some i
left-of-staggered None cs i h e = absurd (left-of-vacant cs i h e)
left-of-staggered (Some p) cs i h e = go (ℕ_discrete i p)
  where
    masked : List Column
    masked = set cs p Blocked

    past : (t : Bool) → eqb p (length cs) ≡ t → (o : Found) → i < unwrap_or o (cond t (suc (length cs)) (length cs)) → i ≢ p → i < unwrap_or o (length cs)
    past true t (Some k) h n = h
    past false t (Some k) h n = h
    past true t None h n = omega (arith, h, n, eqb-true p (length cs) t)
    past false t None h n = h

    go : Dec (i ≡ p) → Some p ≡ Some i
    go (yes z) = ap Some (sym z)
    go (no n) =
        let l : i < unwrap_or (first is_empty masked) (length masked) =
        subst (λ (m : ℕ). i < unwrap_or (first is_empty masked) m) (sym (length-set cs p Blocked)) (past (eqb p (length cs)) refl (first is_empty masked) h n) in
        absurd (false≢true (sym (left-of-first is_empty masked i l) ∙ ap is_empty (get_or-set_other cs p i Blocked Empty n ∙ e)))

-- an Empty column left of the column of an id that no column holds
left-of-node : (v : View) (i : ℕ) → i < unallocated v → at v.columns i ≡ Empty → v.previous ≡ Some i
left-of-node v i h e = go (dense v) h
  where
    go : (t : Bool) → i < cond t (staggered v.previous v.columns) (vacant v.columns) → v.previous ≡ Some i
    go true l = left-of-staggered v.previous v.columns i l e
    go false l = absurd (left-of-vacant v.columns i l e)

-- the clauses about the node's column: the node n in column c, the columns cs and the ids w that wait before the row, the previous node's column p
pub record NodePlaced (cs : List Column) (w : Waiting) (n c : ℕ) (p : Found) : Type 0 where
  pub own : w n ≢ Idle → Holds cs c n
  pub empty : w n ≡ Idle → at cs c ≡ Empty
  pub first : w n ≡ Idle → (i : ℕ) → i < c → at cs i ≡ Empty → p ≡ Some i

-- they hold, from what waits before the row and the node's column of the row before
pub node-placed : (v : View) (n : ℕ) (os : ℕ → ℕ) (w : Waiting) → Wait-in v.columns os w → NodePlaced v.columns w n (node_column v n) v.previous
node-placed v n os w W = record { own = own (node_spot v n); empty = empty (node_spot v n); first = λ z. left (find n v.columns) (find_is n v.columns) z }
  where
    cs : List Column
    cs = v.columns

    idle-held : (i : ℕ) → w n ≡ Idle → Holds cs i n → ⊥
    idle-held i z h = busy (at cs i) (os i) n h (sym (W.waits i n h) ∙ z)

    own : Spot (some n) cs (node_column v n) → w n ≢ Idle → Holds cs (node_column v n) n
    own (taken m e q) z = q ∙ sym e
    own (free e f) z = absurd (f n (W.held n z).0 refl (W.held n z).1)

    empty : Spot (some n) cs (node_column v n) → w n ≡ Idle → at cs (node_column v n) ≡ Empty
    empty (taken m e q) z = absurd (idle-held (node_column v n) z (q ∙ sym e))
    empty (free e f) z = e

    left : (o : Found) → Where n cs o → w n ≡ Idle → (i : ℕ) → i < unwrap_or o (unallocated v) → at cs i ≡ Empty → v.previous ≡ Some i
    left o (there j h) z i l e = absurd (idle-held j z h)
    left o (away h) z i l e = left-of-node v i l e
