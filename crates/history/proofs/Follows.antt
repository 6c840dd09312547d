-- What follows of any machine that keeps every line: its head lines have no other glyph, its nodes are at most one past the count of columns, an id that moves
-- carries its node along, and no clause fails.
use Prim.Native.Nat.{ℕ, suc, ◌≤◌, ◌<◌}
use mathlib.Core.Path.{◌≡◌, refl, sym, ◌∙◌, ap, subst}
use mathlib.Core.Logic.{◌≢◌}
use mathlib.Core.Bool.{Bool, true, false, cond}
use mathlib.Core.List.{List, [], ◌∷◌}
use mathlib.Core.Option.{none-ne-some}
use native.Mathlib.Omega.{arith}
use native.Mathlib.Decide.{dec_lt}
use borrow.Author.Tests.{ne_eqb}
use lib.Dec.{eqb}
use lib.ListN.{length}
use Rattle.std.specs.Prelude.{Some}
use Rattle.std.proofs.lemmas.Option.{same_Some}
use Rattle.column.specs.declared.Column.{Column}
use Rattle.column.specs.declared.Column.TheVariants.{Empty, Blocked, Reserved, Ancestor, Parent}
use Rattle.column.specs.Found.{Found}
use Rattle.column.specs.Columns.{at, origin_at}
use Rattle.column.proofs.Positions.{past_end}
use Rattle.marked.proofs.Holding.{held_below}
use Rattle.history.specs.Account.{Call, Reserve, Row, Wait, Idle, AsReserved, AsNamed, Waiting, call_id, is_drawn, nobody, named, unless_waiting, starter, account, Named}
use Rattle.history.specs.Demand3.{Stroke, Blank, Dashed, Solid, Other, Holds, wait_of, cell, solid, over_node, Machine, Above, nothing_above, Clause, origins_after, draws, waiting_after, above_after, Kept, Each, KeepsEveryLine}
use Rattle.history.specs.Follows.{HeadKinds, Carried, NodeNear}
use Rattle.history.specs.Wrong.{Fails}
use Rattle.history.proofs.Waits.{named≢idle, reserved≢idle}
use Rattle.history.proofs.Node.{NodePlaced}

-- a property of each call, from what holds of each
pub each : (M : Machine) (P Q : Clause M) → ((s : M.State) (w : Waiting) (a : Above) (k : M.Item) → P s w a k → Q s w a k)
    → (s : M.State) (w : Waiting) (a : Above) (ks : List M.Item) → Each M P s w a ks → Each M Q s w a ks
each M P Q f s w a [] e = tt
each M P Q f s w a (k ∷ ks) e = (f s w a k e.0, each M P Q f (M.after s k) (waiting_after M s k w) (above_after M s k a) ks e.1)

-- ---- head lines
over-kinds : (c i : ℕ) (x : Stroke) → x ≢ Other → over_node c i x ≢ Other
over-kinds c i x h = go (eqb i c) x h
  where
    go : (t : Bool) (x : Stroke) → x ≢ Other → cond t (solid x) x ≢ Other
    go false x h = h
    go true Blank h = h
    go true Dashed h = λ e. cc
    go true Solid h = h
    go true Other h = h

blank-kind : Blank ≢ Other
blank-kind e = cc

heads : (M : Machine) (s : M.State) (w : Waiting) (a : Above) (ks : List M.Item) → ((i : ℕ) → cell a.foot i ≢ Other) → Each M (Kept M) s w a ks → Each M (HeadKinds M) s w a ks
heads M s w a [] h K = tt
heads M s w a (k ∷ ks) h K = (
  λ d i e. over-kinds _ i (cell a.foot i) (h i) (sym (K.0.meets d i) ∙ e),
  heads M (M.after s k) (waiting_after M s k w) (above_after M s k a) ks (kept (draws M s k) refl) K.1,
)
  where
    kept : (t : Bool) → draws M s k ≡ t → (i : ℕ) → cell (cond t (record { foot = M.foot s k; node = Some (M.node s k) }) a).foot i ≢ Other
    kept true d i = K.0.kinds d i
    kept false d i = h i

pub heads-of-three-kinds : (M : Machine) (s : M.State) (ks : List M.Item) → KeepsEveryLine M s ks → Each M (HeadKinds M) s nobody nothing_above ks
heads-of-three-kinds M s ks K = heads M s nobody nothing_above ks (λ i. blank-kind) K.calls

-- ---- the node's column
near : (cs : List Column) (w : Waiting) (n c : ℕ) (p : Found) → NodePlaced cs w n c p → c ≤ suc (length cs)
near cs w n c p P = go (w n) refl (dec_lt (suc (length cs)) c)
  where
    waited : w n ≢ Idle → c ≤ suc (length cs)
    waited z = omega (arith, held_below cs c n (P.own z))

    -- both the column past the last one and the next would be the previous node's
    two : w n ≡ Idle → suc (length cs) < c → ⊥
    two z l =
        let e : p ≡ Some (length cs) = P.first z (length cs) (omega arith) (past_end cs (length cs) (omega arith)) in
        let f : p ≡ Some (suc (length cs)) = P.first z (suc (length cs)) l (past_end cs (suc (length cs)) (omega arith)) in
        omega (arith, same_Some (length cs) (suc (length cs)) (sym e ∙ f))

    go : (x : Wait) → w n ≡ x → Dec (suc (length cs) < c) → c ≤ suc (length cs)
    go Idle e (yes l) = absurd (two e l)
    go Idle e (no m) = omega arith
    go AsReserved e d = waited (λ z. reserved≢idle (sym e ∙ z))
    go (AsNamed m) e d = waited (λ z. named≢idle m (sym e ∙ z))

pub nodes-near : (M : Machine) (s : M.State) (ks : List M.Item) → KeepsEveryLine M s ks → Each M (NodeNear M) s nobody nothing_above ks
nodes-near M s ks K =
    each M (Kept M) (NodeNear M) (λ s w a k L d. near (M.columns s) w (call_id (M.call k)) (M.node s k) a.node (record { own = L.own d; empty = L.empty d; first = L.first d })) s nobody nothing_above ks K.calls

-- ---- what a named id carries
waits-named : (c : Column) (o : ℕ) (v : Wait) → v ≡ wait_of c o → Named v → v ≡ AsNamed o
waits-named Empty o v e n = absurd (subst Named e n)
waits-named Blocked o v e n = absurd (subst Named e n)
waits-named (Reserved m) o v e n = absurd (subst Named e n)
waits-named (Ancestor m) o v e n = e
waits-named (Parent m) o v e n = e

-- the node that an id waits as named by
abbrev node_of : Wait → ℕ
node_of Idle = 0
node_of AsReserved = 0
node_of (AsNamed m) = m

-- no call changes who first named an id, but a row of its own
still-named : (k : Call) (refused : Bool) (w : Waiting) (x : ℕ) → Named (w x) → (is_drawn k refused ≡ true → x ≢ call_id k) → account k refused w x ≡ w x
still-named k true w x n o = refl
still-named (Reserve m) false w x n o = go (w x) n (eqb x m)
  where
    go : (v : Wait) → Named v → (t : Bool) → cond t (unless_waiting v) v ≡ v
    go Idle n t = absurd n
    go AsReserved n t = absurd n
    go (AsNamed p) n true = refl
    go (AsNamed p) n false = refl
still-named (Row m es) false w x n o = rw (ne_eqb x m (o refl)) (go (w x) n (named x es))
  where
    go : (v : Wait) → Named v → (t : Bool) → cond t (AsNamed (starter m v)) v ≡ v
    go Idle n t = absurd n
    go AsReserved n t = absurd n
    go (AsNamed p) n true = refl
    go (AsNamed p) n false = refl

-- each id that waits as named, in the state s, waits as its column and what that carries say
abbrev AsCarried : (M : Machine) → M.State → Waiting → Type 0
AsCarried M s w = (i x : ℕ) → Holds (M.columns s) i x → w x ≡ wait_of (at (M.columns s) i) (origin_at (M.origins s) i)

along : (M : Machine) (s : M.State) (w : Waiting) (a : Above) (ks : List M.Item) → AsCarried M s w → Each M (Kept M) s w a ks → Each M (Carried M) s w a ks
along M s w a [] c K = tt
along M s w a (k ∷ ks) c K = (
  λ x i j b d h l o n.
      let before : w x ≡ AsNamed (origin_at (M.origins s) i) = waits-named (at (M.columns s) i) _ (w x) (c i x h) n in
      let same : waiting_after M s k w x ≡ w x = still-named (M.call k) (M.refuses s k) w x n o in
      let after : waiting_after M s k w x ≡ AsNamed (origin_at (origins_after M s k) j) = waits-named (at (M.columns (M.after s k)) j) _ (waiting_after M s k w x) (K.0.waits j x l) (subst Named (sym same) n) in
      ap node_of (sym after ∙ same ∙ before),
  along M (M.after s k) (waiting_after M s k w) (above_after M s k a) ks K.0.waits K.1,
)

-- "The id's move to another column carries it along." (02, R-3)
pub carried-along : (M : Machine) (s : M.State) (ks : List M.Item) → KeepsEveryLine M s ks → Each M (Carried M) s nobody nothing_above ks
carried-along M s ks K = along M s nobody nothing_above ks (λ i x h. absurd (none-ne-some x (subst (λ (cs : List Column). Holds cs i x) K.fresh h))) K.calls

-- ---- a machine of which a clause fails does not keep every line
pub falls : (M : Machine) (P : Clause M) → ((s : M.State) (w : Waiting) (a : Above) (k : M.Item) → Kept M s w a k → P s w a k)
    → (s : M.State) (ks : List M.Item) → Fails M P s ks → KeepsEveryLine M s ks → ⊥
falls M P from s ks f K = f (each M (Kept M) P from s nobody nothing_above ks K.calls)
