-- The account says what R-3's words say, read over the accepted calls; and a query after each call gives it.
use Prim.Native.Nat.{ℕ}
use mathlib.Core.Path.{◌≡◌, refl, ap, ◌∙◌}
use mathlib.Core.Bool.{Bool, true, false, cond}
use mathlib.Core.List.{List, [], ◌∷◌}
use mathlib.Core.Option.{Option, none, some}
use lib.Dec.{eqb}
use Rattle.render.specs.declared.render.Ancestor.{Ancestor as Entry}
use Rattle.history.specs.Account.{Call, Reserve, Row, Wait, Idle, AsReserved, AsNamed, Waiting, named, unless_waiting, starter, waits_after}
use Rattle.history.specs.Words.{Made, accepted, since_own, earlier, first_namer, named_first, account_of, starter_of}

-- a reservation names no id, and changes nothing of one that is named
after-reserve : (x n : ℕ) (ks : List Call) (w : Waiting) → first_namer x (since_own x ks) ≡ starter_of (w x)
    → first_namer x (since_own x (Reserve n ∷ ks)) ≡ starter_of (waits_after (Reserve n) w x)
after-reserve x n ks w h = kept (first_namer x (since_own x ks)) ∙ h ∙ stays (w x) (eqb x n)
  where
    kept : (o : Option ℕ) → earlier o none ≡ o
    kept none = refl
    kept (some m) = refl

    stays : (v : Wait) (t : Bool) → starter_of v ≡ starter_of (cond t (unless_waiting v) v)
    stays Idle true = refl
    stays AsReserved true = refl
    stays (AsNamed m) true = refl
    stays v false = refl

-- a row of n ends n's wait, and is the first to name an id that does not wait as named
after-row : (x n : ℕ) (es : List Entry) (ks : List Call) (w : Waiting) → first_namer x (since_own x ks) ≡ starter_of (w x)
    → first_namer x (since_own x (Row n es ∷ ks)) ≡ starter_of (waits_after (Row n es) w x)
after-row x n es ks w h = go (eqb x n) (named x es)
  where
    first : (v : Wait) (t : Bool) → earlier (starter_of v) (cond t (some n) none) ≡ starter_of (cond t (AsNamed (starter n v)) v)
    first Idle true = refl
    first Idle false = refl
    first AsReserved true = refl
    first AsReserved false = refl
    first (AsNamed m) true = refl
    first (AsNamed m) false = refl

    go : (own t : Bool) → earlier (first_namer x (cond own [] (since_own x ks))) (cond t (some n) none)
        ≡ starter_of (cond t (AsNamed (starter n (cond own Idle (w x)))) (cond own Idle (w x)))
    go true t = first Idle t
    go false t = ap (λ (o : Option ℕ). earlier o (cond t (some n) none)) h ∙ first (w x) t

after_call : (x : ℕ) (k : Call) (ks : List Call) (w : Waiting) → first_namer x (since_own x ks) ≡ starter_of (w x) → first_namer x (since_own x (k ∷ ks)) ≡ starter_of (waits_after k w x)
after_call x (Reserve n) ks w h = after-reserve x n ks w h
after_call x (Row n es) ks w h = after-row x n es ks w h

-- "the node in whose accepted row its id was first named since, or in, that id's last accepted own row (or ever, without one)" (02, R-3),
-- for every id after every list of calls: the account's node, and none where it does not wait or was only reserved
pub account-by-the-words : (x : ℕ) (ms : List Made) → named_first x ms ≡ starter_of (account_of ms x)
account-by-the-words x [] = refl
account-by-the-words x (m ∷ ms) = go m.refused m.call (account-by-the-words x ms)
  where
    go : (refused : Bool) (k : Call) → first_namer x (since_own x (accepted ms)) ≡ starter_of (account_of ms x)
        → named_first x (record { call = k; refused = refused } ∷ ms) ≡ starter_of (account_of (record { call = k; refused = refused } ∷ ms) x)
    go true k h = h
    go false k h = after_call x k (accepted ms) (account_of ms) h
