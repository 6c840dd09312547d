-- A list counted out: what a test that is computed over a whole table says of each entry.
use mathlib.Core.Path.{◌≡◌, refl}
use mathlib.Core.Bool.{Bool, true, false, cond}
use mathlib.Core.List.{List, [], ◌∷◌}
use Prim.Native.Nat.{ℕ, zero, suc, ◌+◌, ◌<◌, ◌≤◌}
use native.Mathlib.Nat.{not-suc-le-zero, le_of_suc-le-suc, add-zero}
use native.Mathlib.Omega.{arith}
use lib.ListN.{get_or}

-- what holds of both holds of either
pub cond-holds : {A : Type 0} (P : A → Type 0) (b : Bool) (x y : A) → P x → P y → P (cond b x y)
cond-holds P true x y h g = h
cond-holds P false x y h g = g

-- f at i and at the numbers behind it, k of them
abbrev pub counted : {A : Type 0} → (ℕ → A) → ℕ → ℕ → List A
counted f i zero = []
counted f i (suc k) = f i ∷ counted f (suc i) k

module _ {A : Type 0} (f : ℕ → A) (d : A) where
  pub counted-in : (i k n : ℕ) → n < k → f (i + n) ≡ get_or (counted f i k) n d
  counted-in i zero n h = absurd (not-suc-le-zero h)
  counted-in i (suc k) zero h = rw (add-zero i)
  counted-in i (suc k) (suc n) h =
      let e : i + suc n ≡ suc i + n = omega arith in
      rw e (counted-in (suc i) k n (le_of_suc-le-suc h))

  pub counted-past : (i k n : ℕ) → k ≤ n → d ≡ get_or (counted f i k) n d
  counted-past i zero n h = refl
  counted-past i (suc k) zero h = absurd (not-suc-le-zero h)
  counted-past i (suc k) (suc n) h = counted-past (suc i) k n (le_of_suc-le-suc h)
