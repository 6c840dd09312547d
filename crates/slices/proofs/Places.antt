-- Laws of a list's places: what stands at one after a value is put there, for any type; past the end stands d.
use Prim.Native.Nat.{ℕ, zero, suc, ◌<◌, max}
use mathlib.Core.Path.{◌≡◌, refl, ap}
use mathlib.Core.Logic.{◌≢◌}
use mathlib.Core.List.{List, [], ◌∷◌, ◌++◌}
use native.Mathlib.Nat.{not-suc-le-zero, le_of_suc-le-suc}
use native.Mathlib.Omega.{arith}
use lib.ListN.{length, get_or, set}
use Rattle.slices.specs.Lists.{put_with}

module _ {A : Type 0} (d : A) where
  pub put_same : (l : List A) (k : ℕ) (v : A) → get_or (put_with d l k v) k d ≡ v
  put_same [] zero v = refl
  put_same [] (suc k) v = put_same [] k v
  put_same (x ∷ l) zero v = refl
  put_same (x ∷ l) (suc k) v = put_same l k v

  pub put_other : (l : List A) (k : ℕ) (v : A) (i : ℕ) → i ≢ k → get_or (put_with d l k v) i d ≡ get_or l i d
  put_other [] zero v zero h = absurd (h refl)
  put_other [] zero v (suc i) h = refl
  put_other [] (suc k) v zero h = refl
  put_other [] (suc k) v (suc i) h = put_other [] k v i (λ e. h (ap suc e))
  put_other (x ∷ l) zero v zero h = absurd (h refl)
  put_other (x ∷ l) zero v (suc i) h = refl
  put_other (x ∷ l) (suc k) v zero h = refl
  put_other (x ∷ l) (suc k) v (suc i) h = put_other l k v i (λ e. h (ap suc e))

  pub put-length : (l : List A) (k : ℕ) (v : A) → length (put_with d l k v) ≡ max (length l) (suc k)
  put-length [] zero v = omega arith
  put-length [] (suc k) v = omega (arith, put-length [] k v)
  put-length (x ∷ l) zero v = omega arith
  put-length (x ∷ l) (suc k) v = omega (arith, put-length l k v)

  -- one put a place past a new last one makes a place before it
  pub put-past : (l : List A) (v : A) → put_with d (put_with d l (length l) d) (suc (length l)) v ≡ put_with d l (suc (length l)) v
  put-past [] v = refl
  put-past (x ∷ l) v = ap (λ (r : List A). x ∷ r) (put-past l v)

  -- a place there is
  pub put-inside : (l : List A) (i : ℕ) (v : A) → i < length l → put_with d l i v ≡ set l i v
  put-inside [] i v h = absurd (not-suc-le-zero h)
  put-inside (x ∷ l) zero v h = refl
  put-inside (x ∷ l) (suc i) v h = ap (λ (r : List A). x ∷ r) (put-inside l i v (le_of_suc-le-suc h))

  -- a new last one
  pub put-end : (l : List A) (v : A) → put_with d l (length l) v ≡ l ++ (v ∷ [])
  put-end [] v = refl
  put-end (x ∷ l) v = ap (λ (r : List A). x ∷ r) (put-end l v)
