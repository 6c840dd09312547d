-- Laws of the first n elements of a list, f of each: what an array and a count stand for, for any type.
use Prim.Native.Nat.{ℕ, zero, suc, ◌+◌, ◌≤◌, ◌<◌, min, max}
use mathlib.Core.Path.{◌≡◌, refl, sym, ap, ◌∙◌}
use mathlib.Core.Bool.{Bool, true, false}
use mathlib.Core.List.{List, [], ◌∷◌, ◌++◌, map}
use native.Mathlib.Nat.{not-suc-le-zero, le_of_suc-le-suc, zero-min, min-zero, suc-min-suc}
use native.Mathlib.Omega.{arith}
use lib.Dec.{ltb}
use lib.ListN.{length, get_or, take, set, length-take, length-map, get_or-eq_default}
use lib.Seq.{lt-length-set, set_out, get_or-set_same}
use borrow.Author.Tests.{ltb-true, ltb-false}
use Rattle.slices.specs.Lists.{put_with}
use Rattle.slices.proofs.Places.{put-inside, put-end}

module _ {A B : Type 0} (f : A → B) where
  abbrev pub front : ℕ → List A → List B
  front n l = map f (take n l)

  pub length_front : (n : ℕ) (l : List A) → length (front n l) ≡ min n (length l)
  length_front n l = length-map (take n l) f ∙ length-take n l

  pub front-get_or : (n : ℕ) (l : List A) (i : ℕ) (d : A) (e : B) → i < n → i < length l → get_or (front n l) i e ≡ f (get_or l i d)
  front-get_or zero l i d e p q = absurd (not-suc-le-zero p)
  front-get_or (suc n) [] i d e p q = absurd (not-suc-le-zero q)
  front-get_or (suc n) (x ∷ l) zero d e p q = refl
  front-get_or (suc n) (x ∷ l) (suc i) d e p q = front-get_or n l i d e (le_of_suc-le-suc p) (le_of_suc-le-suc q)

  -- a store
  pub front-set : (n : ℕ) (l : List A) (i : ℕ) (x : A) → front n (set l i x) ≡ set (front n l) i (f x)
  front-set zero l i x = refl
  front-set (suc n) [] i x = refl
  front-set (suc n) (y ∷ l) zero x = refl
  front-set (suc n) (y ∷ l) (suc i) x = ap (λ (r : List B). f y ∷ r) (front-set n l i x)

  -- one place more
  pub front-suc : (n : ℕ) (l : List A) (d : A) → n < length l → front (suc n) l ≡ front n l ++ (f (get_or l n d) ∷ [])
  front-suc n [] d q = absurd (not-suc-le-zero q)
  front-suc zero (x ∷ l) d q = refl
  front-suc (suc n) (x ∷ l) d q = ap (λ (r : List B). f x ∷ r) (front-suc n l d (le_of_suc-le-suc q))

  -- a count above the length is read as the length
  front-min : (n : ℕ) (l : List A) → front (min n (length l)) l ≡ front n l
  front-min zero l = rw zero-min
  front-min (suc n) [] = rw min-zero
  front-min (suc n) (x ∷ l) = rw suc-min-suc (ap (λ (r : List B). f x ∷ r) (front-min n l))

  pub front-clamp : (n count : ℕ) (l : List A) → n ≡ min count (length l) → front n l ≡ front count l
  front-clamp n count l e = rw e (front-min count l)

  -- past the count, or the end, stands d
  pub front-past : (n : ℕ) (l : List A) (i : ℕ) (d : B) → min n (length l) ≤ i → get_or (front n l) i d ≡ d
  front-past n l i d h = get_or-eq_default (front n l) d {n = i} (rw length_front h)

  -- x stored at i, and the count with it; past the end stands d, e is any other
  module _ (d : B) (e : A) (count i m : ℕ) (l : List A) (x : A) (k : i < length l) (h : i ≤ length (front count l)) (q : m ≡ min (max count (i + 1)) (length l)) where
    below : i < length (front count l) → front m (set l i x) ≡ put_with d (front count l) i (f x)
    below g =
        let z : m ≡ min count (length l) = omega (arith, length_front count l) in
        rw (front-set m l i x, front-clamp m count l z, put-inside d (front count l) i (f x) g)

    behind : length (front count l) ≤ i → front m (set l i x) ≡ put_with d (front count l) i (f x)
    behind g =
        let z : i ≡ min count (length l) = omega (arith, length_front count l) in
        let n : m ≡ suc i = omega arith in
        let o : length (front i l) ≤ i = rw length_front (omega arith) in
        let y : i ≡ length (front count l) = omega arith in
        rw (n, front-suc i (set l i x) e (lt-length-set l i x k), get_or-set_same l i x e k, front-set i l i x, set_out (front i l) i (f x) o)
        (rw (front-clamp i count l z) (sym (put-end d (front count l) (f x)) ∙ ap (λ (j : ℕ). put_with d (front count l) j (f x)) (sym y)))

    pick : (b : Bool) → ltb i (length (front count l)) ≡ b → front m (set l i x) ≡ put_with d (front count l) i (f x)
    pick true g = below (ltb-true _ _ g)
    pick false g = behind (ltb-false _ _ g)

    pub front-put : front m (set l i x) ≡ put_with d (front count l) i (f x)
    front-put = pick (ltb i (length (front count l))) refl
