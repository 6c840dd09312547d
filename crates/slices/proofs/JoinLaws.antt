-- Laws of bytes put together from parts, for any elements and any way to draw one: what a loop over the elements cites.
use mathlib.Core.Path.{◌≡◌, refl, sym, ap, ◌∙◌}
use mathlib.Core.List.{List, [], ◌∷◌, ◌++◌, append_assoc, append-nil}
use Prim.Native.Nat.{ℕ, ◌+◌, ◌*◌, ◌-◌, ◌<◌, ◌≤◌, zero-le}
use native.Mathlib.Nat.{le_trans, mul-le-mul_left}
use native.Mathlib.Numerals.{add-one}
use native.Mathlib.Omega.{arith}
use lib.ListN.{length, take, drop, get_or, length-append, length-take, take-append-drop}
use lib.Seq.{take-suc, take_all}
use Rattle.slices.specs.Joins.{joins, over}
use Rattle.slices.proofs.OverLaws.{part-written}

module _ {A : Type 0} (f : A → List ℕ) where
  pub joins-append : (xs ys : List A) → joins f (xs ++ ys) ≡ joins f xs ++ joins f ys
  joins-append [] ys = refl
  joins-append (x ∷ xs) ys = ap (λ (l : List ℕ). f x ++ l) (joins-append xs ys) ∙ sym (append_assoc (f x) (joins f xs) (joins f ys))

  -- each element has at most k bytes
  pub joins-short : (k : ℕ) → ((x : A) → length (f x) ≤ k) → (xs : List A) → length (joins f xs) ≤ k * length xs
  joins-short k s [] = zero-le
  joins-short k s (x ∷ xs) = rw (length-append (f x) (joins f xs)) (omega (arith, s x, joins-short k s xs))

  module _ (xs : List A) (i : ℕ) where
    -- the first ones are no longer than all
    pub joins-within : length (joins f (take i xs)) ≤ length (joins f xs)
    joins-within =
        let e : length (joins f xs) ≡ length (joins f (take i xs)) + length (joins f (drop i xs)) =
        ap (λ (l : List A). length (joins f l)) (sym (take-append-drop i xs)) ∙ rw (joins-append, length-append) in
        omega arith

    -- one element more
    joins-next : (d : A) → i < length xs → joins f (take (i + 1) xs) ≡ joins f (take i xs) ++ f (get_or xs i d)
    joins-next d h = rw (add-one, take-suc xs i d, joins-append, append-nil)

    pub next-length : (d : A) {n m : ℕ} → i < length xs → n ≡ length (joins f (take i xs)) → m ≡ length (f (get_or xs i d))
        → n + m ≡ length (joins f (take (i + 1) xs))
    next-length d h e g = rw (e, g, joins-next d h, length-append)

    pub next-over : (e : A) (d : List ℕ) {o p bs : List ℕ} {at : ℕ} → i < length xs → o ≡ over (joins f (take i xs)) d → at ≡ length (joins f (take i xs))
        → bs ≡ f (get_or xs i e) → p ≡ over bs (take (length o - at) (drop at o))
        → take at o ++ (p ++ drop (length o - at) (drop at o)) ≡ over (joins f (take (i + 1) xs)) d
    next-over e d {bs = bs} h q a b w =
        part-written (joins f (take i xs)) bs d q a w ∙ ap (λ (l : List ℕ). over (joins f (take i xs) ++ l) d) b
        ∙ ap (λ (l : List ℕ). over l d) (sym (joins-next e h))

    -- the last one was the last
    pub end-length : {n : ℕ} → length xs ≤ i → n ≡ length (joins f (take i xs)) → n ≡ length (joins f xs)
    end-length h e = rw (take_all i xs h) at e

    pub end-over : (d : List ℕ) {o : List ℕ} → length xs ≤ i → o ≡ over (joins f (take i xs)) d → o ≡ over (joins f xs) d
    end-over d h e = rw (take_all i xs h) at e

    -- the first i of at most k bytes each
    pub so-short : (k : ℕ) → ((x : A) → length (f x) ≤ k) → length (joins f (take i xs)) ≤ k * i
    so-short k s =
        let h : length (take i xs) ≤ i = omega (arith, length-take i xs) in
        le_trans (joins-short k s (take i xs)) (mul-le-mul_left k h)
