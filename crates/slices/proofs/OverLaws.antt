-- Laws of bytes written over the start of an output, for any bytes: what the writers' proofs cite.
use mathlib.Core.Path.{◌≡◌, refl, sym, ap, ◌∙◌}
use mathlib.Core.Bool.{Bool, cond}
use mathlib.Core.List.{List, [], ◌∷◌, ◌++◌, append_assoc, append-nil}
use Prim.Native.Nat.{ℕ, suc, ◌+◌, ◌-◌, ◌<◌, ◌≤◌}
use native.Mathlib.Numerals.{add-one}
use native.Mathlib.Omega.{arith}
use lib.ListN.{length, take, drop, get_or, set, length-append, length-drop, length-take, drop_of_length-le}
use lib.Seq.{take-append_seam, drop-append_seam, drop-drop, take-suc, drop-cons, set_at, length-take-le, take-length, take_all, get_or-take}
use borrow.Author.Tests.{le-leb, lt-leb}
use Rattle.slices.specs.Joins.{over, Writes}

-- the first i bytes of bs over the start of d: a byte loop's invariant
abbrev pub so_far : List ℕ → ℕ → List ℕ → List ℕ
so_far bs i d = take i bs ++ drop i d

-- one byte more, and all of them
pub so-far-step : (bs d : List ℕ) (i : ℕ) {o : List ℕ} {v : ℕ} → o ≡ so_far bs i d → v ≡ get_or bs i 0 → i < length bs → length bs ≤ length d
    → set o i v ≡ so_far bs (i + 1) d
so-far-step bs d i e f h k =
    let hd : i < length d = omega arith in
    let hb : i ≤ length bs = omega arith in
    rw (e, f, add-one, take-suc bs i 0, drop-cons d i 0)
    (set_at (take i bs) (get_or d i 0) (drop (suc i) d) (get_or bs i 0) i (length-take-le i bs hb)
    ∙ sym (append_assoc (take i bs) (get_or bs i 0 ∷ []) (drop (suc i) d)))

pub so-far-end : (bs d : List ℕ) (i : ℕ) {o : List ℕ} → o ≡ so_far bs i d → i ≡ length bs → o ≡ over bs d
so-far-end bs d i e f = e ∙ ap (λ (k : ℕ). so_far bs k d) f ∙ ap (λ (l : List ℕ). l ++ drop (length bs) d) (take-length bs)

-- one byte behind xs
pub over-one : (xs d : List ℕ) (v : ℕ) {o : List ℕ} {at : ℕ} → o ≡ over xs d → at ≡ length xs → length xs < length d → set o at v ≡ over (xs ++ (v ∷ [])) d
over-one xs d v e f h =
    rw (e, f, drop-cons d (length xs) 0, set_at xs (get_or d (length xs) 0) (drop (suc (length xs)) d) v (length xs) refl, length-append xs (v ∷ []), append_assoc xs (v ∷ []), add-one)

pub length_over : (xs d : List ℕ) → length xs ≤ length d → length (over xs d) ≡ length d
length_over xs d h = simp (length-append, length-drop) (omega arith)

-- A writer of bs was lent the part of o from `at`, and the part came back as p.

pub part_room : (o : List ℕ) (at : ℕ) → length (take (length o - at) (drop at o)) ≡ length o - at
part_room o at = simp (length-take, length-drop) (omega arith)

pub part_length : (o p : List ℕ) (at : ℕ) → length p ≡ length (take (length o - at) (drop at o)) → at ≤ length o
    → length (take at o ++ (p ++ drop (length o - at) (drop at o))) ≡ length o
part_length o p at e h = simp (length-append, length-take, length-drop, e) (omega arith)

over-part : (xs bs d : List ℕ) (k : ℕ) → length (drop (length xs) (over xs d)) ≤ k
    → take (length xs) (over xs d) ++ (over bs (drop (length xs) (over xs d)) ++ drop k (drop (length xs) (over xs d))) ≡ over (xs ++ bs) d
over-part xs bs d k h =
    rw (drop_of_length-le (drop (length xs) (over xs d)) h)
    (rw (take-append_seam xs (drop (length xs) d), drop-append_seam xs (drop (length xs) d), append-nil, drop-drop, length-append, append_assoc) refl)

pub part-written : (xs bs d : List ℕ) {o p : List ℕ} {at : ℕ} → o ≡ over xs d → at ≡ length xs → p ≡ over bs (take (length o - at) (drop at o))
    → take at o ++ (p ++ drop (length o - at) (drop at o)) ≡ over (xs ++ bs) d
part-written xs bs d {o} {p} {at} e f g =
    let t : take (length o - at) (drop at o) ≡ drop at o = take_all (length o - at) (drop at o) (rw (length-drop at o) (omega arith)) in
    let q : p ≡ over bs (drop at o) = g ∙ ap (over bs) t in
    let h : length (drop (length xs) (over xs d)) ≤ length (over xs d) - length xs = rw (length-drop (length xs) (over xs d)) (omega arith) in
    rw (q, e, f) (over-part xs bs d (length (over xs d) - length xs) h)

-- ---- a loop over the first n of some bytes
module _ (bytes d : List ℕ) (n i : ℕ) (few : n ≤ length bytes) {o : List ℕ} (e : o ≡ so_far (take n bytes) i d) where
  pub byte_next : i < n → n ≤ length d → set o i (get_or bytes i 0) ≡ so_far (take n bytes) (i + 1) d
  byte_next h k =
      let m : length (take n bytes) ≡ n = length-take-le n bytes few in
      so-far-step (take n bytes) d i e (sym (get_or-take n bytes i 0 h)) (omega arith) (omega arith)

  pub byte-end : n ≤ i → i ≤ n → o ≡ over (take n bytes) d
  byte-end h k = let m : length (take n bytes) ≡ n = length-take-le n bytes few in so-far-end (take n bytes) d i e (omega arith)

-- ---- all bytes where they fit, else none
module _ (bs before after : List ℕ) (r : ℕ) where
  pub writes-all : length bs ≤ length before → r ≡ length bs → after ≡ over bs before → Writes bs before after r
  writes-all h e f = record { count = rw (le-leb (length bs) (length before) h) e; output = rw (le-leb (length bs) (length before) h) f }

  pub writes-none : length before < length bs → r ≡ 0 → after ≡ before → Writes bs before after r
  writes-none h e f = record { count = rw (lt-leb (length bs) (length before) h) e; output = rw (lt-leb (length bs) (length before) h) f }

  pub wrote_count : Writes bs before after r → length bs ≤ length before → r ≡ length bs
  wrote_count w h = w.count ∙ ap (λ (b : Bool). cond b (length bs) 0) (le-leb (length bs) (length before) h)

  pub wrote : Writes bs before after r → length bs ≤ length before → after ≡ over bs before
  wrote w h = w.output ∙ ap (λ (b : Bool). cond b (over bs before) before) (le-leb (length bs) (length before) h)

-- all of some bytes over the start
pub copied-over : (bs d : List ℕ) → take (length bs) bs ++ drop (length bs) d ≡ over bs d
copied-over bs d = ap (λ (l : List ℕ). l ++ drop (length bs) d) (take-length bs)
