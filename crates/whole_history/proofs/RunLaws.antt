-- Laws of a whole history, for any step: the records that are left, a turn of the loop, and its ends.
use Prim.Native.Nat.{ℕ, zero, suc, ◌+◌, ◌-◌, ◌<◌, ◌≤◌}
use mathlib.Core.Path.{◌≡◌, refl, sym, ap, ◌∙◌}
use mathlib.Core.Bool.{Bool, true, false}
use mathlib.Core.List.{List, ◌∷◌, ◌++◌, append-nil}
use Rattle.std.specs.Prelude.{Option, Some, None}
use Rattle.std.specs.Simd.{first_chunks}
use native.Mathlib.Numerals.{add-one}
use native.Mathlib.Omega.{arith}
use lib.ListN.{length, get_or, take, drop, length-drop, take-append-drop, drop_of_length-le}
use lib.Seq.{take_all, drop-cons}
use Rattle.record.specs.Record.{record_length, pieces}
use Rattle.whole_history.specs.Whole.{State, place_after, Whole, rows_of}

-- ---- a part of the output that was lent

pub part-lent : (o : List ℕ) (at : ℕ) → take (length o - at) (drop at o) ≡ drop at o
part-lent o at = take_all (length o - at) (drop at o) (rw (length-drop at o) (omega arith))

pub part-back : (o p : List ℕ) (at : ℕ) → take at o ++ (p ++ drop (length o - at) (drop at o)) ≡ take at o ++ p
part-back o p at =
    let h : length (drop at o) ≤ length o - at = rw (length-drop at o) (omega arith) in
    rw (drop_of_length-le (drop at o) h) (ap (λ (x : List ℕ). take at o ++ x) (append-nil p))

-- it came back as it was
pub part_same : (o : List ℕ) (at : ℕ) {p : List ℕ} → p ≡ drop at o → take at o ++ (p ++ drop (length o - at) (drop at o)) ≡ o
part_same o at {p} e = part-back o p at ∙ ap (λ (x : List ℕ). take at o ++ x) e ∙ take-append-drop at o

-- ---- the records that are left
-- the records are the slice's arrays
pub pieces-are : (k : ℕ) (s : List ℕ) → pieces k s ≡ first_chunks record_length k s
pieces-are zero s = refl
pieces-are (suc k) s = ap (λ (l : List (List ℕ)). take record_length s ∷ l) (pieces-are k (drop record_length s))

-- ---- a turn of the loop, and its ends
module _ (step : State → List ℕ → Option State) (whole : List (List ℕ)) (n : ℕ) (s : State) {w : Whole} (e : rows_of step n (drop n whole) s ≡ w) where
  pub run_ends : length whole ≤ n → w ≡ record { rows = n; output = s.output }
  run_ends h = sym e ∙ rw (drop_of_length-le whole h) refl

  module _ (d : List ℕ) (h : n < length whole) where
    pub run-goes : {u : State} → step s (get_or whole n d) ≡ Some u → rows_of step (n + 1) (drop (n + 1) whole) u ≡ w
    run-goes {u} f =
        let t : rows_of step n (drop n whole) s ≡ rows_of step (suc n) (drop (suc n) whole) u = rw (drop-cons whole n d h, f) refl in
        ap (λ (k : ℕ). rows_of step k (drop k whole) u) (add-one n) ∙ sym t ∙ e

    pub run-stops : step s (get_or whole n d) ≡ None → {o : List ℕ} → o ≡ s.output → w ≡ record { rows = n; output = o }
    run-stops f {o} g = sym e ∙ rw (drop-cons whole n d h, f, g) refl

-- ---- a row's place, by whether the rows are kept
pub place_kept : (kept : Bool) (from n : ℕ) → kept ≡ true → from + n ≡ place_after kept from n
place_kept kept from n e = rw e refl

pub place-left : (kept : Bool) (from n : ℕ) → kept ≡ false → from ≡ place_after kept from n
place-left kept from n e = rw e refl
