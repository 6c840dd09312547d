-- Laws of the line that says what was refused.
use mathlib.Core.Path.{◌≡◌, refl, sym, ap, ◌∙◌}
use mathlib.Core.Bool.{Bool, true, false, cond}
use mathlib.Core.List.{List, [], ◌∷◌, ◌++◌, append_assoc}
use Prim.Native.Nat.{ℕ, zero, suc, ◌+◌, ◌-◌, ◌/◌, ◌%◌, ◌<◌, ◌≤◌, zero-le}
use native.Mathlib.Omega.{arith}
use borrow.Author.Tests.{lt-ltb, le-ltb}
use lib.Dec.{ltb}
use lib.ListN.{length, take, drop, set, length-append, length-set}
use Rattle.slices.specs.Joins.{over}
use Rattle.slices.proofs.OverLaws.{over-one, part-written, part_length}
use Rattle.steps.specs.Steps.{decimal_in, most_digits, refused_word, record_words, refused_line, line_room, refused_in}

-- ---- a number in decimal
pub decimal_digit : (k n : ℕ) → (k ≡ 0 → ⊥) → n < 10 → decimal_in k n ≡ (0x30 + n) ∷ []
decimal_digit zero n z h = absurd (z refl)
decimal_digit (suc k) n z h = rw (lt-ltb n 10 h) refl

pub decimal-more : (k n : ℕ) → (k ≡ 0 → ⊥) → 10 ≤ n → decimal_in k n ≡ decimal_in (k - 1) (n / 10) ++ ((0x30 + n % 10) ∷ [])
decimal-more zero n z h = absurd (z refl)
decimal-more (suc k) n z h =
    let e : suc k - 1 ≡ k = omega arith in
    rw (le-ltb n 10 h, e) refl

pub decimal-short : (k n : ℕ) → length (decimal_in k n) ≤ k
decimal-short zero n = zero-le
decimal-short (suc k) n = go (ltb n 10) (decimal-short k (n / 10))
  where
    go : (b : Bool) → length (decimal_in k (n / 10)) ≤ k → length (cond b ((0x30 + n) ∷ []) (decimal_in k (n / 10) ++ ((0x30 + n % 10) ∷ []))) ≤ suc k
    go true h = omega arith
    go false h = rw (length-append (decimal_in k (n / 10)) ((0x30 + n % 10) ∷ [])) (omega arith)

-- ---- the line, piece by piece
module _ (d : List ℕ) (n k : ℕ) where
  pub no_line : length d < line_room → refused_in d n k ≡ []
  no_line h = rw (lt-ltb (length d) line_room h) refl

  module _ (h : line_room ≤ length d) where
    pub line-is : refused_in d n k ≡ refused_line n k
    line-is = rw (le-ltb (length d) line_room h) refl

    abbrev first : List ℕ
    first = refused_word ++ decimal_in most_digits n

    abbrev second : List ℕ
    second = record_words ++ decimal_in most_digits k

    pub line-parts : (first ++ second) ++ (0x0a ∷ []) ≡ refused_in d n k
    line-parts = joined ∙ sym line-is
      where
        joined : (first ++ second) ++ (0x0a ∷ []) ≡ refused_line n k
        joined = simp append_assoc

    pub line-length : length (refused_in d n k) ≡ length first + length second + 1
    line-length = ap length (sym line-parts) ∙ rw (length-append (first ++ second) (0x0a ∷ []), length-append first second) refl

    -- both parts and the line's end
    pub line-written : (o p : List ℕ) (at m : ℕ) → o ≡ over first d → at ≡ length first → m ≡ length second → at ≤ 28 → m ≤ 31
        → p ≡ over second (take (length o - at) (drop at o))
        → set (take at o ++ (p ++ drop (length o - at) (drop at o))) (at + m) 0x0a ≡ over (refused_in d n k) d
    line-written o p at m e f g a b w =
        over-one (first ++ second) d 0x0a (part-written first second d e f w) (omega (arith, length-append first second)) (omega (arith, length-append first second))
        ∙ ap (λ (x : List ℕ). over x d) line-parts

-- the line changes no length
pub line_same : (d o p : List ℕ) (at m v : ℕ) → length p ≡ length (take (length o - at) (drop at o)) → at ≤ length o → length o ≡ length d
    → length (set (take at o ++ (p ++ drop (length o - at) (drop at o))) (at + m) v) ≡ length d
line_same d o p at m v e h s = length-set (take at o ++ (p ++ drop (length o - at) (drop at o))) (at + m) v ∙ part_length o p at e h ∙ s
