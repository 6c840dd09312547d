-- Marks by name and by bits: a cell with named marks meets another set exactly if some mark is in both, told over the list of its thirteen marks.
use Prim.Native.Nat.{ℕ, zero, suc, ◌+◌, ◌*◌, ◌<◌, min}
use mathlib.Core.Path.{◌≡◌, refl, ◌∙◌, ap, ap₂}
use mathlib.Core.Bool.{Bool, true, false, cond, not, ◌||◌, or-false}
use mathlib.Core.List.{List, [], ◌∷◌}
use native.Mathlib.Omega.{arith}
use lib.Arith.{digits_div, digits_mod}
use lib.Bits.{bit_and, and_step, and_zero_r}
use lib.Dec.{eqb}
use borrow.Author.Tests.{eq-eqb, ne_eqb, eqb-true, eqb-false}
use Rattle.render.specs.declared.render.LinkLine.{LinkLine}
use Rattle.render.specs.declared.render.Marks.{Marks}
use Rattle.render.specs.Link.{meets, only, link_of}
use Rattle.glyphs.specs.Marks.{horizontal, left_fork_parent, left_fork_ancestor, left_merge_parent, left_merge_ancestor, right_fork_parent, right_fork_ancestor, right_merge_parent, right_merge_ancestor}
use Rattle.no_gap.specs.NoGap.{marks_in, facing_left, facing_right}

-- the number with these binary digits, the lowest first
abbrev bits_of : List Bool → ℕ
bits_of [] = 0
bits_of (b ∷ bs) = bits_of bs * 2 + only b 1

-- whether some place is set in both
abbrev in_both : List Bool → List Bool → Bool
in_both [] ms = false
in_both (b ∷ bs) [] = false
in_both (b ∷ bs) (m ∷ ms) = cond m (b || in_both bs ms) (in_both bs ms)

digit : (b : Bool) → only b 1 < 2
digit true = omega arith
digit false = omega arith

-- a number is none exactly if its digits are
none_of : (n : ℕ) → eqb (n * 2 + 0) 0 ≡ eqb n 0
none_of n = go (eqb n 0) refl
  where
    go : (t : Bool) → eqb n 0 ≡ t → eqb (n * 2 + 0) 0 ≡ t
    go true e = eq-eqb (n * 2 + 0) 0 (omega (arith, eqb-true n 0 e))
    go false e = ne_eqb (n * 2 + 0) 0 (λ z. eqb-false n 0 e (omega (arith, z)))

pub meets-lists : (bs ms : List Bool) → not (eqb (bit_and (bits_of bs) (bits_of ms)) 0) ≡ in_both bs ms
meets-lists [] ms = refl
meets-lists (b ∷ bs) [] = rw (and_zero_r (bits_of bs * 2 + only b 1))
meets-lists (b ∷ bs) (m ∷ ms) = ap (λ (n : ℕ). not (eqb n 0)) halves ∙ (go b m ∙ ap (λ (t : Bool). cond m (b || t) t) (meets-lists bs ms))
  where
    halves : bit_and (bits_of bs * 2 + only b 1) (bits_of ms * 2 + only m 1) ≡ bit_and (bits_of bs) (bits_of ms) * 2 + min (only b 1) (only m 1)
    halves =
        and_step (bits_of bs * 2 + only b 1) (bits_of ms * 2 + only m 1)
        ∙ ap₂ (λ (x y : ℕ). x * 2 + y)
        (ap₂ bit_and (digits_div (bits_of bs) (digit b)) (digits_div (bits_of ms) (digit m)))
        (ap₂ min (digits_mod (bits_of bs) (digit b)) (digits_mod (bits_of ms) (digit m)))

    go : (b m : Bool) → not (eqb (bit_and (bits_of bs) (bits_of ms) * 2 + min (only b 1) (only m 1)) 0) ≡ cond m (b || not (eqb (bit_and (bits_of bs) (bits_of ms)) 0)) (not (eqb (bit_and (bits_of bs) (bits_of ms)) 0))
    go true true = ap not (ne_eqb (bit_and (bits_of bs) (bits_of ms) * 2 + 1) 0 (λ z. omega (arith, z)))
    go true false = ap not (none_of (bit_and (bits_of bs) (bits_of ms)))
    go false true = ap not (none_of (bit_and (bits_of bs) (bits_of ms)))
    go false false = ap not (none_of (bit_and (bits_of bs) (bits_of ms)))

-- ---- the thirteen marks
module _ (m : Marks) where
  -- a cell's marks in the order of their bits
  abbrev by_bits : List Bool
  by_bits =
      m.horiz_parent ∷ m.horiz_ancestor ∷ m.vert_parent ∷ m.vert_ancestor ∷ m.left_fork_parent ∷ m.left_fork_ancestor ∷ m.right_fork_parent ∷ m.right_fork_ancestor
      ∷ m.left_merge_parent ∷ m.left_merge_ancestor ∷ m.right_merge_parent ∷ m.right_merge_ancestor ∷ m.child ∷ []

  -- a mark's bit is so many times the lowest one
  times : (b : Bool) (n : ℕ) → only b n ≡ only b 1 * n
  times true n = omega arith
  times false n = omega arith

  bits_are : (link_of m).bits ≡ bits_of by_bits
  bits_are =
      omega (
        arith,
        times m.horiz_ancestor 2,
        times m.vert_parent 4,
        times m.vert_ancestor 8,
        times m.left_fork_parent 16,
        times m.left_fork_ancestor 32,
        times m.right_fork_parent 64,
        times m.right_fork_ancestor 128,
        times m.left_merge_parent 256,
        times m.left_merge_ancestor 512,
        times m.right_merge_parent 1024,
        times m.right_merge_ancestor 2048,
        times m.child 4096,
      )

  -- a set of marks, given by its digits, is met where one of its marks is named
  told : (a : LinkLine) (ms : List Bool) → a.bits ≡ bits_of ms → meets (link_of m) a ≡ in_both by_bits ms
  told a ms e = ap₂ (λ (x y : ℕ). not (eqb (bit_and x y) 0)) bits_are e ∙ meets-lists by_bits ms

  pub horizontal-told : meets (link_of m) horizontal ≡ (m.horiz_parent || m.horiz_ancestor)
  horizontal-told = told horizontal (true ∷ true ∷ []) refl ∙ ap (λ (t : Bool). m.horiz_parent || t) (or-false m.horiz_ancestor)

  -- the mark behind n others
  abbrev single : ℕ → List Bool
  single zero = true ∷ []
  single (suc n) = false ∷ single n

  pub left-told : marks_in (link_of m) facing_left ≡ only m.left_fork_parent 1 + (only m.left_fork_ancestor 1 + (only m.left_merge_parent 1 + (only m.left_merge_ancestor 1 + 0)))
  left-told =
      rw (
        told left_fork_parent (single 4) refl ∙ or-false m.left_fork_parent,
        told left_fork_ancestor (single 5) refl ∙ or-false m.left_fork_ancestor,
        told left_merge_parent (single 8) refl ∙ or-false m.left_merge_parent,
        told left_merge_ancestor (single 9) refl ∙ or-false m.left_merge_ancestor,
      )

  pub right-told : marks_in (link_of m) facing_right ≡ only m.right_fork_parent 1 + (only m.right_fork_ancestor 1 + (only m.right_merge_parent 1 + (only m.right_merge_ancestor 1 + 0)))
  right-told =
      rw (
        told right_fork_parent (single 6) refl ∙ or-false m.right_fork_parent,
        told right_fork_ancestor (single 7) refl ∙ or-false m.right_fork_ancestor,
        told right_merge_parent (single 10) refl ∙ or-false m.right_merge_parent,
        told right_merge_ancestor (single 11) refl ∙ or-false m.right_merge_ancestor,
      )
