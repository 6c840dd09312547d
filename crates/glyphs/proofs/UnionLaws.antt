-- The unions of marks that box_drawing.rs asks for, told by the nine facts of a link cell: so its chain of tests is one over the facts.
use mathlib.Core.Path.{◌≡◌, refl, sym, ap, ap₂, ◌∙◌}
use mathlib.Core.Bool.{Bool, true, false, not, ◌&&◌, ◌||◌}
use Prim.Native.Nat.{ℕ, ◌*◌, ◌/◌, ◌%◌, ◌+◌, ◌<◌, min, max}
use native.Mathlib.Nat.{mod-lt}
use native.Mathlib.Omega.{arith}
use lib.Arith.{bin_ind, digits_mod}
use lib.Bits.{bit_and, bit_or, and_step, or_step, or_shr, and_shr, or_add_and, and_le_l, and_le_r, and_comm}
use lib.Dec.{eqb, lit<}
use borrow.Author.Tests.{eq-eqb, eqb-true, eqb-false, ne_eqb}
use Rattle.render.specs.declared.render.LinkLine.{LinkLine}
use Rattle.render.specs.Link.{meets, joined}
use Rattle.glyphs.specs.BoxDrawing.{Facts, facts_of, any_fork, any_merge}
use Rattle.glyphs.specs.Marks as marks

-- ---- a set of marks meets a union exactly if it meets a part of it
low : (a : ℕ) → a % 2 < 2
low a = mod-lt a (lit< tt)

or-low : (a b : ℕ) → bit_or a b % 2 ≡ max (a % 2) (b % 2)
or-low a b =
    let ha : a % 2 < 2 = low a in
    let hb : b % 2 < 2 = low b in
    rw (or_step a b) (digits_mod (bit_or (a / 2) (b / 2)) (omega arith))

and_low : (a b : ℕ) → bit_and a b % 2 ≡ min (a % 2) (b % 2)
and_low a b =
    let ha : a % 2 < 2 = low a in
    let hb : b % 2 < 2 = low b in
    rw (and_step a b) (digits_mod (bit_and (a / 2) (b / 2)) (omega arith))

min-max : (x y z : ℕ) → min (max x y) z ≡ max (min x z) (min y z)
min-max x y z = omega arith

and-or : (a b c : ℕ) → bit_and (bit_or a b) c ≡ bit_or (bit_and a c) (bit_and b c)
and-or a =
    bin_ind (λ (n : ℕ). (b c : ℕ) → bit_and (bit_or n b) c ≡ bit_or (bit_and n c) (bit_and b c)) (λ b c. refl)
    (λ n ih b c.
    and_step (bit_or n b) c
    ∙ ap₂ (λ (x y : ℕ). x * 2 + y)
    (ap (λ (x : ℕ). bit_and x (c / 2)) (or_shr n b 1) ∙ ih (b / 2) (c / 2) ∙ ap₂ bit_or (sym (and_shr n c 1)) (sym (and_shr b c 1)))
    (ap (λ (x : ℕ). min x (c % 2)) (or-low n b) ∙ min-max (n % 2) (b % 2) (c % 2) ∙ ap₂ max (sym (and_low n c)) (sym (and_low b c)))
    ∙ sym (or_step (bit_and n c) (bit_and b c))) a

none-in-both : (x y : ℕ) → eqb (bit_or x y) 0 ≡ (eqb x 0 && eqb y 0)
none-in-both x y = go (eqb x 0) (eqb y 0) refl refl
  where
    go : (p q : Bool) → eqb x 0 ≡ p → eqb y 0 ≡ q → eqb (bit_or x y) 0 ≡ (p && q)
    go true true e f = eq-eqb (bit_or x y) 0 (omega (arith, or_add_and x y, eqb-true x 0 e, eqb-true y 0 f))
    go true false e f = ne_eqb (bit_or x y) 0 (λ z. eqb-false y 0 f (omega (arith, or_add_and x y, and_le_l x y)))
    go false q e f = ne_eqb (bit_or x y) 0 (λ z. eqb-false x 0 e (omega (arith, or_add_and x y, and_le_r x y)))

not-and : (p q : Bool) → not (p && q) ≡ (not p || not q)
not-and true q = refl
not-and false q = refl

meets-union : (cur a b : LinkLine) → meets cur (joined a b) ≡ (meets cur a || meets cur b)
meets-union cur a b =
    ap (λ (n : ℕ). not (eqb n 0))
    (and_comm cur.bits (bit_or a.bits b.bits) ∙ and-or a.bits b.bits cur.bits
    ∙ ap₂ bit_or (and_comm a.bits cur.bits) (and_comm b.bits cur.bits))
    ∙ ap not (none-in-both (bit_and cur.bits a.bits) (bit_and cur.bits b.bits))
    ∙ not-and (eqb (bit_and cur.bits a.bits) 0) (eqb (bit_and cur.bits b.bits) 0)

-- ---- each union of box_drawing.rs
module _ (merge : Bool) (cur : LinkLine) where
  abbrev facts : Facts
  facts = facts_of merge cur

  pub any-fork-told : meets cur marks.any_fork ≡ any_fork facts
  any-fork-told = meets-union cur marks.left_fork marks.right_fork

  pub any-merge-told : meets cur marks.any_merge ≡ any_merge facts
  any-merge-told = meets-union cur marks.left_merge marks.right_merge

  pub vertical-told : meets cur marks.vertical ≡ (facts.vert_parent || facts.vert_ancestor)
  vertical-told = meets-union cur marks.vert_parent marks.vert_ancestor

  pub left-told : meets cur (joined marks.left_merge marks.left_fork) ≡ (facts.left_merge || facts.left_fork)
  left-told = meets-union cur marks.left_merge marks.left_fork

  pub right-told : meets cur (joined marks.right_merge marks.right_fork) ≡ (facts.right_merge || facts.right_fork)
  right-told = meets-union cur marks.right_merge marks.right_fork

  pub left-merge-or-child-told : meets cur (joined marks.left_merge marks.child) ≡ (facts.left_merge || facts.child)
  left-merge-or-child-told = meets-union cur marks.left_merge marks.child

  pub right-merge-or-child-told : meets cur (joined marks.right_merge marks.child) ≡ (facts.right_merge || facts.child)
  right-merge-or-child-told = meets-union cur marks.right_merge marks.child
