-- From how far a row's columns reach to R-9: the cells between the outermost ones are crossed, and each column's cell and the node's face each other.
use Prim.Native.Nat.{ℕ, ◌≤◌, ◌<◌}
use mathlib.Core.Path.{◌≡◌, refl, sym, ◌∙◌, ap}
use mathlib.Core.Logic.{◌≢◌, ◌↔◌, ◌⊎◌, inl, inr}
use mathlib.Core.Bool.{Bool, true, false, cond, not, ◌&&◌, false≢true}
use native.Mathlib.Omega.{arith}
use native.Mathlib.Decide.{dec_lt}
use borrow.Author.Tests.{eqb-true, eqb-false, ltb-true, lt-ltb, eq-eqb, ne_eqb}
use lib.Dec.{eqb, ltb}
use Rattle.render.specs.declared.render.LinkLine.{LinkLine}
use Rattle.render.specs.Link.{meets, only}
use Rattle.glyphs.specs.Marks.{horizontal}
use Rattle.no_gap.specs.NoGap.{Between, Ends, marks_in, facing_left, facing_right, NoGap, Unlinked}

-- a column that passes a test
abbrev pub Is : (ℕ → Bool) → ℕ → Type 0
Is is t = is t ≡ true

-- the columns that are reached, with the node's, c, lie from a to b, and both of these are such columns
pub record Span (is : ℕ → Bool) (c a b : ℕ) : Type 0 where
  pub low : (t : ℕ) → is t ≡ true → a ≤ t
  pub high : (t : ℕ) → is t ≡ true → t ≤ b
  pub left : a ≤ c
  pub right : c ≤ b
  pub first : (a ≡ c) ⊎ (is a ≡ true)
  pub last : (b ≡ c) ⊎ (is b ≡ true)

-- the marks of each cell, by the columns that are reached and the outermost of them
pub record Marked (marks : ℕ → LinkLine) (is : ℕ → Bool) (c a b : ℕ) : Type 0 where
  pub level : (i : ℕ) → meets (marks i) horizontal ≡ (not (eqb i c) && (ltb a i && ltb i b))
  pub facing-left : (i : ℕ) → marks_in (marks i) facing_left ≡ only (cond (eqb i c) (ltb a c) (ltb c i && is i)) 1
  pub facing-right : (i : ℕ) → marks_in (marks i) facing_right ≡ only (cond (eqb i c) (ltb c b) (ltb i c && is i)) 1

three : (x y z : Bool) → (not x && (y && z)) ≡ true → (x ≡ false) × (y ≡ true) × (z ≡ true)
three true y z e = absurd (false≢true e)
three false false z e = absurd (false≢true e)
three false true false e = absurd (false≢true e)
three false true true e = (refl, refl, refl)

module _ (marks : ℕ → LinkLine) (is : ℕ → Bool) (c a b : ℕ) (S : Span is c a b) (D : Marked marks is c a b) where
  -- an outermost column that is not the node's is reached
  outermost : (t : ℕ) → (t ≡ c) ⊎ (is t ≡ true) → t ≢ c → is t ≡ true
  outermost t (inl e) n = absurd (n e)
  outermost t (inr e) n = e

  crossed : (i : ℕ) → a < i → i < b → i ≢ c → (t : ℕ) × Is is t × Between c i t
  crossed i l r n = go (dec_lt i c)
    where
      go : Dec (i < c) → (t : ℕ) × Is is t × Between c i t
      go (yes h) = (a, outermost a S.first (λ z. omega arith), inr (omega arith, omega arith))
      go (no h) = (b, outermost b S.last (λ z. omega (arith, n)), inl (omega (arith, n), omega arith))

  between : (i t : ℕ) → is t ≡ true → Between c i t → (i ≢ c) × (a < i) × (i < b)
  between i t e (inl h) = (λ z. omega (arith, h.0), omega (arith, S.left, h.0), omega (arith, S.high t e, h.1))
  between i t e (inr h) = (λ z. omega (arith, h.1), omega (arith, S.low t e, h.0), omega (arith, S.right, h.1))

  across : (i : ℕ) → meets (marks i) horizontal ≡ true ↔ ((t : ℕ) × Is is t × Between c i t)
  across i = (
    λ h. let z = three (eqb i c) (ltb a i) (ltb i b) (sym (D.level i) ∙ h) in crossed i (ltb-true a i z.1) (ltb-true i b z.2) (eqb-false i c z.0),
    λ p. let z = between i p.0 p.1 p.2 in D.level i ∙ rw (ne_eqb i c z.0, lt-ltb a i z.1, lt-ltb i b z.2),
  )

  -- a cell has no such mark where neither the node's cell nor that of a column that is reached has one
  faceless : (i : ℕ) (far beside : Bool) → (i ≡ c → far ≡ true → ⊥) → (beside ≡ true → is i ≡ true → ⊥) → only (cond (eqb i c) far (beside && is i)) 1 ≡ 0
  faceless i far beside n m = go (eqb i c) refl far refl beside refl (is i) refl
    where
      go : (x : Bool) → eqb i c ≡ x → (y : Bool) → far ≡ y → (z : Bool) → beside ≡ z → (w : Bool) → is i ≡ w → only (cond x y (z && w)) 1 ≡ 0
      go true e true f z g w h = absurd (n (eqb-true i c e) f)
      go true e false f z g w h = refl
      go false e y f true g true h = absurd (m g h)
      go false e y f true g false h = refl
      go false e y f false g w h = refl

  none_left : (i : ℕ) → ((j : ℕ) → Ends c (Is is) i j → j < i → ⊥) → marks_in (marks i) facing_left ≡ 0
  none_left i n = D.facing-left i ∙ faceless i (ltb a c) (ltb c i) at-node (λ g h. n c (inl (h, refl)) (ltb-true c i g))
    where
      at-node : i ≡ c → ltb a c ≡ true → ⊥
      at-node e f = n a (inr (e, outermost a S.first (λ z. omega (arith, ltb-true a c f)))) (omega (arith, ltb-true a c f))

  none_right : (i : ℕ) → ((j : ℕ) → Ends c (Is is) i j → i < j → ⊥) → marks_in (marks i) facing_right ≡ 0
  none_right i n = D.facing-right i ∙ faceless i (ltb c b) (ltb i c) at-node (λ g h. n c (inl (h, refl)) (ltb-true i c g))
    where
      at-node : i ≡ c → ltb c b ≡ true → ⊥
      at-node e f = n b (inr (e, outermost b S.last (λ z. omega (arith, ltb-true c b f)))) (omega (arith, ltb-true c b f))

  faces-left : (i j : ℕ) → Ends c (Is is) i j → j < i → marks_in (marks i) facing_left ≡ 1
  faces-left i j (inl h) l =
      let g : c < i = omega (arith, h.1) in
      D.facing-left i ∙ rw (ne_eqb i c (λ z. omega arith), lt-ltb c i g, h.0)
  faces-left i j (inr h) l = D.facing-left i ∙ rw (eq-eqb i c h.0, lt-ltb a c (omega (arith, h.0, S.low j h.1)))

  faces-right : (i j : ℕ) → Ends c (Is is) i j → i < j → marks_in (marks i) facing_right ≡ 1
  faces-right i j (inl h) l =
      let g : i < c = omega (arith, h.1) in
      D.facing-right i ∙ rw (ne_eqb i c (λ z. omega arith), lt-ltb i c g, h.0)
  faces-right i j (inr h) l = D.facing-right i ∙ rw (eq-eqb i c h.0, lt-ltb c b (omega (arith, h.0, S.high j h.1)))

  pub no_gap : NoGap marks c (Is is)
  no_gap = record { across = across; left = faces-left; right = faces-right; no_left = none_left; no_right = none_right }

-- no column is reached but the node's own, and there are no marks
pub no-gap-straight : (marks : ℕ → LinkLine) (c : ℕ) (R : ℕ → Type 0) → Unlinked marks c R → NoGap marks c R
no-gap-straight marks c R U =
    record {
      across = λ i. (λ h. absurd (false≢true (sym (ap (λ (m : LinkLine). meets m horizontal) (U.unmarked i)) ∙ h)), λ p. absurd (nowhere i p.0 (U.straight p.0 p.1) p.2));
      left = λ i j e l. absurd (omega (arith, alone i j e));
      right = λ i j e l. absurd (omega (arith, alone i j e));
      no_left = λ i n. ap (λ (m : LinkLine). marks_in m facing_left) (U.unmarked i);
      no_right = λ i n. ap (λ (m : LinkLine). marks_in m facing_right) (U.unmarked i);
    }
  where
    nowhere : (i t : ℕ) → t ≡ c → Between c i t → ⊥
    nowhere i t e (inl h) = omega (arith, h.0, h.1)
    nowhere i t e (inr h) = omega (arith, h.0, h.1)

    alone : (i j : ℕ) → Ends c R i j → i ≡ j
    alone i j (inl h) = U.straight i h.0 ∙ sym h.1
    alone i j (inr h) = h.0 ∙ sym (U.straight j h.1)

-- the same columns, said otherwise
pub no-gap-same : (marks : ℕ → LinkLine) (c : ℕ) (R T : ℕ → Type 0) → ((t : ℕ) → R t ↔ T t) → NoGap marks c R → NoGap marks c T
no-gap-same marks c R T s N =
    record {
      across = λ i. (λ h. let p = (N.across i).0 h in (p.0, (s p.0).0 p.1, p.2), λ p. (N.across i).1 (p.0, (s p.0).1 p.1, p.2));
      left = λ i j e l. N.left i j (back i j e) l;
      right = λ i j e l. N.right i j (back i j e) l;
      no_left = λ i n. N.no_left i (λ j e l. n j (forth i j e) l);
      no_right = λ i n. N.no_right i (λ j e l. n j (forth i j e) l);
    }
  where
    forth : (i j : ℕ) → Ends c R i j → Ends c T i j
    forth i j (inl h) = inl ((s i).0 h.0, h.1)
    forth i j (inr h) = inr (h.0, (s j).0 h.1)

    back : (i j : ℕ) → Ends c T i j → Ends c R i j
    back i j (inl h) = inl ((s i).1 h.0, h.1)
    back i j (inr h) = inr (h.0, (s j).1 h.1)

-- the node's own cell is not HORIZONTAL
pub node-not-crossed : (marks : ℕ → LinkLine) (c : ℕ) (R : ℕ → Type 0) → NoGap marks c R → meets (marks c) horizontal ≡ false
node-not-crossed marks c R N = go (meets (marks c) horizontal) refl
  where
    beside : (t : ℕ) → Between c c t → ⊥
    beside t (inl h) = omega (arith, h.0)
    beside t (inr h) = omega (arith, h.1)

    go : (x : Bool) → meets (marks c) horizontal ≡ x → x ≡ false
    go true e = let p = (N.across c).0 e in absurd (beside p.0 p.2)
    go false e = refl
