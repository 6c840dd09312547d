-- Laws of a line's measure in cells, for any bytes.
use mathlib.Core.Path.{◌≡◌, refl, sym, ap, ap₂, ◌∙◌}
use mathlib.Core.Bool.{Bool, true, false, cond, not, ◌&&◌, ◌||◌, and-true, and-false, and_assoc, false≢true}
use mathlib.Core.List.{List, [], ◌∷◌, ◌++◌, map, append_assoc, append-nil}
use Prim.Native.Nat.{ℕ, zero, suc, ◌+◌, ◌-◌, ◌<◌, ◌≤◌, max, zero-le}
use native.Mathlib.Nat.{le_of_suc-le-suc}
use native.Mathlib.Omega.{arith}
use lib.Dec.{eqb, ltb, leb}
use lib.ListN.{length, drop, get_or, replicate, drop_of_length-le}
use lib.Seq.{drop-cons, drop-drop, get_or-drop}
use borrow.Author.Tests.{ne_eqb, leb-true}
use Rattle.slices.specs.Characters.{blank}
use Rattle.message.specs.Message.{is_printable, all_of, trim_end}
use Rattle.message.proofs.MessageLaws.{trim-blanks}
use Rattle.output.specs.Inner.{among, behind94, behind95, begins_more}
use Rattle.output.specs.Measure.{box_characters, shifts, begins, opening, measure_from, measure_of}

-- ---- two tests at once
pub both : (a b : Bool) → a ≡ true → b ≡ true → (a && b) ≡ true
both true b e f = f
both false b e f = absurd (false≢true e)

pub left-true : (a b : Bool) → (a && b) ≡ true → a ≡ true
left-true true b z = refl
left-true false b z = z

pub right-true : (a b : Bool) → (a && b) ≡ true → b ≡ true
right-true true b z = z
right-true false b z = absurd (false≢true z)

-- ---- what three bytes begin with
-- byte strings of three bytes that begin alike, and others behind them
begin-alike : (x y : ℕ) (zs : List ℕ) (ss : List (List ℕ)) (a b c : ℕ)
    → opening (map (λ (z : ℕ). x ∷ y ∷ z ∷ []) zs ++ ss) (a ∷ b ∷ c ∷ []) ≡ cond (eqb a x && (eqb b y && among c zs)) 3 (opening ss (a ∷ b ∷ c ∷ []))
begin-alike x y [] ss a b c = sym (rw (and-false (eqb b y), and-false (eqb a x)) refl)
begin-alike x y (z ∷ zs) ss a b c =
    ap (cond (eqb a x && (eqb b y && (eqb c z && true))) 3) (begin-alike x y zs ss a b c) ∙ go (eqb a x) (eqb b y) (eqb c z) (among c zs)
  where
    go : (p q t u : Bool) → cond (p && (q && (t && true))) 3 (cond (p && (q && u)) 3 (opening ss (a ∷ b ∷ c ∷ [])))
        ≡ cond (p && (q && (t || u))) 3 (opening ss (a ∷ b ∷ c ∷ []))
    go true true true u = refl
    go true true false u = refl
    go true false t u = refl
    go false q t u = refl

pub box-opening : (a b c : ℕ) → opening box_characters (a ∷ b ∷ c ∷ [])
    ≡ cond (eqb a 0xc2 && eqb b 0xb7) 2 (cond ((eqb a 0xe2 && eqb b 0x94) && among c behind94) 3 (cond ((eqb a 0xe2 && eqb b 0x95) && among c behind95) 3 0))
box-opening a b c =
    ap (cond (eqb a 0xc2 && (eqb b 0xb7 && true)) 2)
    (begin-alike 0xe2 0x94 behind94 (map (λ (z : ℕ). 0xe2 ∷ 0x95 ∷ z ∷ []) behind95) a b c
    ∙ ap (cond (eqb a 0xe2 && (eqb b 0x94 && among c behind94)) 3) (begin-alike 0xe2 0x95 behind95 [] a b c))
    ∙ rw (and-true (eqb b 0xb7), and_assoc (eqb a 0xe2) (eqb b 0x94) (among c behind94), and_assoc (eqb a 0xe2) (eqb b 0x95) (among c behind95)) refl

pub shift-opening : (a b c : ℕ) → ltb 0 (opening shifts (a ∷ b ∷ c ∷ [])) ≡ ((eqb a 0x1b && eqb b 0x28) && (eqb c 0x30 || eqb c 0x42))
shift-opening a b c = go (eqb a 0x1b) (eqb b 0x28) (eqb c 0x30) (eqb c 0x42)
  where
    go : (p q t u : Bool) → ltb 0 (cond (p && (q && (t && true))) 3 (cond (p && (q && (u && true))) 3 0)) ≡ ((p && q) && (t || u))
    go true true true u = refl
    go true true false true = refl
    go true true false false = refl
    go true false t u = refl
    go false q t u = refl

-- a line begins with what its first three bytes begin with; a byte past the end reads as 0, which no character holds
box-window : (a : ℕ) (l : List ℕ) → opening box_characters (a ∷ l) ≡ opening box_characters (a ∷ get_or l 0 0 ∷ get_or l 1 0 ∷ [])
box-window a [] = refl
box-window a (b ∷ []) = refl
box-window a (b ∷ c ∷ l) = refl

shift-window : (a : ℕ) (l : List ℕ) → opening shifts (a ∷ l) ≡ opening shifts (a ∷ get_or l 0 0 ∷ get_or l 1 0 ∷ [])
shift-window a [] = refl
shift-window a (b ∷ []) = refl
shift-window a (b ∷ c ∷ l) = refl

-- ---- bytes that are counted already
passed : (k : ℕ) (l : List ℕ) → measure_from k l ≡ measure_from 0 (drop k l)
passed zero l = refl
passed (suc k) [] = refl
passed (suc k) (b ∷ l) = passed k l

-- ---- a byte with which no box character and no shift sequence begins is one cell
or-left : (a b : Bool) → (a || b) ≡ false → a ≡ false
or-left true b z = absurd (false≢true (sym z))
or-left false b z = refl

or-right : (a b : Bool) → (a || b) ≡ false → b ≡ false
or-right true b z = absurd (false≢true (sym z))
or-right false b z = z

plain-first : (a : ℕ) (l : List ℕ) → begins_more a ≡ false → measure_from 0 (a ∷ l) ≡ suc (measure_from 0 l)
plain-first a l e =
    let r : (eqb a 0xc2 || eqb a 0xe2) ≡ false = or-right (eqb a 0x1b) (eqb a 0xc2 || eqb a 0xe2) e in
    rw (or-left (eqb a 0x1b) (eqb a 0xc2 || eqb a 0xe2) e, or-left (eqb a 0xc2) (eqb a 0xe2) r, or-right (eqb a 0xc2) (eqb a 0xe2) r) refl

pub over_plain : (s : List ℕ) (i n : ℕ) → measure_of s ≡ n + measure_from 0 (drop i s) → i < length s → begins_more (get_or s i 0) ≡ false
    → measure_of s ≡ n + 1 + measure_from 0 (drop (i + 1) s)
over_plain s i n e h p =
    let z : suc i ≡ i + 1 = omega arith in
    let k : measure_from 0 (drop i s) ≡ suc (measure_from 0 (drop (i + 1) s))
    = ap (measure_from 0) (drop-cons s i 0 h) ∙ plain-first (get_or s i 0) (drop (suc i) s) p ∙ ap (λ (j : ℕ). suc (measure_from 0 (drop j s))) z in
    omega (arith, e, k)

-- ---- a line's cells one by one: n cells of it are counted, and its bytes from i on are left; b and c stand behind the first of them
module _ (s : List ℕ) (i n : ℕ) (e : measure_of s ≡ n + measure_from 0 (drop i s)) (h : i < length s) {b c : ℕ} (eb : b ≡ get_or s (i + 1) 0) (ec : c ≡ get_or s (i + 2) 0) where
  abbrev a : ℕ
  a = get_or s i 0

  next-bytes : (ss : List (List ℕ)) → ((x : ℕ) (l : List ℕ) → opening ss (x ∷ l) ≡ opening ss (x ∷ get_or l 0 0 ∷ get_or l 1 0 ∷ []))
      → opening ss (a ∷ drop (suc i) s) ≡ opening ss (a ∷ b ∷ c ∷ [])
  next-bytes ss w =
      let p : suc i + 0 ≡ i + 1 = omega arith in
      let q : suc i + 1 ≡ i + 2 = omega arith in
      w a (drop (suc i) s)
      ∙ ap₂ (λ (y z : ℕ). opening ss (a ∷ y ∷ z ∷ []))
      (get_or-drop (suc i) s 0 0 ∙ ap (λ (k : ℕ). get_or s k 0) p ∙ sym eb) (get_or-drop (suc i) s 1 0 ∙ ap (λ (k : ℕ). get_or s k 0) q ∙ sym ec)

  left : (k : ℕ) → measure_from k (drop (suc i) s) ≡ measure_from 0 (drop (i + suc k) s)
  left k =
      let z : suc i + k ≡ i + suc k = omega arith in
      passed k (drop (suc i) s) ∙ ap (measure_from 0) (drop-drop k (suc i) s ∙ ap (λ (j : ℕ). drop j s) z)

  module _ {t : Bool} (shifted : t ≡ ltb 0 (opening shifts (a ∷ b ∷ c ∷ []))) where
    this : measure_from 0 (drop i s) ≡ cond t (measure_from 0 (drop (i + 3) s)) (suc (measure_from (opening box_characters (a ∷ b ∷ c ∷ []) - 1) (drop (suc i) s)))
    this = rw (drop-cons s i 0 h, next-bytes shifts shift-window, next-bytes box_characters box-window, ← shifted, left 2) refl

    pub over-shift : t ≡ true → measure_of s ≡ n + measure_from 0 (drop (i + 3) s)
    over-shift z = e ∙ ap (◌+◌ n) (this ∙ rw z refl)

    pub over-cell : t ≡ false → (m : ℕ) → m ≡ max (opening box_characters (a ∷ b ∷ c ∷ [])) 1 → measure_of s ≡ n + 1 + measure_from 0 (drop (i + m) s)
    over-cell z m f =
        let k : ℕ = opening box_characters (a ∷ b ∷ c ∷ []) in
        let w : suc (k - 1) ≡ m = omega arith in
        let r : measure_from 0 (drop i s) ≡ suc (measure_from 0 (drop (i + m) s)) = this ∙ rw (z, left (k - 1), w) refl in
        omega (arith, e, r)

pub all-counted : (s : List ℕ) (i n : ℕ) → measure_of s ≡ n + measure_from 0 (drop i s) → length s ≤ i → n ≡ measure_of s
all-counted s i n e h =
    let z : measure_from 0 (drop i s) ≡ 0 = ap (measure_from 0) (drop_of_length-le s {i = i} h) in
    omega (arith, e, z)

-- a line has no more cells than bytes
from-short : (k : ℕ) (l : List ℕ) → measure_from k l ≤ length l
from-short k [] = zero-le
from-short (suc k) (b ∷ l) = omega (arith, from-short k l)
from-short zero (b ∷ l) = go (ltb 0 (opening shifts (b ∷ l))) (from-short 2 l) (from-short (opening box_characters (b ∷ l) - 1) l)
  where
    go : (t : Bool) {m n : ℕ} → m ≤ length l → n ≤ length l → cond t m (suc n) ≤ suc (length l)
    go true h k = omega (arith, h)
    go false h k = omega (arith, k)

pub measure-short : (l : List ℕ) → measure_of l ≤ length l
unfolding measure_of
measure-short l = from-short 0 l

-- ---- printable bytes are one cell each, whatever stands behind them
printable-within : (b : ℕ) → is_printable b ≡ true → (0x20 ≤ b) × (b ≤ 0x7e)
printable-within b e = (leb-true 0x20 b (left-true (leb 0x20 b) (leb b 0x7e) e), leb-true b 0x7e (right-true (leb 0x20 b) (leb b 0x7e) e))

-- bytes that measure so much whatever stands behind them
abbrev pub Spans : ℕ → List ℕ → Type 0
Spans n s = (l : List ℕ) → measure_of (s ++ l) ≡ n + measure_of l

pub printable-one : (b : ℕ) → is_printable b ≡ true → Spans 1 (b ∷ [])
unfolding measure_of
printable-one b e l =
    let (h, k) = printable-within b e in
    let p : begins_more b ≡ false = rw (
      ne_eqb b 0x1b (λ (z : b ≡ 0x1b). omega (arith, h, z)),
      ne_eqb b 0xc2 (λ (z : b ≡ 0xc2). omega (arith, k, z)),
      ne_eqb b 0xe2 (λ (z : b ≡ 0xe2). omega (arith, k, z)),
    ) refl in
    plain-first b l p ∙ omega arith

pub spans-none : Spans 0 []
spans-none l = omega arith

pub spans-both : (m n : ℕ) (s t : List ℕ) → Spans m s → Spans n t → Spans (m + n) (s ++ t)
spans-both m n s t p q l = ap measure_of (append_assoc s t l) ∙ p (t ++ l) ∙ omega (arith, q l)

pub printable-spans : (s : List ℕ) → all_of is_printable s ≡ true → Spans (length s) s
printable-spans [] e = spans-none
printable-spans (b ∷ s) e = go (is_printable b) refl e (printable-spans s)
  where
    go : (t : Bool) → is_printable b ≡ t → (t && all_of is_printable s) ≡ true → (all_of is_printable s ≡ true → Spans (length s) s) → Spans (suc (length s)) (b ∷ s)
    go true f z k l = printable-one b f (s ++ l) ∙ omega (arith, k z l)
    go false f z k l = absurd (false≢true z)

-- bytes that measure so much whatever stands behind them do so by themselves
pub spans-alone : (n : ℕ) (s : List ℕ) → Spans n s → measure_of s ≡ n
unfolding measure_of
spans-alone n s p = ap (measure_from 0) (sym (append-nil s)) ∙ p [] ∙ omega arith

-- ---- no box character and no shift sequence goes across a blank
-- whether bytes hold no blank
abbrev solid : List ℕ → Bool
solid s = all_of (λ (b : ℕ). not (eqb blank b)) s

abbrev solids : List (List ℕ) → Bool
solids [] = true
solids (s ∷ ss) = solid s && solids ss

begins-blank : (s l r : List ℕ) → solid s ≡ true → begins s (l ++ (blank ∷ r)) ≡ begins s l
begins-blank [] l r e = refl
begins-blank (b ∷ bs) [] r e = go (eqb blank b) e
  where
    go : (t : Bool) → (not t && solid bs) ≡ true → (t && begins bs r) ≡ false
    go true z = absurd (false≢true z)
    go false z = refl
begins-blank (b ∷ bs) (x ∷ l) r e = ap (λ (t : Bool). eqb x b && t) (begins-blank bs l r (right-true (not (eqb blank b)) (solid bs) e))

-- so a line begins with the same one where a blank stands behind it
opening-blank : (ss : List (List ℕ)) (l r : List ℕ) → solids ss ≡ true → opening ss (l ++ (blank ∷ r)) ≡ opening ss l
opening-blank [] l r e = refl
opening-blank (s ∷ ss) l r e =
    ap₂ (λ (t : Bool) (n : ℕ). cond t (length s) n) (begins-blank s l r (left-true (solid s) (solids ss) e)) (opening-blank ss l r (right-true (solid s) (solids ss) e))

-- and what a line begins with is no longer than the line
begins-short : (s l : List ℕ) → begins s l ≡ true → length s ≤ length l
begins-short [] l e = zero-le
begins-short (b ∷ bs) [] e = absurd (false≢true e)
begins-short (b ∷ bs) (x ∷ l) e = omega (arith, begins-short bs l (right-true (eqb x b) (begins bs l) e))

opening-short : (ss : List (List ℕ)) (l : List ℕ) → opening ss l ≤ length l
opening-short [] l = zero-le
opening-short (s ∷ ss) l = go (begins s l) refl (opening-short ss l)
  where
    go : (t : Bool) → begins s l ≡ t → opening ss l ≤ length l → cond t (length s) (opening ss l) ≤ length l
    go true e h = begins-short s l e
    go false e h = h

-- from one to three bytes are a cell
pub cell-short : (a b c : ℕ) {m : ℕ} → m ≡ max (opening box_characters (a ∷ b ∷ c ∷ [])) 1 → (0 < m) × (m ≤ 3)
cell-short a b c f = (omega (arith, f), omega (arith, f, opening-short box_characters (a ∷ b ∷ c ∷ [])))

-- a shift sequence has three bytes
shift-three : (l : List ℕ) → ltb 0 (opening shifts l) ≡ true → ◌≡◌ {A = ℕ} (opening shifts l) 3
shift-three l e = go (begins (0x1b ∷ 0x28 ∷ 0x30 ∷ []) l) (begins (0x1b ∷ 0x28 ∷ 0x42 ∷ []) l) e
  where
    go : (p q : Bool) → ltb 0 (cond p 3 (cond q 3 0)) ≡ true → ◌≡◌ {A = ℕ} (cond p 3 (cond q 3 0)) 3
    go true q z = refl
    go false true z = refl
    go false false z = absurd (false≢true z)

from-blank : (l r : List ℕ) (k : ℕ) → k ≤ length l → measure_from k (l ++ (blank ∷ r)) ≡ measure_from k l + suc (measure_from 0 r)
from-blank [] r zero h = omega arith
from-blank [] r (suc k) h = absurd (omega (arith, h))
from-blank (b ∷ l) r (suc k) h = from-blank l r k (le_of_suc-le-suc h)
from-blank (b ∷ l) r zero h =
    rw (opening-blank shifts (b ∷ l) r refl, opening-blank box_characters (b ∷ l) r refl)
    (go (ltb 0 (opening shifts (b ∷ l))) refl (from-blank l r 2) (from-blank l r (opening box_characters (b ∷ l) - 1) (omega (arith, opening-short box_characters (b ∷ l)))))
  where
    go : (t : Bool) → ltb 0 (opening shifts (b ∷ l)) ≡ t
        → (2 ≤ length l → measure_from 2 (l ++ (blank ∷ r)) ≡ measure_from 2 l + suc (measure_from 0 r))
        → measure_from (opening box_characters (b ∷ l) - 1) (l ++ (blank ∷ r)) ≡ measure_from (opening box_characters (b ∷ l) - 1) l + suc (measure_from 0 r)
        → cond t (measure_from 2 (l ++ (blank ∷ r))) (suc (measure_from (opening box_characters (b ∷ l) - 1) (l ++ (blank ∷ r))))
        ≡ cond t (measure_from 2 l) (suc (measure_from (opening box_characters (b ∷ l) - 1) l)) + suc (measure_from 0 r)
    go true e p q = p (omega (arith, shift-three (b ∷ l) e, opening-short shifts (b ∷ l)))
    go false e p q = omega (arith, q)

-- a line with a blank in it measures what stands before it, one, and what stands behind it
pub across-blank : (l r : List ℕ) → measure_of (l ++ (blank ∷ r)) ≡ measure_of l + 1 + measure_of r
unfolding measure_of
across-blank l r = omega (arith, from-blank l r 0 zero-le)

-- ---- blanks at a line's end are as many cells as bytes
only-blanks : (n : ℕ) → measure_of (replicate n blank) ≡ n
unfolding measure_of
only-blanks zero = refl
only-blanks (suc n) = omega (arith, only-blanks n)

pub blanks-behind : (l : List ℕ) (n : ℕ) → measure_of (l ++ replicate n blank) ≡ measure_of l + n
blanks-behind l zero = ap measure_of (append-nil l) ∙ omega arith
blanks-behind l (suc n) = across-blank l (replicate n blank) ∙ omega (arith, only-blanks n)

-- so trimming takes as many cells as bytes
pub trim-measure : (l : List ℕ) → measure_of (trim_end l) ≡ measure_of l - (length l - length (trim_end l))
trim-measure l =
    let k : ℕ = length l - length (trim_end l) in
    omega (arith, ap measure_of (trim-blanks l), blanks-behind (trim_end l) k)
