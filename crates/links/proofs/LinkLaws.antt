-- Laws of the definitions in specs/Links.antt: how far the entries' columns reach.
use Prim.Native.Nat.{ℕ, zero, suc, ◌+◌, ◌≤◌, ◌<◌, min, max}
use mathlib.Core.Path.{◌≡◌, refl, ap, ◌∙◌, sym}
use mathlib.Core.Logic.{◌⊎◌, inl, inr}
use mathlib.Core.Bool.{Bool, true, false, cond, ◌&&◌}
use borrow.Author.Tests.{ne_eqb, le-ltb}
use mathlib.Core.List.{List, [], ◌∷◌}
use native.Mathlib.Numerals.{add-one}
use native.Mathlib.Omega.{arith}
use native.Mathlib.Decide.{dec_lt}
use lib.ListN.{length, get_or, take, drop, drop_of_length-le}
use lib.Seq.{drop-cons, get_or-take}
use lib.Dec.{ltb, eqb}
use Rattle.render.specs.Link.{strokes}
use Rattle.std.proofs.lemmas.List.{take_min}
use Rattle.links.specs.declared.Drawn.{Drawn}
use Rattle.links.specs.declared.Drawn.TheVariants.{Nobody, Indirect, Direct, Anonymous}
use Rattle.links.specs.declared.Swap.{Swap}
use Rattle.links.specs.declared.AncestorColumnBounds.{AncestorColumnBounds}
use Rattle.links.specs.Links.{is_drawn, is_directly_drawn, found_as, is_at, leftmost, rightmost, bounds_of, passes_solid, passes_dashed, from_node}
use Rattle.links.specs.Inner.{kind_at, kinds, reaching, reach_start, reach_last}
use Rattle.column.specs.Found.{Found}
use Rattle.std.specs.Prelude.{Some, None, unwrap_or}

-- a kind that is none is nobody
pub not-drawn : (d : Drawn) → is_drawn d ≡ false → d ≡ Nobody
not-drawn Nobody h = refl
not-drawn Indirect h = let z : ◌≡◌ {A = ℕ} 0 1 = cc in absurd (omega arith)
not-drawn Direct h = let z : ◌≡◌ {A = ℕ} 0 1 = cc in absurd (omega arith)
not-drawn Anonymous h = let z : ◌≡◌ {A = ℕ} 0 1 = cc in absurd (omega arith)

min_assoc : (x y z : ℕ) → min (min x y) z ≡ min x (min y z)
min_assoc x y z = omega arith

max_assoc : (x y z : ℕ) → max (max x y) z ≡ max x (max y z)
max_assoc x y z = omega arith

pub leftmost-within : (t : Drawn → Bool) (ds : List Drawn) (i c : ℕ) → min c (leftmost t ds i c) ≡ leftmost t ds i c
leftmost-within t [] i c = omega arith
leftmost-within t (m ∷ ds) i c = omega (arith, leftmost-within t ds (suc i) c)

pub rightmost-within : (t : Drawn → Bool) (ds : List Drawn) (i c : ℕ) → max c (rightmost t ds i c) ≡ rightmost t ds i c
rightmost-within t [] i c = omega arith
rightmost-within t (m ∷ ds) i c = omega (arith, rightmost-within t ds (suc i) c)

-- the bounds once those columns are walked too, the first of them at i
abbrev closed : AncestorColumnBounds → List Drawn → ℕ → AncestorColumnBounds
closed b ds i =
    record {
      target = b.target;
      min_ancestor = min b.min_ancestor (leftmost is_drawn ds i b.target);
      min_parent = min b.min_parent (leftmost is_directly_drawn ds i b.target);
      max_parent = max b.max_parent (rightmost is_directly_drawn ds i b.target);
      max_ancestor = max b.max_ancestor (rightmost is_drawn ds i b.target);
    }

closed-turn : (b : AncestorColumnBounds) (m : Drawn) (ds : List Drawn) (i : ℕ) → closed (reaching b i m) ds (suc i) ≡ closed b (m ∷ ds) i
closed-turn b m ds i = simp (min_assoc, max_assoc)

passed-by : (b : AncestorColumnBounds) (ds : List Drawn) (i : ℕ) → closed b (Nobody ∷ ds) i ≡ closed b ds (suc i)
passed-by b ds i =
    rw (leftmost-within is_drawn ds (suc i) b.target, leftmost-within is_directly_drawn ds (suc i) b.target, rightmost-within is_directly_drawn ds (suc i) b.target, rightmost-within is_drawn ds (suc i) b.target)

-- what the walk over the parents' columns keeps: b is the bounds once i columns are walked
pub record Bounding (ds : List Drawn) (target i : ℕ) (b : AncestorColumnBounds) : Type 0 where
  pub node : b.target ≡ target
  pub left : b.min_ancestor ≤ target
  pub left-direct : b.min_parent ≤ target
  pub right-direct : target ≤ b.max_parent
  pub right : target ≤ b.max_ancestor
  pub rest : closed b (drop i ds) i ≡ bounds_of ds target

module _ (ds : List Drawn) (target : ℕ) where
  abbrev pub nowhere : AncestorColumnBounds
  nowhere = record { target = target; min_ancestor = target; min_parent = target; max_parent = target; max_ancestor = target }

  pub bounding-start : Bounding ds target 0 nowhere
  bounding-start =
      record {
        node = refl;
        left = omega arith;
        left-direct = omega arith;
        right-direct = omega arith;
        right = omega arith;
        rest =
            rw (leftmost-within is_drawn ds 0 target, leftmost-within is_directly_drawn ds 0 target, rightmost-within is_directly_drawn ds 0 target, rightmost-within is_drawn ds 0 target);
      }

  pub bounding-next : (i : ℕ) (b r : AncestorColumnBounds) (m : Drawn) → i < length ds → m ≡ get_or ds i Nobody → r ≡ reaching b i m
      → Bounding ds target i b → Bounding ds target (i + 1) r
  bounding-next i b r m h e q g =
      let n : (reaching b i m).target ≡ target = g.node in
      let d : drop i ds ≡ m ∷ drop (suc i) ds = rw e (drop-cons ds i Nobody h) in
      rw q
      (record {
        node = n;
        left = omega (arith, g.left);
        left-direct = omega (arith, g.left-direct);
        right-direct = omega (arith, g.right-direct);
        right = omega (arith, g.right);
        rest = rw add-one (closed-turn b m (drop (suc i) ds) i ∙ ap (λ (l : List Drawn). closed b l i) (sym d) ∙ g.rest);
      })

  -- a column that nobody met
  bounding-skip : (i : ℕ) (b : AncestorColumnBounds) → i < length ds → get_or ds i Nobody ≡ Nobody → Bounding ds target i b → Bounding ds target (i + 1) b
  bounding-skip i b h e g =
      let d : drop i ds ≡ Nobody ∷ drop (suc i) ds = drop-cons ds i Nobody h ∙ rw e in
      record {
        node = g.node;
        left = g.left;
        left-direct = g.left-direct;
        right-direct = g.right-direct;
        right = g.right;
        rest =
            rw (add-one i)
            (sym (passed-by b (drop (suc i) ds) i)
            ∙ ap (λ (l : List Drawn). closed b l i) (sym d)
            ∙ g.rest);
      }

  -- a column that is walked
  pub bounding-column : (i : ℕ) (b r : AncestorColumnBounds) (d : Drawn) → i < length ds → d ≡ get_or ds i Nobody → r ≡ cond (is_drawn d) (reaching b i d) b
      → Bounding ds target i b → Bounding ds target (i + 1) r
  bounding-column i b r d h e q g = go (is_drawn d) refl q
    where
      go : (t : Bool) → is_drawn d ≡ t → r ≡ cond t (reaching b i d) b → Bounding ds target (i + 1) r
      go true z k = bounding-next i b r d h e k g
      go false z k = rw k (bounding-skip i b h (sym e ∙ not-drawn d z) g)

  pub bounding-end : (i : ℕ) (b : AncestorColumnBounds) → length ds ≤ i → Bounding ds target i b → b ≡ bounds_of ds target
  bounding-end i b h g =
      let e : closed b [] i ≡ bounds_of ds target = rw (drop_of_length-le ds {i = i} h) at g.rest in
      whole ∙ e
    where
      l : b.min_ancestor ≡ min b.min_ancestor b.target
      l = omega (arith, g.left, g.node)

      ld : b.min_parent ≡ min b.min_parent b.target
      ld = omega (arith, g.left-direct, g.node)

      rd : b.max_parent ≡ max b.max_parent b.target
      rd = omega (arith, g.right-direct, g.node)

      r : b.max_ancestor ≡ max b.max_ancestor b.target
      r = omega (arith, g.right, g.node)

      whole : b ≡ closed b [] i
      whole = rw (← l, ← ld, ← rd, ← r)

-- ---- who draws, in an array

pub kinds-at : (n : ℕ) (l : List Drawn) (i : ℕ) → i < n → get_or (kinds n l) i Nobody ≡ kind_at l i
kinds-at n l i h = get_or-take n l i Nobody h

-- the kinds are those of the live columns of an array of that length
pub kinds-clamp : (m n : ℕ) (l : List Drawn) → m ≡ min n (length l) → take m l ≡ kinds n l
kinds-clamp m n l h = ap (λ k. take k l) h ∙ take_min n l

-- ---- the marks of a cell

none : (b : Bool) → (b && false) ≡ false
none true = refl
none false = refl

-- a cell in which nothing of the row ends has the strokes that pass it
pub passing-is : (b : AncestorColumnBounds) (w : Swap) (i : ℕ) (d : Drawn) → eqb i b.target ≡ false → is_drawn d ≡ false → is_at w.given_up i ≡ false
    → strokes (passes_solid b w i) (passes_dashed b w i) ≡ from_node b w i d
passing-is b w i d h e g = rw (not-drawn d e, h, g, none (ltb b.target i), none (ltb i b.target))

-- ---- columns that a row does not reach

-- a column that an entry met lies between the outermost ones
pub leftmost-at : (ds : List Drawn) (i c j : ℕ) → is_drawn (get_or ds j Nobody) ≡ true → leftmost is_drawn ds i c ≤ i + j
leftmost-at [] i c j e = let z : ◌≡◌ {A = ℕ} 0 1 = cc in absurd (omega arith)
leftmost-at (m ∷ ds) i c zero e = rw e (omega arith)
leftmost-at (m ∷ ds) i c (suc j) e = omega (arith, leftmost-at ds (suc i) c j e)

pub rightmost-at : (ds : List Drawn) (i c j : ℕ) → is_drawn (get_or ds j Nobody) ≡ true → i + j ≤ rightmost is_drawn ds i c
rightmost-at [] i c j e = let z : ◌≡◌ {A = ℕ} 0 1 = cc in absurd (omega arith)
rightmost-at (m ∷ ds) i c zero e = rw e (omega arith)
rightmost-at (m ∷ ds) i c (suc j) e = omega (arith, rightmost-at ds (suc i) c j e)

-- direct entries reach no farther than entries
direct-drawn : (m : Drawn) → is_directly_drawn m ≡ true → is_drawn m ≡ true
direct-drawn Nobody h = h
direct-drawn Indirect h = refl
direct-drawn Direct h = refl
direct-drawn Anonymous h = refl

pub leftmost-direct : (ds : List Drawn) (i c : ℕ) → leftmost is_drawn ds i c ≤ leftmost is_directly_drawn ds i c
leftmost-direct [] i c = omega arith
leftmost-direct (m ∷ ds) i c = go (leftmost-direct ds (suc i) c) (is_directly_drawn m) refl (is_drawn m) refl
  where
    go : leftmost is_drawn ds (suc i) c ≤ leftmost is_directly_drawn ds (suc i) c → (a : Bool) → is_directly_drawn m ≡ a → (b : Bool) → is_drawn m ≡ b
        → min (cond b i c) (leftmost is_drawn ds (suc i) c) ≤ min (cond a i c) (leftmost is_directly_drawn ds (suc i) c)
    go more true p true q = omega (arith, more)
    go more true p false q = let z : ◌≡◌ {A = Bool} false true = sym q ∙ direct-drawn m p in let y : ◌≡◌ {A = ℕ} 0 1 = cc in absurd (omega arith)
    go more false p true q = omega (arith, more, leftmost-within is_drawn ds (suc i) c)
    go more false p false q = omega (arith, more)

pub rightmost-direct : (ds : List Drawn) (i c : ℕ) → rightmost is_directly_drawn ds i c ≤ rightmost is_drawn ds i c
rightmost-direct [] i c = omega arith
rightmost-direct (m ∷ ds) i c = go (rightmost-direct ds (suc i) c) (is_directly_drawn m) refl (is_drawn m) refl
  where
    go : rightmost is_directly_drawn ds (suc i) c ≤ rightmost is_drawn ds (suc i) c → (a : Bool) → is_directly_drawn m ≡ a → (b : Bool) → is_drawn m ≡ b
        → max (cond a i c) (rightmost is_directly_drawn ds (suc i) c) ≤ max (cond b i c) (rightmost is_drawn ds (suc i) c)
    go more true p true q = omega (arith, more)
    go more true p false q = let z : ◌≡◌ {A = Bool} false true = sym q ∙ direct-drawn m p in let y : ◌≡◌ {A = ℕ} 0 1 = cc in absurd (omega arith)
    go more false p true q = omega (arith, more, rightmost-within is_drawn ds (suc i) c)
    go more false p false q = omega (arith, more)

-- the leftmost column is the node's, or one that passes the test
pub leftmost-is : (t : Drawn → Bool) (ds : List Drawn) (i c : ℕ) → (leftmost t ds i c ≡ c) ⊎ ((j : ℕ) × (t (get_or ds j Nobody) ≡ true) × (leftmost t ds i c ≡ i + j))
leftmost-is t [] i c = inl refl
leftmost-is t (d ∷ ds) i c = go (leftmost-is t ds (suc i) c) (t d) refl (dec_lt (leftmost t ds (suc i) c) (cond (t d) i c))
  where
    l : ℕ
    l = leftmost t ds (suc i) c

    go : (l ≡ c) ⊎ ((j : ℕ) × (t (get_or ds j Nobody) ≡ true) × (l ≡ suc i + j)) → (b : Bool) → t d ≡ b → Dec (l < cond b i c)
        → (min (cond b i c) l ≡ c) ⊎ ((j : ℕ) × (t (get_or (d ∷ ds) j Nobody) ≡ true) × (min (cond b i c) l ≡ i + j))
    go (inl e) b q (yes h) = inl (omega arith)
    go (inr e) b q (yes h) = inr (suc e.0, e.1, omega (arith, e.2))
    go more true q (no h) = inr (zero, q, omega arith)
    go more false q (no h) = inl (omega arith)

-- and so is the rightmost one
pub rightmost-is : (t : Drawn → Bool) (ds : List Drawn) (i c : ℕ) → (rightmost t ds i c ≡ c) ⊎ ((j : ℕ) × (t (get_or ds j Nobody) ≡ true) × (rightmost t ds i c ≡ i + j))
rightmost-is t [] i c = inl refl
rightmost-is t (d ∷ ds) i c = go (rightmost-is t ds (suc i) c) (t d) refl (dec_lt (cond (t d) i c) (rightmost t ds (suc i) c))
  where
    r : ℕ
    r = rightmost t ds (suc i) c

    go : (r ≡ c) ⊎ ((j : ℕ) × (t (get_or ds j Nobody) ≡ true) × (r ≡ suc i + j)) → (b : Bool) → t d ≡ b → Dec (cond b i c < r)
        → (max (cond b i c) r ≡ c) ⊎ ((j : ℕ) × (t (get_or (d ∷ ds) j Nobody) ≡ true) × (max (cond b i c) r ≡ i + j))
    go (inl e) b q (yes h) = inl (omega arith)
    go (inr e) b q (yes h) = inr (suc e.0, e.1, omega (arith, e.2))
    go more true q (no h) = inr (zero, q, omega arith)
    go more false q (no h) = inl (omega arith)

-- what holds of a column that the row does not reach
pub record Unreached (b : AncestorColumnBounds) (w : Swap) (ds : List Drawn) (i : ℕ) : Type 0 where
  pub nobody-draws : get_or ds i Nobody ≡ Nobody
  pub elsewhere : eqb i b.target ≡ false
  pub kept : is_at w.given_up i ≡ false
  pub no-solid : passes_solid b w i ≡ false
  pub no-dashed : passes_dashed b w i ≡ false

no-entry : (m : Drawn) → (is_drawn m ≡ true → ⊥) → m ≡ Nobody
no-entry m h = go (is_drawn m) refl
  where
    go : (b : Bool) → is_drawn m ≡ b → m ≡ Nobody
    go true e = absurd (h e)
    go false e = not-drawn m e

up_left : (f : Found) (l i : ℕ) → i < min (unwrap_or f l) l → is_at f i ≡ false
up_left None l i h = refl
up_left (Some p) l i h = ne_eqb p i (λ z. omega (arith, z))

up_right : (f : Found) (l i : ℕ) → max (unwrap_or f l) l < i → (is_at f i ≡ false) × (found_as (ltb i) f ≡ false)
up_right None l i h = (refl, refl)
up_right (Some p) l i h = (ne_eqb p i (λ z. omega (arith, z)), le-ltb i p (omega arith))

module _ (ds : List Drawn) (c : ℕ) (w : Swap) (i : ℕ) where
  abbrev b : AncestorColumnBounds
  b = bounds_of ds c

  -- one to the left of what the row reaches
  unreached-left : i < reach_start b w → Unreached b w ds i
  unreached-left k =
      let l : i < leftmost is_drawn ds 0 c = omega arith in
      let n : i < c = omega (arith, leftmost-within is_drawn ds 0 c) in
      record {
        nobody-draws = no-entry _ (λ q. omega (arith, leftmost-at ds 0 c i q));
        elsewhere = ne_eqb i c (λ z. omega (arith, z));
        kept = up_left w.given_up (leftmost is_drawn ds 0 c) i k;
        no-solid = rw (le-ltb (leftmost is_directly_drawn ds 0 c) i (omega (arith, leftmost-direct ds 0 c)), le-ltb c i (omega arith));
        no-dashed = rw (le-ltb (leftmost is_directly_drawn ds 0 c) i (omega (arith, leftmost-direct ds 0 c)), le-ltb (leftmost is_drawn ds 0 c) i (omega arith), le-ltb c i (omega arith));
      }

  -- one to the right
  unreached-right : reach_last b w < i → Unreached b w ds i
  unreached-right k =
      let l : rightmost is_drawn ds 0 c < i = omega arith in
      let n : c < i = omega (arith, rightmost-within is_drawn ds 0 c) in
      let u = up_right w.given_up (rightmost is_drawn ds 0 c) i k in
      record {
        nobody-draws = no-entry _ (λ q. omega (arith, rightmost-at ds 0 c i q));
        elsewhere = ne_eqb i c (λ z. omega (arith, z));
        kept = u.0;
        no-solid = rw (le-ltb i (rightmost is_directly_drawn ds 0 c) (omega (arith, rightmost-direct ds 0 c)), u.1, none (ltb (leftmost is_directly_drawn ds 0 c) i), none (ltb c i));
        no-dashed = rw (le-ltb i (rightmost is_directly_drawn ds 0 c) (omega (arith, rightmost-direct ds 0 c)), le-ltb i (rightmost is_drawn ds 0 c) (omega arith), u.1, none (ltb (leftmost is_directly_drawn ds 0 c) i), none (ltb (leftmost is_drawn ds 0 c) i), none (ltb c i));
      }

pub unreached-before : (b : AncestorColumnBounds) (w : Swap) (ds : List Drawn) (c i : ℕ) → b ≡ bounds_of ds c → i < reach_start b w → Unreached b w ds i
unreached-before b w ds c i e h = rw e (unreached-left ds c w i (rw e at h))

pub unreached-after : (b : AncestorColumnBounds) (w : Swap) (ds : List Drawn) (c i : ℕ) → b ≡ bounds_of ds c → reach_last b w < i → Unreached b w ds i
unreached-after b w ds c i e h = rw e (unreached-right ds c w i (rw e at h))
