-- Laws of the definitions in specs/Columns.antt, worded for the loops over an array of slots.
use Prim.Native.Nat.{ℕ, zero, suc, ◌+◌, ◌-◌, ◌≤◌, ◌<◌, min, max}
use mathlib.Core.Path.{◌≡◌, refl, ap, ◌∙◌, sym}
use mathlib.Core.Bool.{Bool, true, false, cond, not, ◌&&◌}
use mathlib.Core.List.{List, [], ◌∷◌, ◌++◌}
use native.Mathlib.Nat.{not-suc-le-zero}
use native.Mathlib.Numerals.{add-one}
use native.Mathlib.Omega.{arith}
use lib.ListN.{length, get_or, take, drop, set, replicate, length-set, drop_of_length-le, length-replicate, get_or-replicate, get_or-eq_default}
use lib.Dec.{ltb, eqb}
use lib.Seq.{drop-cons, take-suc, take-suc-set, get_or-set_same, get_or-set_other}
use borrow.Author.Tests.{ltb-true, ltb-false, eqb-true, eqb-false}
use Rattle.column.specs.declared.Column.{Column}
use Rattle.column.specs.declared.Column.TheVariants.{Empty, Blocked, Reserved, Ancestor, Parent}
use Rattle.column.specs.declared.Slot.{Slot}
use Rattle.std.specs.Prelude.{Some, None, map}
use Rattle.std.specs.List.{position, position_from}
use Rattle.std.proofs.lemmas.List.{take_min}
use Rattle.std.proofs.lemmas.Iterator.Adapters.{position_from-zero}
use Rattle.column.specs.Found.{Found}
use Rattle.column.specs.Columns.{column_limit, is_empty, next, first, find_empty, vacant, keep, trim, at, put, live, is_named, counted, carried, origins, origin_at, empty_slot}
use Rattle.slices.specs.Lists.{put_with}
use Rattle.slices.proofs.Places.{put-inside, put-end}
use Rattle.slices.proofs.Front.{length_front, front-get_or, front-suc, front-past, front-put}

abbrev pub column_of : Slot → Column
column_of s = s.column

and-false : (b : Bool) → (b && false) ≡ false
and-false true = refl
and-false false = refl

and-true : (b : Bool) → (b && true) ≡ b
and-true true = refl
and-true false = refl

-- ---- a search that has passed i columns: what is found from there, counted from 0
abbrev pub later : ℕ → Found → Found
later i (Some j) = Some (i + j)
later i None = None

later-next : (i : ℕ) (f : Found) → later i (next f) ≡ later (suc i) f
later-next i (Some j) = ap Some (omega arith)
later-next i None = refl

pub later-zero : (f : Found) → f ≡ later 0 f
later-zero (Some j) = ap Some (omega arith)
later-zero None = refl

-- the first column that passes a test is the library's first position of the slots
position-step : (p : Column → Bool) (i : ℕ) (l : List Slot) (b : Bool) → position_from (λ (s : Slot). p s.column) (i + 1) l ≡ later (i + 1) (first p (map column_of l))
    → cond b (Some i) (position_from (λ (s : Slot). p s.column) (i + 1) l) ≡ later i (cond b (Some 0) (next (first p (map column_of l))))
position-step p i l true h = ap Some (omega arith)
position-step p i l false h = h ∙ ap (λ (k : ℕ). later k (first p (map column_of l))) (add-one i) ∙ sym (later-next i (first p (map column_of l)))

position-later : (p : Column → Bool) (i : ℕ) (l : List Slot) → position_from (λ (s : Slot). p s.column) i l ≡ later i (first p (map column_of l))
position-later p i [] = refl
position-later p i (s ∷ l) = position-step p i l (p s.column) (position-later p (i + 1) l)

pub first-position : (p : Column → Bool) (l : List Slot) → position (λ (s : Slot). p s.column) l ≡ first p (map column_of l)
first-position p l = position_from-zero (λ (s : Slot). p s.column) l ∙ position-later p 0 l ∙ sym (later-zero (first p (map column_of l)))

pub first-live : (p : Column → Bool) (m n : ℕ) (l : List Slot) → m ≡ min n column_limit → length l ≡ column_limit → position (λ (s : Slot). p s.column) (take m l) ≡ first p (live n l)
first-live p m n l h e = ap (position (λ (s : Slot). p s.column)) (ap (λ k. take k l) (h ∙ ap (min n) (sym e)) ∙ take_min n l) ∙ first-position p (take n l)

module _ (p : Column → Bool) (cs : List Column) (i : ℕ) where
  pub first-hit : i < length cs → p (at cs i) ≡ true → later i (first p (drop i cs)) ≡ Some i
  first-hit h e = rw (drop-cons cs i Empty h, e) (ap Some (omega arith))

  pub first-miss : i < length cs → p (at cs i) ≡ false → later i (first p (drop i cs)) ≡ later (i + 1) (first p (drop (i + 1) cs))
  first-miss h e = rw (add-one i, drop-cons cs i Empty h, e) (later-next i (first p (drop (suc i) cs)))

  pub first-end : length cs ≤ i → later i (first p (drop i cs)) ≡ None
  first-end h = rw (drop_of_length-le cs {i = i} h)

-- a live column is its slot's
module _ (n : ℕ) (l : List Slot) (i : ℕ) where
  pub live_at : i < n → i < length l → at (live n l) i ≡ (get_or l i empty_slot).column
  live_at = front-get_or column_of n l i empty_slot Empty

  pub live_below : i < n → i < length l → i < length (live n l)
  live_below h k = rw length_front (omega arith)

  pub live-past : min n (length l) ≤ i → length (live n l) ≤ i
  live-past h = rw length_front h

-- what a live column carries is what its slot does, past the count nothing
module _ (n : ℕ) (l : List Slot) (i : ℕ) where
  pub origins-at : i < n → i < length l → origin_at (origins n l) i ≡ carried (get_or l i empty_slot)
  origins-at = front-get_or carried n l i empty_slot 0

  pub origins-past : min n (length l) ≤ i → origin_at (origins n l) i ≡ 0
  origins-past = front-past carried n l i 0

-- an origin is read once
pub counted-twice : (c : Column) (o : ℕ) → counted c (counted c o) ≡ counted c o
counted-twice c o = go (is_named c)
  where
    go : (b : Bool) → cond b (cond b o 0) 0 ≡ cond b o 0
    go true = refl
    go false = refl

-- an Empty column but one: that one is read as Blocked
module _ (cs : List Column) (skip i : ℕ) where
  other : (b : Bool) → eqb i skip ≡ b → i < length cs → is_empty (at (set cs skip Blocked) i) ≡ (is_empty (at cs i) && not b)
  other true e h = rw (eqb-true i skip e, get_or-set_same cs skip Blocked Empty (rw (← eqb-true i skip e) h)) (sym (and-false (is_empty (at cs skip))))
  other false e h = rw (get_or-set_other cs skip i Blocked Empty (eqb-false i skip e)) (sym (and-true (is_empty (at cs i))))

  pub other-empty : i < length cs → is_empty (at (set cs skip Blocked) i) ≡ (is_empty (at cs i) && not (eqb i skip))
  other-empty = other (eqb i skip) refl

-- ---- find_empty and vacant
module _ (n : ℕ) (l : List Slot) (i : ℕ) where
  pub find-empty-out : min n (length l) ≤ i → find_empty i (live n l) ≡ first is_empty (live n l)
  find-empty-out h = rw (get_or-eq_default (live n l) Blocked {n = i} (rw length_front h))

  module _ (h : i < n) (k : i < length l) where
    pub find-empty-hit : is_empty (get_or l i empty_slot).column ≡ true → find_empty i (live n l) ≡ Some i
    find-empty-hit e = rw (front-get_or column_of n l i empty_slot Blocked h k, e)

    pub find-empty-miss : is_empty (get_or l i empty_slot).column ≡ false → find_empty i (live n l) ≡ first is_empty (live n l)
    find-empty-miss e = rw (front-get_or column_of n l i empty_slot Blocked h k, e)

module _ (n : ℕ) (l : List Slot) (i : ℕ) where
  pub vacant-found : first is_empty (live n l) ≡ Some i → i ≡ vacant (live n l)
  vacant-found e = rw e

  pub vacant-last : first is_empty (live n l) ≡ None → i ≡ min n (length l) → i ≡ vacant (live n l)
  vacant-last e h = rw (e, length_front column_of n l) h

-- ---- an array of Empty slots that is filled
-- slots of which the first i are those of r, and the others Empty
pub record Filled (r : List Slot) (i : ℕ) (l : List Slot) : Type 0 where
  pub long : length l ≡ column_limit
  pub same : take i l ≡ take i r
  pub spare : (j : ℕ) → i ≤ j → get_or l j empty_slot ≡ empty_slot

pub filled-start : (r l : List Slot) → l ≡ replicate column_limit empty_slot → Filled r 0 l
filled-start r l e = rw e (record { long = length-replicate column_limit empty_slot; same = refl; spare = λ j h. go j (ltb j column_limit) refl })
  where
    go : (j : ℕ) (b : Bool) → ltb j column_limit ≡ b → get_or (replicate column_limit empty_slot) j empty_slot ≡ empty_slot
    go j true q = get_or-replicate column_limit j empty_slot empty_slot (ltb-true _ _ q)
    go j false q = get_or-eq_default (replicate column_limit empty_slot) empty_slot {n = j} (rw (length-replicate column_limit empty_slot) (ltb-false _ _ q))

pub filled_next : (r l : List Slot) (i : ℕ) (s : Slot) → i < column_limit → i < length r → s ≡ get_or r i empty_slot → Filled r i l → Filled r (i + 1) (set l i s)
filled_next r l i s h k e f =
    record {
      long = length-set l i s ∙ f.long;
      same = rw (add-one i, take-suc-set l i s (rw f.long h), take-suc r i empty_slot k, f.same, e);
      spare = λ j g. get_or-set_other l i j s empty_slot (λ z. omega arith) ∙ f.spare j (omega arith);
    }

-- ---- trimming
trim-empty : (cs : List Column) (c : Column) → is_empty c ≡ true → trim (cs ++ (c ∷ [])) ≡ trim cs
trim-empty [] c e = rw e
trim-empty (x ∷ cs) c e = ap (keep x) (trim-empty cs c e)

trim-kept : (cs : List Column) (c : Column) → is_empty c ≡ false → trim (cs ++ (c ∷ [])) ≡ cs ++ (c ∷ [])
trim-kept [] c e = rw e
trim-kept (x ∷ []) c e = ap (keep x) (trim-kept [] c e)
trim-kept (x ∷ y ∷ cs) c e = ap (keep x) (trim-kept (y ∷ cs) c e)

module _ (n : ℕ) (l : List Slot) (h : 0 < n) (k : n ≤ length l) where
  last : live n l ≡ live (n - 1) l ++ ((get_or l (n - 1) empty_slot).column ∷ [])
  last = let e : n ≡ suc (n - 1) = omega arith in ap (λ (m : ℕ). live m l) e ∙ front-suc column_of (n - 1) l empty_slot (omega arith)

  -- an Empty column at the end goes
  pub trim-turn : is_empty (get_or l (n - 1) empty_slot).column ≡ true → trim (live (n - 1) l) ≡ trim (live n l)
  trim-turn e = rw last (sym (trim-empty (live (n - 1) l) _ e))

  -- any other stays
  pub trim-stop : is_empty (get_or l (n - 1) empty_slot).column ≡ false → live n l ≡ trim (live n l)
  trim-stop e = rw last (sym (trim-kept (live (n - 1) l) _ e))

-- none is left
pub trim-done : (n : ℕ) (l : List Slot) → n ≤ 0 → live n l ≡ trim (live n l)
trim-done zero l h = refl
trim-done (suc n) l h = absurd (not-suc-le-zero h)

-- trimming changes no column: one that went reads as Empty
keep_at : (c : Column) (cs : List Column) (i : ℕ) → at (keep c cs) i ≡ at (c ∷ cs) i
keep_at Empty [] zero = refl
keep_at Empty [] (suc i) = refl
keep_at Blocked [] i = refl
keep_at (Reserved n) [] i = refl
keep_at (Ancestor n) [] i = refl
keep_at (Parent n) [] i = refl
keep_at c (d ∷ cs) i = refl

pub trim-at : (cs : List Column) (i : ℕ) → at (trim cs) i ≡ at cs i
trim-at [] i = refl
trim-at (c ∷ cs) zero = keep_at c (trim cs) 0
trim-at (c ∷ cs) (suc i) = keep_at c (trim cs) (suc i) ∙ trim-at cs i

-- ---- where a search ends: below the number of columns
module _ (p : Column → Bool) where
  next-below : (f : Found) (m : ℕ) (i : ℕ) → ((j : ℕ) → f ≡ Some j → j < m) → next f ≡ Some i → i < suc m
  next-below (Some j) m i h e =
      let k : suc j ≡ i = cc in
      omega (arith, h j refl)
  next-below None m i h e = let z : ◌≡◌ {A = ℕ} 0 1 = cc in absurd (omega arith)

  below-cons : (c : Column) (cs : List Column) (i : ℕ) (b : Bool) → p c ≡ b → ((j : ℕ) → first p cs ≡ Some j → j < length cs) → first p (c ∷ cs) ≡ Some i → i < suc (length cs)
  below-cons c cs i true q h e =
      let f : Some 0 ≡ Some i = rw q at e in
      let k : 0 ≡ i = cc in
      omega arith
  below-cons c cs i false q h e = next-below (first p cs) (length cs) i h (rw q at e)

  pub first_below : (cs : List Column) (i : ℕ) → first p cs ≡ Some i → i < length cs
  first_below [] i e = let z : ◌≡◌ {A = ℕ} 0 1 = cc in absurd (omega arith)
  first_below (c ∷ cs) i e = below-cons c cs i (p c) refl (first_below cs) e

-- ---- one column put: among those there are, or as a new last one
pub put-set : (cs : List Column) (i : ℕ) (c : Column) → i < length cs → put cs i c ≡ set cs i c
put-set = put-inside Empty

pub put_last : (cs : List Column) (c : Column) → put cs (length cs) c ≡ cs ++ (c ∷ [])
put_last = put-end Empty

-- a slot stored at i, and the count with it
module _ (count i m : ℕ) (l : List Slot) (s : Slot) (k : i < length l) (h : i ≤ length (live count l)) (e : m ≡ min (max count (i + 1)) (length l)) where
  pub live-put : live m (set l i s) ≡ put (live count l) i s.column
  live-put = front-put column_of Empty empty_slot count i m l s k h e

  pub origins-put : origins m (set l i s) ≡ put_with 0 (origins count l) i (carried s)
  origins-put = front-put carried 0 empty_slot count i m l s k (rw (length_front carried count l) (omega (arith, length_front column_of count l))) e
