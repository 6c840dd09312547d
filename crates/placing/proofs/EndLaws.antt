-- Laws of the end of a row: the slots as they are after it, and those trimmed.
use Prim.Native.Nat.{ℕ, zero, suc, ◌+◌, ◌≤◌, ◌<◌, min}
use mathlib.Core.Path.{◌≡◌, refl, ap, ap₂, sym, ◌∙◌}
use mathlib.Core.Bool.{Bool, true, false, cond}
use mathlib.Core.List.{List, [], ◌∷◌, map}
use native.Mathlib.Nat.{not-suc-le-zero, le_of_suc-le-suc}
use native.Mathlib.Omega.{arith}
use lib.Dec.{ltb}
use lib.ListN.{length, get_or, set, replicate, length-map}
use lib.Seq.{get_or-take}
use borrow.Author.Tests.{ltb-true, ltb-false}
use Rattle.column.specs.declared.Column.{Column}
use Rattle.column.specs.declared.Column.TheVariants.{Empty, Blocked, Reserved, Ancestor, Parent}
use Rattle.column.specs.declared.Slot.{Slot}
use Rattle.column.specs.Columns.{column_limit, direct, unblock, reset, trim, at, live, empty_slot, carried, counted, is_named, origins, origin_at, SpareEmpty}
use Rattle.slices.proofs.Front.{length_front, front-clamp}
use Rattle.column.proofs.Laws.{column_of, trim-at, live_at, origins-at, origins-past, counted-twice}
use Rattle.column.proofs.Positions.{past_end}
use Rattle.column.proofs.Laws.{Filled, filled-start, filled_next}
use Rattle.std.specs.Prelude.{Some}
use Rattle.render.specs.declared.types.Options.{Options}
use Rattle.render.specs.declared.types.DashStyle.{DashStyle}
use Rattle.render.specs.declared.types.DashStyle.TheVariants.{Persistent, Once}
use Rattle.shaper.specs.declared.Shaper.{Shaper}
use Rattle.placing.specs.Placing.{solid_once}
use Rattle.placing.specs.Inner.{ended_column, ended_slot}

-- ---- what the end of a row gives

-- what ends a row: the columns by the definitions, each carrying what it did; the node's column and the options as they are; every slot
-- past the count is Empty and an origin that does not count is 0, whatever they were
pub record Ends (slots : List Slot) (count column : ℕ) (o : Options) (r : Shaper) : Type 0 where
  pub columns : live r.count r.slots ≡ reset (solid_once o.graph_row_shape_style.dash_style (live count slots))
  pub carried : (i : ℕ) → origin_at (origins r.count r.slots) i ≡ origin_at (origins count slots) i
  pub fits : r.count ≤ column_limit
  pub rest : SpareEmpty r.count r.slots
  pub previous : r.previous_node_column ≡ Some column
  pub options : r.options ≡ o

-- ---- the slots of a row's end
turned-at : (d : DashStyle) (l : List Slot) (i : ℕ) → i < length l → get_or (map (ended_slot d) l) i empty_slot ≡ ended_slot d (get_or l i empty_slot)
turned-at d [] i h = absurd (not-suc-le-zero h)
turned-at d (s ∷ l) zero h = refl
turned-at d (s ∷ l) (suc i) h = turned-at d l i (le_of_suc-le-suc h)

turned-live : (d : DashStyle) (n : ℕ) (l : List Slot) → live n (map (ended_slot d) l) ≡ map (ended_column d) (live n l)
turned-live d zero l = refl
turned-live d (suc n) [] = refl
turned-live d (suc n) (s ∷ l) = ap (λ (r : List Column). ended_column d s.column ∷ r) (turned-live d n l)

-- the end of a row names no column, and leaves none that was named without
named-kept : (d : DashStyle) (c : Column) → is_named (ended_column d c) ≡ is_named c
named-kept Persistent Empty = refl
named-kept Persistent Blocked = refl
named-kept Persistent (Reserved n) = refl
named-kept Persistent (Ancestor n) = refl
named-kept Persistent (Parent n) = refl
named-kept Once Empty = refl
named-kept Once Blocked = refl
named-kept Once (Reserved n) = refl
named-kept Once (Ancestor n) = refl
named-kept Once (Parent n) = refl

turned-carries : (d : DashStyle) (s : Slot) → carried (ended_slot d s) ≡ carried s
turned-carries d s =
    counted-twice (ended_column d s.column) s.origin ∙ ap (λ (b : Bool). cond b s.origin 0) (named-kept d s.column)

turned-origins : (d : DashStyle) (n : ℕ) (l : List Slot) → origins n (map (ended_slot d) l) ≡ origins n l
turned-origins d zero l = refl
turned-origins d (suc n) [] = refl
turned-origins d (suc n) (s ∷ l) = ap₂ (λ (x : ℕ) (r : List ℕ). x ∷ r) (turned-carries d s) (turned-origins d n l)

ended-all : (d : DashStyle) (cs : List Column) → map (ended_column d) cs ≡ map unblock (solid_once d cs)
ended-all Persistent [] = refl
ended-all Persistent (c ∷ cs) = ap (λ (r : List Column). unblock c ∷ r) (ended-all Persistent cs)
ended-all Once [] = refl
ended-all Once (c ∷ cs) = ap (λ (r : List Column). unblock (direct c) ∷ r) (ended-all Once cs)

module _ (d : DashStyle) (given l : List Slot) (count n : ℕ) (long : length given ≡ column_limit) (e : n ≡ min count column_limit) (f : Filled (map (ended_slot d) given) n l) where
  wide : length (map (ended_slot d) given) ≡ column_limit
  wide = length-map given (ended_slot d) ∙ long

  whole : live n l ≡ map unblock (solid_once d (live count given))
  whole =
      ap (map column_of) f.same
      ∙ turned-live d n given
      ∙ ap (map (ended_column d)) (front-clamp column_of n count given (omega (arith, long)))
      ∙ ended-all d (live count given)

  -- each slot that is not past the end was stored
  slot_is : (i : ℕ) → i < n → get_or l i empty_slot ≡ ended_slot d (get_or given i empty_slot)
  slot_is i k =
      sym (get_or-take n l i empty_slot k)
      ∙ ap (λ (x : List Slot). get_or x i empty_slot) f.same
      ∙ get_or-take n (map (ended_slot d) given) i empty_slot k
      ∙ turned-at d given i (omega (arith, long))

  -- the columns that went were Empty, and so are the slots past them
  went : (m : ℕ) → m ≤ n → live m l ≡ trim (live n l) → (i : ℕ) → m ≤ i → (get_or l i empty_slot).column ≡ Empty
  went m h q i p = go (ltb i n) refl
    where
      go : (b : Bool) → ltb i n ≡ b → (get_or l i empty_slot).column ≡ Empty
      go false z = ap column_of (f.spare i (ltb-false i n z))
      go true z =
          let k : i < n = ltb-true i n z in
          sym (live_at n l i k (omega (arith, f.long)))
          ∙ sym (trim-at (live n l) i)
          ∙ ap (λ (cs : List Column). at cs i) (sym q)
          ∙ past_end (live m l) i (rw (length_front column_of m l) (omega arith))

  -- an origin that does not count is 0
  cleared : (i : ℕ) → (get_or l i empty_slot).origin ≡ carried (get_or l i empty_slot)
  cleared i = go (ltb i n) refl
    where
      go : (b : Bool) → ltb i n ≡ b → (get_or l i empty_slot).origin ≡ carried (get_or l i empty_slot)
      go false z = rw (f.spare i (ltb-false i n z))
      go true z =
          let k : i < n = ltb-true i n z in
          rw (slot_is i k) (sym (counted-twice (ended_column d (get_or given i empty_slot).column) (get_or given i empty_slot).origin))

  -- a slot with an Empty column is an empty slot
  empty-slot : (s : Slot) → s.column ≡ Empty → s.origin ≡ carried s → s ≡ empty_slot
  empty-slot s e q = ap₂ (λ (x : Column) (y : ℕ). record { column = x; origin = y }) e (q ∙ ap (λ (x : Column). counted x s.origin) e)

  spare : (m : ℕ) → m ≤ n → live m l ≡ trim (live n l) → SpareEmpty m l
  spare m h q = record { past = λ i p. empty-slot (get_or l i empty_slot) (went m h q i p) (cleared i); origins = cleared }

  -- what the columns carry stays; those that went carried nothing
  carried-is : (m : ℕ) → m ≤ n → live m l ≡ trim (live n l) → (i : ℕ) → origin_at (origins m l) i ≡ origin_at (origins count given) i
  carried-is m h q i = go (ltb i m) refl (ltb i n) refl
    where
      clamp : origins n given ≡ origins count given
      clamp = front-clamp carried n count given (omega (arith, long))

      all : origin_at (origins n l) i ≡ origin_at (origins count given) i
      all = ap (λ (x : List Slot). origin_at (map carried x) i) f.same ∙ ap (λ (x : List ℕ). origin_at x i) (turned-origins d n given ∙ clamp)

      nothing : i < n → m ≤ i → origin_at (origins n l) i ≡ 0
      nothing k p = origins-at n l i k (omega (arith, f.long)) ∙ ap (λ (c : Column). counted c (get_or l i empty_slot).origin) (went m h q i p)

      go : (a : Bool) → ltb i m ≡ a → (b : Bool) → ltb i n ≡ b → origin_at (origins m l) i ≡ origin_at (origins count given) i
      go true y b z =
          let k : i < m = ltb-true i m y in
          origins-at m l i k (omega (arith, f.long)) ∙ sym (origins-at n l i (omega arith) (omega (arith, f.long))) ∙ all
      go false y true z =
          let p : m ≤ i = ltb-false i m y in
          origins-past m l i (omega arith) ∙ sym (nothing (ltb-true i n z) p) ∙ all
      go false y false z =
          let p : m ≤ i = ltb-false i m y in
          let k : n ≤ i = ltb-false i n z in
          origins-past m l i (omega arith) ∙ sym (origins-past n l i (omega arith)) ∙ all

  -- the shaper, where m columns are left
  ended-done : (x : Shaper) (m column : ℕ) (o : Options) → x.slots ≡ l → x.count ≡ m → x.previous_node_column ≡ Some column → x.options ≡ o
      → o.graph_row_shape_style.dash_style ≡ d → m ≤ n → live m l ≡ trim (live n l) → Ends given count column o x
  ended-done x m column o s z p r k h q =
      record {
        columns = rw (s, z) (q ∙ ap trim whole ∙ rw k);
        carried = rw (s, z) (carried-is m h q);
        fits = rw z (omega arith);
        rest = rw (s, z) (spare m h q);
        previous = p;
        options = r;
      }

-- ---- the loops that end a row

-- what the first keeps: `at` of the slots are filled, the others Empty
pub record Filling (d : DashStyle) (given : List Slot) (count at : ℕ) (l : List Slot) : Type 0 where
  pub upto : at ≤ count
  pub fits : count ≤ column_limit
  pub long : length given ≡ column_limit
  pub filled : Filled (map (ended_slot d) given) at l

module _ (d : DashStyle) (given : List Slot) (count : ℕ) where
  pub filling-start : (l : List Slot) → count ≤ column_limit → length given ≡ column_limit → l ≡ replicate column_limit empty_slot → Filling d given count 0 l
  filling-start l h k e = record { upto = omega arith; fits = h; long = k; filled = filled-start (map (ended_slot d) given) l e }

  pub filling-next : (at : ℕ) (l : List Slot) (s : Slot) → Filling d given count at l → at < count → s ≡ ended_slot d (get_or given at empty_slot) → Filling d given count (at + 1) (set l at s)
  filling-next at l s f h e =
      record {
        upto = omega (arith, h);
        fits = f.fits;
        long = f.long;
        filled =
            filled_next (map (ended_slot d) given) l at s (omega (arith, h, f.fits)) (rw length-map (omega (arith, h, f.fits, f.long)))
            (e ∙ sym (turned-at d given at (omega (arith, h, f.fits, f.long)))) f.filled;
      }

  -- all are filled, and m columns are left
  pub filling-done : (at : ℕ) (l : List Slot) (x : Shaper) (m column : ℕ) (o : Options) → Filling d given count at l → count ≤ at → x.slots ≡ l → x.count ≡ m
      → x.previous_node_column ≡ Some column → x.options ≡ o → o.graph_row_shape_style.dash_style ≡ d → m ≤ at → live m l ≡ trim (live at l) → Ends given count column o x
  filling-done at l x m column o f h = ended-done d given l count at f.long (omega (arith, h, f.upto, f.fits)) f.filled x m column o
