-- Laws of the definitions in specs/Shaper.antt, one for each return of the calls.
use Prim.Native.Nat.{ℕ, ◌+◌, ◌≤◌, ◌<◌, min, max}
use mathlib.Core.Path.{◌≡◌, refl, sym}
use mathlib.Core.Bool.{false}
use mathlib.Core.List.{List}
use native.Mathlib.Omega.{arith}
use lib.ListN.{length, get_or, set}
use borrow.Author.Tests.{le-leb, lt-leb}
use Rattle.column.specs.declared.Column.{Column}
use Rattle.column.specs.declared.Column.TheVariants.{Empty, Blocked, Reserved, Ancestor, Parent}
use Rattle.std.specs.Prelude.{Some, None, unwrap_or}
use Rattle.column.specs.declared.Slot.{Slot}
use Rattle.column.specs.Found.{Found}
use Rattle.column.specs.Columns.{column_limit, is_empty, holds, find, live, first, vacant, put, started_by, counted, empty_slot}
use Rattle.slices.specs.Lists.{put_with}
use Rattle.slices.proofs.Front.{length_front}
use Rattle.column.proofs.Laws.{column_of, first_below, live_at, live-put, origins-at, origins-put}
use Rattle.render.specs.declared.render.Entries.{Entries}
use Rattle.render.specs.Entries.{entry_limit, listed, is_too_many}
use Rattle.render.specs.Refusals.{no_column_left}
use Rattle.shaper.specs.declared.Shaper.{Shaper}
use Rattle.shaper.specs.Shaper.{view_of, View, with_columns, reserve, reserved_slot, Reserves, origin}
use Rattle.render.specs.declared.render.Entry.{Entry}
use Rattle.render.proofs.EntryLaws.{few-count}

-- an array of slots has 64, by what the prover knows of an array that is a struct's field
pub slots-long : (l : List Slot) → length l ≡ 64 → length l ≡ column_limit
slots-long l e = e

-- and an array of entries has 8
pub entries-long : (l : List Entry) → length l ≡ 8 → length l ≡ entry_limit
entries-long l e = e

-- entries that are not too many are at most 8
pub few : (es : Entries) → is_too_many (listed es) ≡ false → es.count ≤ entry_limit
few = few-count

-- ---- the reserving call
module _ (v : View) (n : ℕ) where
  abbrev cs : List Column
  cs = v.columns

  pub reserve-held : (i : ℕ) → find n cs ≡ Some i → reserve v n ≡ record { refusal = 0; view = v }
  unfolding reserve
  reserve-held i e = rw e

  module _ (e : find n cs ≡ None) where
    full : (f : Found) → first is_empty cs ≡ f → length cs ≤ column_limit → column_limit ≤ unwrap_or f (length cs) → reserve v n ≡ record { refusal = no_column_left; view = v }
    unfolding reserve
    full (Some i) q h g = absurd (omega (arith, first_below is_empty cs i q))
    full None q h g = rw (e, q, le-leb column_limit (length cs) g)

    pub reserve-full : length cs ≤ column_limit → column_limit ≤ vacant cs → reserve v n ≡ record { refusal = no_column_left; view = v }
    reserve-full = full (first is_empty cs) refl

    room : (f : Found) → first is_empty cs ≡ f → unwrap_or f (length cs) < column_limit
        → reserve v n ≡ record { refusal = 0; view = with_columns v (put cs (unwrap_or f (length cs)) (Reserved n)) (put_with 0 v.origins (unwrap_or f (length cs)) 0) }
    unfolding reserve
    room (Some i) q g = rw (e, q)
    room None q g = rw (e, q, lt-leb column_limit (length cs) g)

    pub reserve-room : vacant cs < column_limit → reserve v n ≡ record { refusal = 0; view = with_columns v (put cs (vacant cs) (Reserved n)) (put_with 0 v.origins (vacant cs) 0) }
    reserve-room = room (first is_empty cs) refl

    pub vacant-within : vacant cs ≤ length cs
    vacant-within = within (first is_empty cs) refl
      where
        within : (f : Found) → first is_empty cs ≡ f → unwrap_or f (length cs) ≤ length cs
        within (Some i) q = omega (arith, first_below is_empty cs i q)
        within None q = omega arith

module _ (s : Shaper) (n : ℕ) where
  abbrev live-columns : List Column
  live-columns = live s.count s.slots

  pub held-done : (i : ℕ) → find n live-columns ≡ Some i → Reserves s n (record { refusal = 0; shaper = s })
  held-done i e =
      record {
        reply = sym (reserve-held (view_of s) n i e);
        refused = λ h. refl;
        held = λ j q. refl;
        fits = λ q z. let y : ◌≡◌ {A = ℕ} 0 1 = cc in absurd (omega arith);
        taken = λ q z. let y : ◌≡◌ {A = ℕ} 0 1 = cc in absurd (omega arith);
        options = refl;
      }

  module _ (e : find n live-columns ≡ None) (long : length s.slots ≡ column_limit) where
    pub full-done : column_limit ≤ vacant live-columns → Reserves s n (record { refusal = no_column_left; shaper = s })
    full-done h =
        record {
          reply = sym (reserve-full (view_of s) n e (rw length_front (omega arith)) h);
          refused = λ k. refl;
          held = λ j q. refl;
          fits = λ q z. absurd (omega arith);
          taken = λ q z. absurd (omega arith);
          options = refl;
        }

    module _ (i m : ℕ) (a : i ≡ vacant live-columns) (h : i < column_limit) (k : m ≡ min (max s.count (i + 1)) column_limit) where
      abbrev stored : Shaper
      stored = record { slots = set s.slots i (reserved_slot n); count = m; previous_node_column = s.previous_node_column; options = s.options }

      p : i < length s.slots
      p = omega arith

      q : i ≤ length live-columns
      q = omega (arith, vacant-within (view_of s) n e)

      r : m ≡ min (max s.count (i + 1)) (length s.slots)
      r = rw long k

      pub room-done : Reserves s n (record { refusal = 0; shaper = stored })
      room-done =
          record {
            reply =
                rw (live-put s.count i m s.slots (reserved_slot n) p q r, origins-put s.count i m s.slots (reserved_slot n) p q r, a)
                (sym (reserve-room (view_of s) n e (omega arith)));
            refused = λ z. absurd (z refl);
            held = λ j x. let y : ◌≡◌ {A = ℕ} 0 1 = cc in absurd (omega arith);
            fits = λ x z. omega arith;
            taken = λ x z. rw a;
            options = refl;
          }

-- ---- the query
reads-counted : (c : Column) (o : ℕ) → started_by c (counted c o) ≡ started_by c o
reads-counted Empty o = refl
reads-counted Blocked o = refl
reads-counted (Reserved n) o = refl
reads-counted (Ancestor n) o = refl
reads-counted (Parent n) o = refl

module _ (s : Shaper) (n : ℕ) where
  pub started-found : (i : ℕ) → find n (live s.count s.slots) ≡ Some i → length s.slots ≡ column_limit
      → started_by (get_or s.slots i empty_slot).column (get_or s.slots i empty_slot).origin ≡ origin (view_of s) n
  started-found i e long =
      let h : i < length (live s.count s.slots) = first_below (holds n) (live s.count s.slots) i e in
      let k : i < s.count = omega (arith, length_front column_of s.count s.slots) in
      let l : i < length s.slots = omega (arith, length_front column_of s.count s.slots) in
      rw (e, live_at s.count s.slots i k l, origins-at s.count s.slots i k l) (sym (reads-counted (get_or s.slots i empty_slot).column (get_or s.slots i empty_slot).origin))

  -- the index that was found is one of the array's
  pub found_within : (i : ℕ) → find n (live s.count s.slots) ≡ Some i → length s.slots ≡ column_limit → i < column_limit
  found_within i e long = omega (arith, first_below (holds n) (live s.count s.slots) i e, length_front column_of s.count s.slots)
