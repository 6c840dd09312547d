-- The laws of places (Places.antt) of columns: what stands in a column after one is put, and a live column by its slot.
use Prim.Native.Nat.{ℕ, suc, ◌≤◌, ◌<◌, max}
use mathlib.Core.Path.{◌≡◌, refl}
use mathlib.Core.Logic.{◌≢◌}
use mathlib.Core.Bool.{Bool, true, false}
use mathlib.Core.List.{List}
use native.Mathlib.Omega.{arith}
use lib.Dec.{ltb}
use lib.ListN.{length, get_or, get_or-eq_default}
use borrow.Author.Tests.{ltb-true, ltb-false}
use Rattle.column.specs.declared.Column.{Column}
use Rattle.column.specs.declared.Column.TheVariants.{Empty}
use Rattle.column.specs.declared.Slot.{Slot}
use Rattle.column.specs.Columns.{at, put, live, empty_slot, column_at}
use Rattle.slices.proofs.Places.{put_same, put_other, put-length, put-past}
use Rattle.column.proofs.Laws.{live_at, live-past}

pub at-put-same : (cs : List Column) (k : ℕ) (v : Column) → at (put cs k v) k ≡ v
at-put-same = put_same Empty

pub at-put-other : (cs : List Column) (k : ℕ) (v : Column) (i : ℕ) → i ≢ k → at (put cs k v) i ≡ at cs i
at-put-other = put_other Empty

pub length-put : (cs : List Column) (k : ℕ) (v : Column) → length (put cs k v) ≡ max (length cs) (suc k)
length-put = put-length Empty

-- a column put one past a new last one makes an Empty one before it
pub put-skip : (cs : List Column) (v : Column) → put (put cs (length cs) Empty) (suc (length cs)) v ≡ put cs (suc (length cs)) v
put-skip = put-past Empty

pub past_end : (cs : List Column) (i : ℕ) → length cs ≤ i → at cs i ≡ Empty
past_end cs i h = get_or-eq_default cs Empty h

-- a live column, or none, by its slot
module _ (n : ℕ) (l : List Slot) (i : ℕ) where
  pub at-live : i < length l → at (live n l) i ≡ column_at (get_or l i empty_slot) i n
  at-live k = go (ltb i n) refl
    where
      go : (b : Bool) → ltb i n ≡ b → at (live n l) i ≡ column_at (get_or l i empty_slot) i n
      go true e = rw e (live_at n l i (ltb-true _ _ e) k)
      go false e = let h : n ≤ i = ltb-false _ _ e in rw e (past_end (live n l) i (live-past n l i (omega arith)))
