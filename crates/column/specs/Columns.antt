-- Columns as document 01 has them ("From columns to text", point 1): what a column is, merging, the lookups and reset.
use Rattle.std.specs.Prelude.{ℕ, suc, ◌≤◌, ◌≡◌, Bool, true, false, cond, List, [], ◌∷◌, map, eqb, ltb, length, get_or, take, Some, None, unwrap_or}
use Rattle.std.proofs.Math.Option.{Option, none, some}
use Rattle.slices.specs.Lists.{put_with}
use Rattle.column.specs.Found.{Found}
use Rattle.column.specs.declared.Column.{Column}
use Rattle.column.specs.declared.Column.TheVariants.{Empty, Blocked, Reserved, Ancestor, Parent}
use Rattle.column.specs.declared.Slot.{Slot}
use Rattle.column.specs.declared.Started.{Started}
use Rattle.column.specs.declared.Started.TheVariants.{NotWaiting, Unnamed, By}

-- "64 columns" (01, the table's row for reserving)
abbrev pub column_limit : ℕ
column_limit = 64

-- "in rising rank 0 to 4" (01, point 1; `variant` in column.rs)
abbrev pub rank : Column → ℕ
rank Empty = 0
rank Blocked = 1
rank (Reserved n) = 2
rank (Ancestor n) = 3
rank (Parent n) = 4

-- "the last three hold an id" (01, point 1)
abbrev pub id_of : Column → Option ℕ
id_of Empty = none
id_of Blocked = none
id_of (Reserved n) = some n
id_of (Ancestor n) = some n
id_of (Parent n) = some n

-- whether that is the id n
abbrev pub is_id : ℕ → Option ℕ → Bool
is_id n none = false
is_id n (some o) = eqb n o

-- whether a column holds the id n (`matches` in column.rs)
abbrev pub holds : ℕ → Column → Bool
holds n c = is_id n (id_of c)

-- whether a column is Empty
abbrev pub is_empty : Column → Bool
is_empty Empty = true
is_empty Blocked = false
is_empty (Reserved n) = false
is_empty (Ancestor n) = false
is_empty (Parent n) = false

-- whether a column is Reserved
abbrev pub is_reserved : Column → Bool
is_reserved Empty = false
is_reserved Blocked = false
is_reserved (Reserved n) = true
is_reserved (Ancestor n) = false
is_reserved (Parent n) = false

-- whether a column is Ancestor
abbrev pub is_ancestor : Column → Bool
is_ancestor Empty = false
is_ancestor Blocked = false
is_ancestor (Reserved n) = false
is_ancestor (Ancestor n) = true
is_ancestor (Parent n) = false

-- whether a column is Parent
abbrev pub is_parent : Column → Bool
is_parent Empty = false
is_parent Blocked = false
is_parent (Reserved n) = false
is_parent (Ancestor n) = false
is_parent (Parent n) = true

-- whether a column's id was named: it is Ancestor or Parent
abbrev pub is_named : Column → Bool
is_named Empty = false
is_named Blocked = false
is_named (Reserved n) = false
is_named (Ancestor n) = true
is_named (Parent n) = true

-- "Merging replaces only by a higher rank." (01, point 1)
abbrev pub merge : Column → Column → Column
merge old new = cond (ltb (rank old) (rank new)) new old

-- one column further on
abbrev pub next : Found → Found
next (Some i) = Some (suc i)
next None = None

-- the first column that passes a test, counted from 0
abbrev pub first : (Column → Bool) → List Column → Found
first p [] = None
first p (c ∷ cs) = cond (p c) (Some 0) (next (first p cs))

-- "`find`: first column holding the id." (01, point 1)
abbrev pub find : ℕ → List Column → Found
find n cs = first (holds n) cs

-- "`find_empty(i)`: column i if Empty, else the first Empty one." (01, point 1); a column that is not there is not Empty
abbrev pub find_empty : ℕ → List Column → Found
find_empty i cs = cond (is_empty (get_or cs i Blocked)) (Some i) (first is_empty cs)

-- "the first Empty column or a new last one" (01, point 3)
abbrev pub vacant : List Column → ℕ
vacant cs = unwrap_or (first is_empty cs) (length cs)

-- "With Once dashes, Ancestor columns turn Parent" (01, "How a row finds its columns"; `convert_ancestor_to_parent` in column.rs)
abbrev pub direct : Column → Column
direct Empty = Empty
direct Blocked = Blocked
direct (Reserved n) = Reserved n
direct (Ancestor n) = Parent n
direct (Parent n) = Parent n

-- "`reset`: Blocked becomes Empty, .." (01, point 1)
abbrev pub unblock : Column → Column
unblock Empty = Empty
unblock Blocked = Empty
unblock (Reserved n) = Reserved n
unblock (Ancestor n) = Ancestor n
unblock (Parent n) = Parent n

-- ".. then Empty columns at the end go." (01, point 1): a column goes if it is Empty and none is left behind it
abbrev pub keep : Column → List Column → List Column
keep c [] = cond (is_empty c) [] (c ∷ [])
keep c (d ∷ ds) = c ∷ d ∷ ds

-- the columns without the Empty ones at the end (01, point 1)
abbrev pub trim : List Column → List Column
trim [] = []
trim (c ∷ cs) = keep c (trim cs)

-- "`reset`: Blocked becomes Empty, then Empty columns at the end go." (01, point 1)
abbrev pub reset : List Column → List Column
reset cs = trim (map unblock cs)

-- what stands in column i; past the last column nothing does
abbrev pub at : List Column → ℕ → Column
at cs i = get_or cs i Empty

-- column i becomes c; where there is no column i yet, Empty ones are made up to it
abbrev pub put : List Column → ℕ → Column → List Column
put cs i c = put_with Empty cs i c

-- the live columns of an array of slots: its first n. The array has 64, so "a column count above 64 is read as 64" (01, "Where a call turns back")
abbrev pub live : ℕ → List Slot → List Column
live n slots = map (λ (s : Slot). s.column) (take n slots)

-- ---- who started a line (02, R-3)

-- "carries the node in whose accepted row its id was first named .., or a mark for none if only reserved" (02, R-3): the kind Reserved is that mark
abbrev pub started_by : Column → ℕ → Started
started_by Empty o = NotWaiting
started_by Blocked o = NotWaiting
started_by (Reserved n) o = Unnamed
started_by (Ancestor n) o = By o
started_by (Parent n) o = By o

-- the origin o counts in an Ancestor or Parent column; any other is read as carrying 0
abbrev pub counted : Column → ℕ → ℕ
counted c o = cond (is_named c) o 0

-- what a slot's column carries
abbrev pub carried : Slot → ℕ
carried s = counted s.column s.origin

-- what the live columns of an array of slots carry
abbrev pub origins : ℕ → List Slot → List ℕ
origins n slots = map carried (take n slots)

-- what column i carries; past the last column nothing does
abbrev pub origin_at : List ℕ → ℕ → ℕ
origin_at os i = get_or os i 0

-- ---- slots

-- a slot that holds an Empty column
abbrev pub empty_slot : Slot
empty_slot = record { column = Empty; origin = 0 }

-- a slot with this column and this origin, where it counts
abbrev pub slot_of : Column → ℕ → Slot
slot_of c o = record { column = c; origin = counted c o }

-- the origin of a slot in which this column stands, where it counts, else another node
abbrev pub origin_or : Slot → Column → ℕ → ℕ
origin_or s c n = cond (is_named c) s.origin n

-- the column of the slot at i, where n are live
abbrev pub column_at : Slot → ℕ → ℕ → Column
column_at s i n = cond (ltb i n) s.column Empty

-- the slots past the count are Empty, and an origin that does not count is 0: nothing that a call gives depends on it, and from a new
-- shaper on it holds
pub record SpareEmpty (n : ℕ) (slots : List Slot) : Type 0 where
  pub past : (i : ℕ) → n ≤ i → get_or slots i empty_slot ≡ empty_slot
  pub origins : (i : ℕ) → (get_or slots i empty_slot).origin ≡ carried (get_or slots i empty_slot)
