-- What the functions that place a row's entries give, on slots: steps on the way to the definitions of Placing.
use Rattle.std.specs.Prelude.{ℕ, Bool, false, cond, not, ◌&&◌, ltb, eqb}
use Rattle.column.specs.declared.Column.{Column}
use Rattle.column.specs.declared.Column.TheVariants.{Empty}
use Rattle.column.specs.declared.Slot.{Slot}
use Rattle.column.specs.Columns.{holds, merge, direct, unblock, slot_of, origin_or, column_at}
use Rattle.render.specs.declared.render.Ancestor.{Ancestor as Entry}
use Rattle.render.specs.declared.render.Ancestor.TheVariants.{Ancestor as Indirect, Parent as Direct, Anonymous}
use Rattle.render.specs.declared.types.DashStyle.{DashStyle}
use Rattle.render.specs.declared.types.DashStyle.TheVariants.{Persistent, Once}
use Rattle.placing.specs.Placing.{column_of}

-- whether a column holds an entry's id
abbrev pub holds_entry : Entry → Column → Bool
holds_entry (Indirect n) c = holds n c
holds_entry (Direct n) c = holds n c
holds_entry Anonymous c = false

-- the slot at i, of n that are live, after an entry of a row of the node x merged into it
abbrev pub entered : Slot → ℕ → ℕ → Entry → ℕ → Slot
entered s i n e x = record { column = merge (column_at s i n) (column_of e); origin = origin_or s (column_at s i n) x }

-- what stood in column i before the entries, where n were live and the node's is c
abbrev pub column_before : Slot → ℕ → ℕ → ℕ → Column
column_before s i n c = cond (ltb i n && not (eqb i c)) s.column Empty

-- what a column is after a row
abbrev pub ended_column : DashStyle → Column → Column
ended_column Persistent c = unblock c
ended_column Once c = unblock (direct c)

-- the slot of a column after a row
abbrev pub ended_slot : DashStyle → Slot → Slot
ended_slot d s = slot_of (ended_column d s.column) s.origin
