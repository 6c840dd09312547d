-- The shaper as document 01 has it, and what the new shaper call and the reserving call give.
use Rattle.std.specs.Prelude.{ℕ, zero, suc, ◌≤◌, min, ◌≡◌, Bool, true, false, ◌&&◌, List, [], ◌∷◌, ltb, leb, length, replicate, set, Some, None, Result, Ok, Err}
use Rattle.slices.specs.Lists.{put_with}
use Rattle.column.specs.declared.Column.{Column}
use Rattle.column.specs.declared.Column.TheVariants.{Reserved}
use Rattle.column.specs.declared.Slot.{Slot}
use Rattle.column.specs.declared.Started.{Started}
use Rattle.column.specs.declared.Started.TheVariants.{NotWaiting}
use Rattle.column.specs.Found.{Found}
use Rattle.column.specs.Columns.{column_limit, is_empty, first, find, vacant, at, put, live, empty_slot, started_by, origins, origin_at}
use Rattle.render.specs.declared.types.DashStyle.TheVariants.{Persistent}
use Rattle.render.specs.declared.types.LinkLinePlacement.TheVariants.{Top}
use Rattle.render.specs.declared.types.Style.{Style}
use Rattle.render.specs.declared.types.Options.{Options}
use Rattle.shaper.specs.declared.Shaper.{Shaper}
use Rattle.render.specs.declared.refusals.Refusal.{Refusal}
use Rattle.render.specs.Refusals.{not_refused, height_above_limit, no_column_left, Check, ◌when◌, refusal, number}

-- "minimum row height above 16" (01, the table's row for new shaper)
abbrev pub height_limit : ℕ
height_limit = 16

-- what a shaper stands for
pub record View : Type 0 where
  pub columns : List Column
  -- what each of them carries (02, R-3)
  pub origins : List ℕ
  pub previous : Found
  pub height : ℕ
  pub stagger : Bool
  pub style : Style

-- what a shaper with these columns stands for: "a height above 16 [is read] as 16" (01, "Where a call turns back")
abbrev pub view_with : List Column → List ℕ → Found → Options → View
view_with cs os p o =
    record {
      columns = cs;
      origins = os;
      previous = p;
      height = min o.min_row_height height_limit;
      stagger = o.stagger_consecutive_disconnected_nodes;
      style = o.graph_row_shape_style;
    }

-- "a column count above 64 is read as 64" (01, "Where a call turns back")
abbrev pub view_of : Shaper → View
view_of s = view_with (live s.count s.slots) (origins s.count s.slots) s.previous_node_column s.options

-- what a call that only changes the shaper gives: the refusal's number, 0 for none, and the shaper after it
pub record Answer : Type 0 where
  pub refusal : ℕ
  pub shaper : Shaper

-- the result of a call, as the answer: a refused call gives its number, and the other shaper
abbrev pub answer_from : Shaper → Result Shaper Refusal → Answer
answer_from s (Ok t) = record { refusal = not_refused; shaper = t }
answer_from s (Err e) = record { refusal = number e; shaper = s }

-- what a call gives: the refusal's number, 0 for none, and the shaper after it
pub record Reply : Type 0 where
  pub refusal : ℕ
  pub view : View

-- what a call gave, in the definition's words
abbrev pub reply_of : Answer → Reply
reply_of r = record { refusal = r.refusal; view = view_of r.shaper }

-- a call that turns back with the number n leaves the one view, any other gives the other
abbrev pub answer : ℕ → View → View → Reply
answer zero old new = record { refusal = 0; view = new }
answer (suc n) old new = record { refusal = suc n; view = old }

-- ---- the new shaper call

-- "minimum row height above 16" (01, the table's row for new shaper)
abbrev pub new_checks : Options → List Check
new_checks o = (height_above_limit when ltb height_limit o.min_row_height) ∷ []

-- a shaper without columns: "fresh shaper" where the new shaper call has just given it (01, "Which ids wait")
abbrev pub fresh : Options → Shaper
fresh o = record { slots = replicate column_limit empty_slot; count = 0; previous_node_column = None; options = o }

-- "height 0, no staggering, Persistent, Top" (01, "Where a call turns back")
abbrev pub refused_options : Options
refused_options =
    record {
      min_row_height = 0;
      stagger_consecutive_disconnected_nodes = false;
      graph_row_shape_style = record { dash_style = Persistent; link_line_placement = Top };
    }

-- the new shaper call
abbrev pub new_shaper : Options → Reply
new_shaper o = answer (refusal (new_checks o)) (view_of (fresh refused_options)) (view_of (fresh o))

-- ---- the reserving call

-- whether nothing was found
abbrev pub is_nothing : Found → Bool
is_nothing (Some i) = false
is_nothing None = true

-- "id not held, no Empty column, 64 columns" (01, the table's row for reserving)
abbrev pub reserve_checks : ℕ → List Column → List Check
reserve_checks n cs = (no_column_left when (is_nothing (find n cs) && (is_nothing (first is_empty cs) && leb column_limit (length cs)))) ∷ []

-- "an id already held changes nothing, else it becomes Reserved in the first Empty column or a new last one" (01, point 3)
abbrev pub reserved_in : Found → ℕ → List Column → List Column
reserved_in (Some i) n cs = cs
reserved_in None n cs = put cs (vacant cs) (Reserved n)

-- the columns after a reservation of n
abbrev pub reserved : ℕ → List Column → List Column
reserved n cs = reserved_in (find n cs) n cs

-- an id that a reservation makes wait has no origin: "a mark for none if only reserved" (02, R-3)
abbrev pub reserved_origins_in : Found → List Column → List ℕ → List ℕ
reserved_origins_in (Some i) cs os = os
reserved_origins_in None cs os = put_with 0 os (vacant cs) 0

-- what the columns carry after a reservation of n
abbrev pub reserved_origins : ℕ → List Column → List ℕ → List ℕ
reserved_origins n cs os = reserved_origins_in (find n cs) cs os

-- a view with other columns, other origins and another previous node column
abbrev pub view_after : View → List Column → List ℕ → Found → View
view_after v cs os p = record { columns = cs; origins = os; previous = p; height = v.height; stagger = v.stagger; style = v.style }

-- a view with other columns and other origins
abbrev pub with_columns : View → List Column → List ℕ → View
with_columns v cs os = view_after v cs os v.previous

-- the reserving call
unfoldable pub reserve : View → ℕ → Reply
reserve v n = answer (refusal (reserve_checks n v.columns)) v (with_columns v (reserved n v.columns) (reserved_origins n v.columns v.origins))

-- ---- the query

-- who started the line in a column that was found
abbrev pub started_in : Found → List Column → List ℕ → Started
started_in (Some i) cs os = started_by (at cs i) (origin_at os i)
started_in None cs os = NotWaiting

-- "A query by id gives that node, none, or not waiting." (02, R-3)
abbrev pub origin : View → ℕ → Started
origin v n = started_in (find n v.columns) v.columns v.origins

-- ---- what the calls promise

-- the new shaper call gives what the definition says, and its shaper is decided whole
pub record Fresh (o : Options) (r : Answer) : Type 0 where
  pub reply : reply_of r ≡ new_shaper o
  pub whole : r.shaper ≡ fresh r.shaper.options
  pub options : r.refusal ≡ 0 → r.shaper.options ≡ o

-- the slot of an id that a reservation makes wait
abbrev pub reserved_slot : ℕ → Slot
reserved_slot n = record { column = Reserved n; origin = 0 }

-- the reserving call gives what the definition says; a refusal and an id already held leave the struct itself as it was;
-- else the raw count is at most 64, and every slot but the one taken is as it was; the options stay
pub record Reserves (s : Shaper) (n : ℕ) (r : Answer) : Type 0 where
  pub reply : reply_of r ≡ reserve (view_of s) n
  pub refused : (r.refusal ≡ 0 → ⊥) → r.shaper ≡ s
  pub held : (i : ℕ) → find n (view_of s).columns ≡ Some i → r.shaper ≡ s
  pub fits : find n (view_of s).columns ≡ None → r.refusal ≡ 0 → r.shaper.count ≤ column_limit
  pub taken : find n (view_of s).columns ≡ None → r.refusal ≡ 0 → r.shaper.slots ≡ set s.slots (vacant (view_of s).columns) (reserved_slot n)
  pub options : r.shaper.options ≡ s.options
