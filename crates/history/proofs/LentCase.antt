-- M7 as lent calls: contracts that a run meets, so that what is said of every run is said of some; and right answers of single calls.
use Prim.Native.Nat.{ℕ, zero, suc, ◌-◌, ◌≤◌}
use mathlib.Core.Path.{◌≡◌, refl, sym, ap}
use mathlib.Core.Bool.{false, false≢true}
use mathlib.Core.List.{List, [], ◌∷◌, ◌++◌, map}
use native.Mathlib.Omega.{arith}
use lib.ListN.{length, get_or, drop, replicate}
use Rattle.std.specs.Prelude.{Some, None}
use Rattle.column.specs.declared.Column.{Column}
use Rattle.column.specs.declared.Column.TheVariants as column
use Rattle.column.specs.Found.{Found}
use Rattle.column.specs.Columns.{column_limit, SpareEmpty, empty_slot, slot_of, carried}
use Rattle.column.specs.declared.Started.TheVariants.{NotWaiting, Unnamed, By}
use Rattle.column.proofs.Laws.{counted-twice}
use Rattle.render.specs.declared.types.DashStyle.TheVariants.{Persistent}
use Rattle.render.specs.declared.types.LinkLinePlacement.TheVariants.{Top}
use Rattle.render.specs.declared.types.Options.{Options}
use Rattle.render.specs.declared.render.Ancestor.TheVariants as entry
use Rattle.render.specs.declared.render.Entry.{Entry}
use Rattle.render.specs.Refusals.{no_column_left, node_line_too_wide}
use Rattle.shaper.specs.declared.Shaper.{Shaper}
use Rattle.shaper.specs.Shaper.{reserve, is_nothing, fresh, Fresh, Answer}
use Rattle.placing.specs.Placing.{place}
use Rattle.row_shape.specs.Row.{row}
use Rattle.preview.specs.Promises.{PreviewAnswer}
use Rattle.width.specs.Width.{width}
use Rattle.marked.specs.Marked.{m7-row}
use Rattle.lineage.specs.Promises.{LentReserves, LentPreview, LentWidth, LentOrigin, ShapeAnswer}
use Rattle.history.specs.LentCalls.{LentCall, ReserveRan, RowRan, Met, Ran}

-- "height 1 without staggering", Persistent, Top (01, "Added by us")
abbrev pub options : Options
options =
    record {
      min_row_height = 1;
      stagger_consecutive_disconnected_nodes = false;
      graph_row_shape_style = record { dash_style = Persistent; link_line_placement = Top };
    }

-- what the new shaper call gives for these options
abbrev pub new : Answer
new = record { refusal = 0; shaper = fresh options }

-- what it gives meets its contract
pub is-new : Fresh options new
is-new = record { reply = refl; whole = refl; options = λ z. refl }

-- a shaper with these columns, of which the named ones carry the node o, and this previous node column; the slots past them are Empty
abbrev pub holding_by : ℕ → List Column → Found → Shaper
holding_by o cs p =
    record {
      slots = map (λ (c : Column). slot_of c o) cs ++ replicate (column_limit - length cs) empty_slot;
      count = length cs;
      previous_node_column = p;
      options = options;
    }

-- one in which nothing is named
abbrev pub holding : List Column → Found → Shaper
holding = holding_by 0

-- of Empty slots each is Empty
all-empty : (n i : ℕ) → get_or (replicate n empty_slot) i empty_slot ≡ empty_slot
all-empty zero i = refl
all-empty (suc n) zero = refl
all-empty (suc n) (suc i) = all-empty n i

-- and so are those behind some columns
pub spare-empty : (o : ℕ) (cs : List Column) (n : ℕ) → SpareEmpty (length cs) (map (λ (c : Column). slot_of c o) cs ++ replicate n empty_slot)
spare-empty o cs n = record { past = past cs; origins = counts cs }
  where
    past : (cs : List Column) (i : ℕ) → length cs ≤ i → get_or (map (λ (c : Column). slot_of c o) cs ++ replicate n empty_slot) i empty_slot ≡ empty_slot
    past [] i h = all-empty n i
    past (c ∷ cs) zero h = absurd (omega (arith, h))
    past (c ∷ cs) (suc i) h = past cs i (omega (arith, h))

    counts : (cs : List Column) (i : ℕ)
        → (get_or (map (λ (c : Column). slot_of c o) cs ++ replicate n empty_slot) i empty_slot).origin ≡ carried (get_or (map (λ (c : Column). slot_of c o) cs ++ replicate n empty_slot) i empty_slot)
    counts [] i = rw (all-empty n i)
    counts (c ∷ cs) zero = sym (counted-twice c o)
    counts (c ∷ cs) (suc i) = counts cs i

-- ---- M7: "Reserve 9, row 9" (01, "Marked rows")

-- the shaper after the reservation
abbrev pub reserved : Shaper
reserved = holding (column.Reserved 9 ∷ []) None

-- and after the row
abbrev pub ended : Shaper
ended = holding [] (Some 0)

-- what the row call gives
abbrev pub m7-answer : ShapeAnswer
m7-answer = record { refusal = m7-row.refusal; shape = m7-row.shape }

-- both calls
abbrev pub calls : List LentCall
calls = ReserveRan 9 reserved 0 ∷ RowRan 9 [] ended m7-answer ∷ []

-- the reservation meets its contract
pub reserves : Met (fresh options) (ReserveRan 9 reserved 0)
unfolding reserve
reserves =
    record {
      reply = refl;
      refused = λ z. absurd (z refl);
      held = λ i z. absurd (false≢true (sym (ap is_nothing z)));
      fits = λ a b. omega arith;
      taken = λ a b. refl;
      options = refl;
    }

-- the row meets its contract
pub rows : Met reserved (RowRan 9 [] ended m7-answer)
unfolding reserve row place
rows = record { reply = refl; refused = λ z. absurd (z refl); fits = λ z. omega arith; options = refl; rest = λ z. spare-empty 0 [] column_limit }

-- both do, one after the other
pub ran : Ran new.shaper calls
ran = (reserves, (rows, tt))

-- ---- M9: "After 64 reservations a new id gives 2" (01, "Marked rows")

-- the ids below n, each Reserved in its own column
abbrev pub reserved_below : ℕ → List Column
reserved_below zero = []
reserved_below (suc n) = reserved_below n ++ (column.Reserved n ∷ [])

-- the shaper after reservations of the ids 0 to 63
abbrev pub full : Shaper
full = holding (reserved_below column_limit) None

-- a new id gives 2, and nothing is stored
pub full_refuses : LentReserves full 64 full no_column_left
unfolding reserve
full_refuses =
    record {
      reply = refl;
      refused = λ z. refl;
      held = λ i z. refl;
      fits = λ a b. omega arith;
      taken = λ a b. absurd (omega (arith, b));
      options = refl;
    }

-- 64 columns, the last of them Empty
abbrev pub last_empty : Shaper
last_empty = holding (reserved_below 63 ++ (column.Empty ∷ [])) None

-- a new id takes "the first Empty column" (01, point 3)
pub last-empty-reserves : LentReserves last_empty 64 (holding (reserved_below 63 ++ (column.Reserved 64 ∷ [])) None) 0
unfolding reserve
last-empty-reserves =
    record {
      reply = refl;
      refused = λ z. absurd (z refl);
      held = λ i z. absurd (false≢true (sym (ap is_nothing z)));
      fits = λ a b. omega arith;
      taken = λ a b. refl;
      options = refl;
    }

-- ---- widths, the Rust's figures: "node and entries may each be absent" (01, point 3)

-- without a node, on a new shaper
pub width-without-node : LentWidth (fresh options) None [] (record { refusal = 0; width = 0 })
unfolding width
width-without-node = refl

-- with one that no column holds
pub width-with-node : LentWidth (fresh options) (Some 9) [] (record { refusal = 0; width = 1 })
unfolding width
width-with-node = refl

-- with one that a column holds
pub width-with-held-node : LentWidth reserved (Some 9) [] (record { refusal = 0; width = 1 })
unfolding width
width-with-held-node = refl

-- ---- previews

-- what a preview gives: the refusal's number, column and width, and the columns of a shaper
abbrev pub showing : ℕ → ℕ → ℕ → Shaper → PreviewAnswer
showing n c w s = record { refusal = n; node_column = c; width = w; slots = s.slots; count = s.count }

-- "Column 0 holds Parent 7: .. row 7 (Parent 7, Parent 8)" (01, M10)
abbrev pub m10-shaper : Shaper
m10-shaper = holding (column.Parent 7 ∷ []) (Some 0)

abbrev pub m10-entries : List Entry
m10-entries = record { ancestor = entry.Parent 7 } ∷ record { ancestor = entry.Parent 8 } ∷ []

-- the columns after it, named by its row
abbrev pub m10-after : Shaper
m10-after = holding_by 7 (column.Parent 7 ∷ column.Parent 8 ∷ []) (Some 0)

-- its node line has 2 cells
pub m10-previewed : LentPreview m10-shaper 7 m10-entries (showing 0 0 2 m10-after)
unfolding row place
m10-previewed =
    record { reply = refl; refused = λ z. absurd (z refl); fits = λ z. omega arith; rest = λ z. spare-empty 7 (column.Parent 7 ∷ column.Parent 8 ∷ []) 62 }

-- 64 columns, the first of them Parent 0
abbrev pub full-after : Shaper
full-after = holding (column.Parent 0 ∷ drop 1 (reserved_below column_limit)) (Some 0)

-- with 64 columns taken, row 0 (Parent 0) finds its own
pub full-previewed : LentPreview full 0 (record { ancestor = entry.Parent 0 } ∷ []) (showing 0 0 64 full-after)
unfolding row place
full-previewed =
    record { reply = refl; refused = λ z. absurd (z refl); fits = λ z. omega arith; rest = λ z. spare-empty 0 (column.Parent 0 ∷ drop 1 (reserved_below column_limit)) 0 }

-- a shaper with its count set by hand
abbrev pub counting : ℕ → Shaper → Shaper
counting n s = record { slots = s.slots; count = n; previous_node_column = s.previous_node_column; options = s.options }

-- 64 columns taken, and a count above them
abbrev pub beyond : Shaper
beyond = counting 65 full

-- "node line would have more than 64 cells" (01, the table): column 0, width 0, and the columns as they are, the count above 64 too
pub beyond-refused : LentPreview beyond 64 [] (showing node_line_too_wide 0 0 beyond)
unfolding row place
beyond-refused =
    record { reply = refl; refused = λ z. (refl, refl); fits = λ z. absurd (omega (arith, z)); rest = λ z. absurd (omega (arith, z)) }

-- ---- queries: "A query by id gives that node, none, or not waiting." (02, R-3)

-- after M10's row of 7 both its parents were first named by 7, itself too
pub m10-started : LentOrigin m10-after 7 (By 7) × LentOrigin m10-after 8 (By 7)
m10-started = (refl, refl)

-- one that was only reserved has none, and one that no column holds does not wait
pub only-reserved : LentOrigin reserved 9 Unnamed × LentOrigin reserved 7 NotWaiting
only-reserved = (refl, refl)
