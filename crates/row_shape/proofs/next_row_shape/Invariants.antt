-- The row call: the walk over the entries keeps `Going` and `Carrying`, the loops over the cells keep the cells that are stored, and the one that
-- ends the row the slots that are filled.
use mathlib.Core.Path.{◌≡◌}
use Rattle.column.specs.declared.Column.TheVariants.{Empty}
use Rattle.column.specs.Columns.{put, live}
use Rattle.placing.proofs.EndLaws.{Filling}
use Rattle.render.specs.Entries.{given}
use Rattle.shaper.specs.Shaper.{view_of}
use Rattle.placing.proofs.PlacingLaws.{Carrying, Going}
use Rattle.row_shape.proofs.RowCall.{Begun, Plain, Drawing}
use Rattle.row_shape.proofs.next_row_shape.Given as goal

abbrev pub invariant-loop-entry : goal.invariant-loop-entry
invariant-loop-entry l =
    Begun l.shaper l.node l.fn.entries l.existing l.column l.live × Going (put (live l.live l.shaper.slots) l.column Empty) l.column (given l.fn.entries) l.entry-index l.slots l.count l.parents l.parent_column l.need_term_line
    × Carrying l.node (put (live l.live l.shaper.slots) l.column Empty) (view_of l.shaper).origins l.slots l.count

abbrev pub invariant-loop-p : goal.invariant-loop-p
invariant-loop-p l = Plain l.need_link_line l.bounds l.swap l.parents l.shaper.slots l.slots l.live l.column l.count l.p l.cells

abbrev pub invariant-loop-k : goal.invariant-loop-k
invariant-loop-k l = Drawing l.need_link_line l.bounds l.swap l.parents l.shaper.slots l.slots l.live l.column l.count l.k l.cells

abbrev pub invariant-loop-at : goal.invariant-loop-at
invariant-loop-at l = Filling l.style.dash_style l.slots l.count l.at l.next.slots × (l.next.previous_node_column ≡ l.initial.next.previous_node_column) × (l.next.options ≡ l.initial.next.options)
