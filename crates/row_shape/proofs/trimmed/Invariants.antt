-- The columns that go are Empty.
use Rattle.std.proofs.Common.{◌≡◌, ◌≤◌, length}
use Rattle.column.specs.Columns.{live, trim}
use Rattle.row_shape.proofs.trimmed.Given as goal

abbrev pub invariant-loop-count : goal.invariant-loop-count
invariant-loop-count l = (l.count ≤ length l.slots) × (trim (live l.count l.slots) ≡ trim (live (length l.slots) l.slots))

abbrev pub decreases-loop-count : goal.decreases-loop-count
decreases-loop-count l = l.count
