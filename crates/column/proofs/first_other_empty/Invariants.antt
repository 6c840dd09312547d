-- The first Empty column but column `skip`.
use mathlib.Core.Path.{◌≡◌}
use lib.ListN.{drop, set}
use Rattle.column.specs.Columns.{live, first, is_empty}
use Rattle.column.proofs.Laws.{later}
use Rattle.column.specs.declared.Column.TheVariants.{Blocked}
use Rattle.column.proofs.first_other_empty.Given as goal

abbrev pub invariant-loop-place : goal.invariant-loop-place
invariant-loop-place l = (first is_empty (set (live l.count l.fn.slots) l.skip Blocked) ≡ later l.place (first is_empty (drop l.place (set (live l.count l.fn.slots) l.skip Blocked))))
