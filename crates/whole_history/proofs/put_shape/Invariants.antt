-- `whole_history::put_shape` meets its contract. The loop's invariant: the head and the first i cells are written.
use mathlib.Core.Path.{◌≡◌}
use lib.ListN.{length}
use Rattle.column.specs.Columns.{column_limit}
use Rattle.slices.specs.Joins.{over}
use Rattle.whole_history.proofs.ShapeLaws.{up_to}
use Rattle.whole_history.proofs.put_shape.Given as goal

abbrev pub invariant-loop-i : goal.invariant-loop-i
invariant-loop-i l =
    record {
      same : length l.out ≡ length l.initial.out;
      long : length l.shape.cells ≡ column_limit;
      written : l.out ≡ over (up_to l.shape l.i) l.initial.out;
    }
