-- The length of a row's lines.
use Prim.Native.Nat.{◌≤◌}
use mathlib.Core.Path.{◌≡◌}
use lib.ListN.{length, take}
use Rattle.column.specs.Columns.{column_limit}
use Rattle.glyphs.specs.Cells.{all_lines}
use Rattle.slices.specs.Joins.{joins}
use Rattle.prefix_lines.specs.Inner.{drawn_line}
use Rattle.prefix_lines.proofs.length.lines_length.Given as goal

abbrev pub invariant-loop-line : goal.invariant-loop-line
invariant-loop-line l = (l.drawing.width ≤ column_limit) × (l.count ≡ length (joins (drawn_line l.frame l.table l.drawing) (take l.line-index all_lines)))
