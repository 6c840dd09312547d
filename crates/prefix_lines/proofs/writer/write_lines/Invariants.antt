-- Writes a row's lines, and gives the count of their bytes.
use Prim.Native.Nat.{◌≤◌}
use mathlib.Core.Path.{◌≡◌}
use lib.ListN.{length, take}
use Rattle.column.specs.Columns.{column_limit}
use Rattle.glyphs.specs.Cells.{all_lines}
use Rattle.slices.specs.Joins.{joins, over}
use Rattle.prefix_lines.specs.Inner.{drawn_line, drawn_lines}
use Rattle.prefix_lines.proofs.writer.write_lines.Given as goal

abbrev pub invariant-loop-line : goal.invariant-loop-line
invariant-loop-line l =
    (length (drawn_lines l.frame l.table l.drawing) ≤ length l.initial.out) × (length l.out ≡ length l.initial.out)
    × (length l.numbers ≡ column_limit)
    × (l.at ≡ length (joins (drawn_line l.frame l.table l.drawing) (take l.line-index all_lines)))
    × (l.out ≡ over (joins (drawn_line l.frame l.table l.drawing) (take l.line-index all_lines)) l.initial.out)
