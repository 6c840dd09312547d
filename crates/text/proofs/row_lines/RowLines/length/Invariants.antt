-- The length of a row's lines with its message.
use mathlib.Core.Path.{◌≡◌}
use mathlib.Core.List.{map}
use lib.ListN.{length, take}
use Rattle.glyphs.specs.declared.types.Line.{Line}
use Rattle.glyphs.specs.Cells.{all_lines}
use Rattle.glyphs.specs.Tables.{numbers_in, cells_text}
use Rattle.column.specs.Columns.{column_limit}
use Rattle.text.specs.Inner.{spread, line_times}
use Rattle.text.proofs.RepeatLaws.{CountingRow}
use Rattle.text.proofs.row_lines.RowLines.length.Given as goal

abbrev pub invariant-loop-line : goal.invariant-loop-line
invariant-loop-line l =
    (length l.numbers ≡ column_limit)
    × CountingRow l.self.message.now (map (λ (x : Line). cells_text l.self.table.now (numbers_in l.self.table.now l.self.drawing x)) (spread (line_times l.self.plan l.self.drawing.renderer l.self.drawing.row) (take l.line-index all_lines))) (record { length = l.length; next = l.next })
