-- Writes a row's lines with its message, the glyphs of each chosen once.
use mathlib.Core.Path.{◌≡◌}
use mathlib.Core.List.{map}
use lib.ListN.{length, take}
use Rattle.column.specs.Columns.{column_limit}
use Rattle.glyphs.specs.declared.types.Line.{Line}
use Rattle.glyphs.specs.Cells.{all_lines}
use Rattle.glyphs.specs.Tables.{numbers_in, cells_text}
use Rattle.text.specs.Inner.{spread, line_times}
use Rattle.text.proofs.RepeatLaws.{Writing}
use Rattle.text.proofs.row_lines.RowLines.write.Given as goal

abbrev pub invariant-loop-line : goal.invariant-loop-line
invariant-loop-line l =
    (length l.numbers ≡ column_limit)
    × Writing l.whole l.self.message.now 0 l.initial.out (map (λ (x : Line). cells_text l.self.table.now (numbers_in l.self.table.now l.self.drawing x)) (spread (line_times l.self.plan l.self.drawing.renderer l.self.drawing.row) (take l.line-index all_lines))) l.out
    (record { length = l.length; measure = l.measure; next = l.next })
