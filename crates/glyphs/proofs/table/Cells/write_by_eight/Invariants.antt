-- Writes the cells of a line that has eight bytes or more behind them, each by its eight places.
use Rattle.glyphs.proofs.CellsLaws.{Eights}
use Rattle.glyphs.proofs.table.Cells.write_by_eight.Given as goal

abbrev pub invariant-loop-n : goal.invariant-loop-n
invariant-loop-n l = Eights l.self.table.now l.self.numbers.now l.initial.out l.n-index l.at l.out
