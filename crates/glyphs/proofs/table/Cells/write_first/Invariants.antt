-- Writes the first bytes of the cells of a line that has so many.
use Rattle.glyphs.proofs.CellsLaws.{First}
use Rattle.glyphs.proofs.table.Cells.write_first.Given as goal

abbrev pub invariant-loop-n : goal.invariant-loop-n
invariant-loop-n l = First l.self.table.now l.self.numbers.now l.end l.initial.out l.n-index l.at l.out
