-- How many blanks stand at the end of the cells.
use Prim.Native.Nat.{◌-◌}
use lib.ListN.{length}
use Rattle.glyphs.proofs.CellsLaws.{Tail}
use Rattle.glyphs.proofs.table.Cells.trailing_blanks.Given as goal

abbrev pub invariant-loop-n : goal.invariant-loop-n
invariant-loop-n l = Tail l.self.table.now l.self.numbers.now (length l.self.numbers.now - length l.yielded) l.blanks
