-- Chooses the glyphs of a line, a number for each cell.
use lib.ListN.{length}
use Rattle.glyphs.proofs.ChoiceLaws.{Chosen}
use Rattle.glyphs.proofs.choice.choose_cells.Given as goal

abbrev pub invariant-loop-i : goal.invariant-loop-i
invariant-loop-i l = Chosen l.table l.fn.drawing l.fn.line l.count (length l.initial.numbers) l.i l.numbers

abbrev pub invariant-loop-i-2 : goal.invariant-loop-i-2
invariant-loop-i-2 l = Chosen l.table l.fn.drawing l.fn.line l.count (length l.initial.numbers) l.i l.numbers
