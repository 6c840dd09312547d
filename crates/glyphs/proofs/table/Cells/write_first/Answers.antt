-- Writes the first bytes of the cells of a line that has so many.
use mathlib.Core.Path.{refl}
use Rattle.glyphs.proofs.CellsLaws.{first_next}
use Rattle.glyphs.proofs.table.Cells.write_first.Goals as goal

pub loop-n-preserved : goal.loop-n-preserved
loop-n-preserved c =
    let l = c.loop-n in
    let cells = c.args.self.now in
    first_next cells.table.now cells.numbers.now c.args.end c.args.out.now c.requires l.n-index l.at l.out l.invariant _ c.loop-n-test.true refl _ _ c.write_cell-at.ensures c.write_cell-at.auto.out
