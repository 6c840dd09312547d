-- Writes the cells of a line that has so many bytes behind them, where there is room for both.
use mathlib.Core.Path.{refl}
use Rattle.glyphs.proofs.CellsLaws.{wide-done}
use Rattle.glyphs.proofs.table.Cells.write.Goals as goal

pub returns-then-is_wide : goal.returns-then-is_wide
returns-then-is_wide c =
    let cells = c.args.self.now in
    wide-done cells.table.now cells.numbers.now c.args.out.now _ _ c.args.behind _ refl (c.is_wide.ensures c.if-is_wide.true) c.write_by_eight.ensures
