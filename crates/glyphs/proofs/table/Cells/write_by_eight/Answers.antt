-- Writes the cells of a line that has eight bytes or more behind them, each by its eight places.
use mathlib.Core.Path.{refl}
use native.Mathlib.Omega.{arith}
use Rattle.slices.proofs.OverLaws.{part_room}
use Rattle.glyphs.proofs.CellsLaws.{eights_at, eights-next}
use Rattle.glyphs.proofs.table.Cells.write_by_eight.Goals as goal

pub write_wide-at-requires : goal.write_wide-at-requires
write_wide-at-requires c =
    let l = c.loop-n in
    let cells = c.args.self.now in
    rw (part_room l.out l.at) (omega (arith, eights_at cells.table.now cells.numbers.now c.args.out.now l.n-index l.at l.out l.invariant, l.invariant.long, c.requires, c.loop-n-test.true))

pub loop-n-preserved : goal.loop-n-preserved
loop-n-preserved c =
    let l = c.loop-n in
    let cells = c.args.self.now in
    eights-next cells.table.now cells.numbers.now c.args.out.now l.n-index l.at l.out l.invariant _ c.loop-n-test.true refl _ _ (omega (arith, eights_at cells.table.now cells.numbers.now c.args.out.now l.n-index l.at l.out l.invariant, l.invariant.long, c.requires, c.loop-n-test.true)) c.write_wide-at.ensures c.write_wide-at.auto.out
