-- Writes a glyph by its eight places, all of them read before the first is written.
use Rattle.glyphs.proofs.CellsLaws.{within_none, within-eight, eight-stored}
use Rattle.glyphs.proofs.TableLaws.{no-glyph}
use Rattle.glyphs.proofs.table.write_wide.Goals as goal

pub returns-then-table-from : goal.returns-then-table-from
returns-then-table-from c =
    let a = c.args in
    rw (no-glyph a.table.now a.n c.if-table-from.true) (within_none 8 a.out.now)

pub returns : goal.returns
returns c =
    let a = c.args in
    within-eight a.table.now a.n a.out.now _ _ c.if-table-from.false (eight-stored a.out.now _ _ _ _ _ _ _ _ c.requires) c.at_most_eight.ensures
