-- Writes a glyph where `left` bytes of the line are still to be written.
use native.Mathlib.Omega.{arith}
use lib.ListN.{length-take}
use Rattle.glyphs.specs.Tables.{glyph_at}
use Rattle.glyphs.proofs.CellsLaws.{within_more, within-own}
use Rattle.glyphs.proofs.TableLaws.{glyph-short}
use Rattle.glyphs.proofs.table.write_cell.Goals as goal

pub returns-then-left-ge8 : goal.returns-then-left-ge8
returns-then-left-ge8 c =
    let a = c.args in
    within_more _ 8 a.left a.out.now _ _ (glyph-short a.table.now a.n) c.if-left-ge8.true c.write_wide.ensures

pub returns : goal.returns
returns c =
    let a = c.args in
    let w = c.write_glyph.ensures in
    within-own _ a.left a.out.now _ _ (omega (arith, length-take a.left (glyph_at a.table.now a.n))) w.0 w.1
