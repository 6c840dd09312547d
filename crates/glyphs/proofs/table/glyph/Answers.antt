-- The bytes of a glyph, none past the last glyph.
use mathlib.Core.Path.{sym}
use Rattle.glyphs.proofs.CellsLaws.{glyph-slice}
use Rattle.glyphs.proofs.TableLaws.{no-glyph}
use Rattle.glyphs.proofs.table.glyph.Goals as goal

pub returns-then-table-from : goal.returns-then-table-from
returns-then-table-from c = sym (no-glyph c.args.table.now c.args.n c.if-table-from.true)

pub returns : goal.returns
returns c = glyph-slice c.args.table.now c.args.n c.if-table-from.false _ c.at_most_eight.ensures
