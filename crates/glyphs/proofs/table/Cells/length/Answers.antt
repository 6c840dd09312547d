-- The count of the cells' bytes.
use Rattle.std.proofs.Common.{rules, arith, ◌^◌}
use Rattle.std.proofs.lemmas.Iterator.{YieldsList-from_slice}
use Rattle.std.proofs.lemmas.Iterator.Adapters.{fits_from_length, at_most_from_yields_List}
use Rattle.column.specs.Columns.{column_limit}
use Rattle.glyphs.proofs.CellsLaws.{counted-sum}
use Rattle.glyphs.proofs.TableLaws.{glyph-short}
use Rattle.glyphs.proofs.table.Cells.length.Goals as goal

-- at most 64 cells, of eight bytes each at most
pub sum-requires-clause-fits : goal.sum-requires-clause-fits
sum-requires-clause-fits c =
    let cells = c.args.self.now in
    fits_from_length _ _ column_limit (2 ^ 64) (at_most_from_yields_List (YieldsList-from_slice cells.numbers.now cc) cells.few) c.map.ensures.closure (omega arith) (λ x r q k. search (rules, arith, glyph-short))

pub returns : goal.returns
returns c =
    let cells = c.args.self.now in
    counted-sum cells.table.now cells.numbers.now _ (search rules)
