-- The lengths of a prefix line.
use Rattle.glyphs.specs.Tables.{cells_text, first_cells}
use Rattle.text.proofs.TextLineLaws.{lengths-done}
use Rattle.text.proofs.lines.lengths_of.Goals as goal

pub returns : goal.returns
returns c =
    let a = c.args in
    lengths-done (cells_text a.table.now (first_cells a.cells a.numbers.now)) _ _ c.cells_length-all.ensures c.trailing_blanks.ensures
