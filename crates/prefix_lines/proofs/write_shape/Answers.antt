-- Writes each line of a shape in its frame: one law for each renderer's table.
use mathlib.Core.Path.{sym, ◌∙◌}
use Rattle.glyphs.specs.Cells.{glyphs_of}
use Rattle.glyphs.proofs.BoxLaws.{box-tables, ascii-tables, large-tables}
use Rattle.prefix_lines.proofs.CallLaws.{drawn-answer}
use Rattle.prefix_lines.proofs.write_shape.Goals as goal

pub returns-in-Ascii : goal.returns-in-Ascii
returns-in-Ascii c =
    let a = c.args in
    drawn-answer a.frame a.shape a.renderer a.mark a.out.now (sym c.is_mark.ensures ∙ c.if-not-is_mark.false) c.if-shape-gt-COLUMN_LIMIT.false _ _ c.drawing_of-drawing.ensures
    (ascii-tables (glyphs_of a.renderer) a.renderer a.mark c.ascii_table-table.result c.in-Ascii.is c.ascii_table-table.ensures) c.write_with.ensures

pub returns-in-AsciiLarge : goal.returns-in-AsciiLarge
returns-in-AsciiLarge c =
    let a = c.args in
    drawn-answer a.frame a.shape a.renderer a.mark a.out.now (sym c.is_mark.ensures ∙ c.if-not-is_mark.false) c.if-shape-gt-COLUMN_LIMIT.false _ _ c.drawing_of-drawing.ensures
    (large-tables (glyphs_of a.renderer) a.renderer a.mark c.large_table-table.result c.in-AsciiLarge.is c.large_table-table.ensures) c.write_with-in-AsciiLarge.ensures

pub returns-in-Square : goal.returns-in-Square
returns-in-Square c =
    let a = c.args in
    drawn-answer a.frame a.shape a.renderer a.mark a.out.now (sym c.is_mark.ensures ∙ c.if-not-is_mark.false) c.if-shape-gt-COLUMN_LIMIT.false _ _ c.drawing_of-drawing.ensures
    (box-tables (glyphs_of a.renderer) a.renderer a.mark c.box_table-table.result c.in-Square.is c.box_table-table.ensures) c.write_with-in-Square.ensures
