-- Writes a line in its frame, where the row has it, and gives the count of its bytes.
use mathlib.Core.Path.{◌≡◌, sym, ◌∙◌}
use mathlib.Core.Bool.{true}
use Rattle.glyphs.specs.Cells.{is_present}
use Rattle.glyphs.specs.Tables.{first_cells, numbers_in}
use Rattle.glyphs.proofs.ChoiceLaws.{chosen-all}
use Rattle.prefix_lines.proofs.LineLaws.{absent, opening-fits, closing-fits, line-done}
use Rattle.prefix_lines.proofs.writer.write_line.Goals.{After-choose_cells-cells, Else-not-is_present}
use Rattle.prefix_lines.proofs.writer.write_line.Goals as goal

-- the row has the line
shown : (c : Else-not-is_present) → is_present c.args.drawing.renderer c.args.drawing.row c.args.line ≡ true
shown c = sym c.is_present.ensures ∙ c.if-not-is_present.false

-- each cell's number was chosen
chosen : (c : After-choose_cells-cells)
    → first_cells c.choose_cells-cells.result c.choose_cells-cells.new.numbers ≡ numbers_in c.args.table.now c.args.drawing c.args.line
chosen c = chosen-all c.choose_cells-cells.ensures c.requires.numbers_len

pub returns-then-not-is_present : goal.returns-then-not-is_present
returns-then-not-is_present c =
    let a = c.args in
    let e = absent a.frame a.table.now a.drawing a.line (sym c.is_present.ensures ∙ c.if-not-is_present.true) in
    (rw e, rw e)

pub write_opening-start-requires : goal.write_opening-start-requires
write_opening-start-requires c =
    let a = c.args in
    opening-fits a.frame a.table.now a.drawing a.line a.out.now (shown (goal.at.write_opening-start-requires c).Else-not-is_present) c.requires.line_in_bounds

pub write_closing-requires : goal.write_closing-requires
write_closing-requires c =
    let a = c.args in
    let at = goal.at.write_closing-requires c in
    let w = c.write_opening-start in
    closing-fits a.frame a.table.now a.drawing a.line a.out.now (shown at.Else-not-is_present) c.requires.line_in_bounds w.ensures w.auto.out (chosen at.After-choose_cells-cells)
    c.closing_length-behind.ensures c.write_cells.ensures c.write_cells.auto.out

pub returns : goal.returns
returns c =
    let a = c.args in
    let at = goal.at.returns c in
    let w = c.write_opening-start in
    line-done a.frame a.table.now a.drawing a.line a.out.now (shown at.Else-not-is_present) c.requires.line_in_bounds w.ensures w.auto.out (chosen at.After-choose_cells-cells)
    c.closing_length-behind.ensures c.write_cells.ensures c.write_cells.auto.out c.write_closing.ensures
