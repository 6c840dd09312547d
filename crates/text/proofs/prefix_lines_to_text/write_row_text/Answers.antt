-- Writes a row's text, if the output has room for it (`write_next_text`).
use mathlib.Core.Path.{◌≡◌}
use lib.ListN.{length}
use borrow.Author.Rules.{rules}
use Rattle.glyphs.specs.Cells.{glyphs_of}
use Rattle.glyphs.proofs.BoxLaws.{box-tables, ascii-tables, large-tables}
use Rattle.glyphs.proofs.ChoiceLaws.{cells-long}
use Rattle.text.specs.Inner.{row_text_from}
use Rattle.text.proofs.RowTextLaws.{plan-small, texts}
use Rattle.text.proofs.prefix_lines_to_text.write_row_text.Goals as goal

pub invariant_of-lines : goal.invariant_of-lines
invariant_of-lines c =
    let a = c.args in
    let d = c.drawing_of-drawing in
    let w = c.requires.width_le_column_limit in
    let k = plan-small a.state a.renderer a.shape a.mark a.message.now a.height d.result d.ensures c.line_count.result c.line_count.ensures c.plan_of-plan.result c.plan_of-plan.ensures w.0 w.1 w.2 in
    record { width_bound = k.0.0; message_bound = k.0.1; fixed_bound = k.0.2; needed_bound = k.0.3; fixed_value = k.1 }

pub invariant_of-lines-in-AsciiLarge : goal.invariant_of-lines-in-AsciiLarge
invariant_of-lines-in-AsciiLarge c =
    let a = c.args in
    let d = c.drawing_of-drawing in
    let w = c.requires.width_le_column_limit in
    let k = plan-small a.state a.renderer a.shape a.mark a.message.now a.height d.result d.ensures c.line_count.result c.line_count.ensures c.plan_of-plan.result c.plan_of-plan.ensures w.0 w.1 w.2 in
    record { width_bound = k.0.0; message_bound = k.0.1; fixed_bound = k.0.2; needed_bound = k.0.3; fixed_value = k.1 }

pub invariant_of-lines-in-Square : goal.invariant_of-lines-in-Square
invariant_of-lines-in-Square c =
    let a = c.args in
    let d = c.drawing_of-drawing in
    let w = c.requires.width_le_column_limit in
    let k = plan-small a.state a.renderer a.shape a.mark a.message.now a.height d.result d.ensures c.line_count.result c.line_count.ensures c.plan_of-plan.result c.plan_of-plan.ensures w.0 w.1 w.2 in
    record { width_bound = k.0.0; message_bound = k.0.1; fixed_bound = k.0.2; needed_bound = k.0.3; fixed_value = k.1 }

pub returns-in-Ascii : goal.returns-in-Ascii
returns-in-Ascii c =
    let a = c.args in
    let d = c.drawing_of-drawing in
    let long : length a.shape.cells ≡ 64 = search rules in
    let r = c.requires.mark_value in
    texts a.state a.renderer a.shape a.mark a.message.now a.height d.result d.ensures c.line_count.result c.line_count.ensures c.plan_of-plan.result c.plan_of-plan.ensures _
    (ascii-tables (glyphs_of a.renderer) a.renderer a.mark c.ascii_table-table.result c.in-Ascii.is c.ascii_table-table.ensures) r.0 (cells-long a.shape.cells long) r.1 _ _ (row_text_from a.state c.write_text.result) c.write_text.ensures

pub returns-in-AsciiLarge : goal.returns-in-AsciiLarge
returns-in-AsciiLarge c =
    let a = c.args in
    let d = c.drawing_of-drawing in
    let long : length a.shape.cells ≡ 64 = search rules in
    let r = c.requires.mark_value in
    texts a.state a.renderer a.shape a.mark a.message.now a.height d.result d.ensures c.line_count.result c.line_count.ensures c.plan_of-plan.result c.plan_of-plan.ensures _
    (large-tables (glyphs_of a.renderer) a.renderer a.mark c.large_table-table.result c.in-AsciiLarge.is c.large_table-table.ensures) r.0 (cells-long a.shape.cells long) r.1 _ _ (row_text_from a.state c.write_text-in-AsciiLarge.result) c.write_text-in-AsciiLarge.ensures

pub returns-in-Square : goal.returns-in-Square
returns-in-Square c =
    let a = c.args in
    let d = c.drawing_of-drawing in
    let long : length a.shape.cells ≡ 64 = search rules in
    let r = c.requires.mark_value in
    texts a.state a.renderer a.shape a.mark a.message.now a.height d.result d.ensures c.line_count.result c.line_count.ensures c.plan_of-plan.result c.plan_of-plan.ensures _
    (box-tables (glyphs_of a.renderer) a.renderer a.mark c.box_table-table.result c.in-Square.is c.box_table-table.ensures) r.0 (cells-long a.shape.cells long) r.1 _ _ (row_text_from a.state c.write_text-in-Square.result) c.write_text-in-Square.ensures
