-- The length of a line in its frame; 0 where the row has none.
use mathlib.Core.Path.{sym, ap, ◌∙◌}
use native.Mathlib.Omega.{arith}
use lib.ListN.{length}
use Rattle.glyphs.proofs.ChoiceLaws.{chosen-all}
use Rattle.prefix_lines.proofs.LineLaws.{absent, line-counted, few-counted}
use borrow.Author.Rules.{rules}
use Rattle.prefix_lines.proofs.length.line_length.Goals as goal

pub returns-then-not-is_present : goal.returns-then-not-is_present
returns-then-not-is_present c =
    let a = c.args in
    sym (ap length (absent a.frame a.table.now a.drawing a.line (sym c.is_present.ensures ∙ c.if-not-is_present.true)))

pub overflow_add-result : goal.overflow_add-result
overflow_add-result c =
    let a = c.args in
    let chosen = c.choose_cells-cells.ensures in
    omega (arith, few-counted a.frame a.table.now (chosen-all chosen (search rules)) chosen.few c.cells_length.ensures c.frame_length.ensures)

pub returns : goal.returns
returns c =
    let a = c.args in
    line-counted a.frame a.table.now a.drawing a.line (sym c.is_present.ensures ∙ c.if-not-is_present.false) (chosen-all c.choose_cells-cells.ensures (search rules)) c.cells_length.ensures c.frame_length.ensures
