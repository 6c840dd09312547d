-- The text state after a row whose foot line waits.
use mathlib.Core.Path.{◌≡◌, refl}
use lib.ListN.{length}
use borrow.Author.Rules.{rules}
use Rattle.glyphs.proofs.CellsLaws.{cells-few}
use Rattle.glyphs.proofs.ChoiceLaws.{chosen-all}
use Rattle.output.proofs.PutLaws.{queue_long}
use Rattle.text.proofs.RowTextLaws.{foot-queued}
use Rattle.text.proofs.row_lines.RowLines.queue_foot_line.Goals as goal

pub returns : goal.returns
returns c =
    let a = c.args in
    let d = c.choose_cells-cells in
    let long : length a.state.queued_pad_line ≡ 512 = search rules in
    foot-queued a.self.now.table.now a.self.now.drawing a.state.queued_pad_line _ _ _ _ (queue_long a.state.queued_pad_line long) (cells-few a.self.now.table.now d.new.numbers d.result) (chosen-all d.ensures refl) c.write_cells-queued_length.ensures
