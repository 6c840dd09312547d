-- Writes a row's lines with its message, the glyphs of each chosen once.
use mathlib.Core.Path.{refl, ap, ◌∙◌}
use native.Mathlib.Omega.{arith}
use lib.ListN.{get_or}
use Rattle.glyphs.specs.declared.types.Line.{Line}
use Rattle.glyphs.specs.declared.types.Line.TheVariants.{PreNode}
use Rattle.glyphs.specs.Cells.{all_lines}
use Rattle.glyphs.specs.Tables.{numbers_in, cells_text}
use Rattle.glyphs.proofs.ChoiceLaws.{chosen-all}
use Rattle.text.specs.Inner.{line_times}
use Rattle.text.proofs.RepeatLaws.{plan-short, none_more, next_fits, next-written}
use Rattle.text.proofs.row_lines.RowLines.write.Goals as goal

pub loop-line-preserved-then-times-eq0 : goal.loop-line-preserved-then-times-eq0
loop-line-preserved-then-times-eq0 c =
    let l = c.loop-line in
    let a = c.args in (
      l.invariant.0,
      rw (none_more (λ (x : Line). cells_text a.self.now.table.now (numbers_in a.self.now.table.now a.self.now.drawing x)) (line_times a.self.now.plan a.self.now.drawing.renderer a.self.now.drawing.row) all_lines l.line-index PreNode (omega arith)
          (get_or all_lines c.loop-line.line-index PreNode) c.times-times.result refl c.times-times.ensures c.if-times-eq0.true) l.invariant.1,
    )

pub write_repeated-put-requires-clause-message_len_bound : goal.write_repeated-put-requires-clause-message_len_bound
write_repeated-put-requires-clause-message_len_bound c =
    let a = c.args in
    let t = c.times-times in
    (a.self.now.message_bound, c.loop-line.invariant.1.rows.within, omega arith, rw t.ensures (plan-short a.self.now.plan a.self.now.drawing.renderer a.self.now.drawing.row a.self.now.needed_bound (get_or all_lines c.loop-line.line-index PreNode)), c.prefix_measure-whole.ensures.1)

pub write_repeated-put-requires-clause-message_in_bounds : goal.write_repeated-put-requires-clause-message_in_bounds
write_repeated-put-requires-clause-message_in_bounds c =
    let l = c.loop-line in
    let a = c.args in
    let d = c.choose_cells-cells in
    (next_fits (λ (x : Line). cells_text a.self.now.table.now (numbers_in a.self.now.table.now a.self.now.drawing x)) (line_times a.self.now.plan a.self.now.drawing.renderer a.self.now.drawing.row) all_lines l.line-index PreNode (omega arith)
    (get_or all_lines c.loop-line.line-index PreNode) c.times-times.result refl c.times-times.ensures _ (ap (cells_text a.self.now.table.now) (chosen-all d.ensures l.invariant.0))
    a.self.now.message.now a.out.now l.out _ c.prefix_measure-whole.result l.invariant.1 c.requires).1

pub loop-line-preserved : goal.loop-line-preserved
loop-line-preserved c =
    let l = c.loop-line in
    let a = c.args in
    let d = c.choose_cells-cells in
    let w = c.write_repeated-put in (
      d.auto.numbers ∙ l.invariant.0,
      next-written (λ (x : Line). cells_text a.self.now.table.now (numbers_in a.self.now.table.now a.self.now.drawing x)) (line_times a.self.now.plan a.self.now.drawing.renderer a.self.now.drawing.row) all_lines l.line-index PreNode (omega arith)
          (get_or all_lines c.loop-line.line-index PreNode) c.times-times.result refl c.times-times.ensures _ (ap (cells_text a.self.now.table.now) (chosen-all d.ensures l.invariant.0))
          a.self.now.message.now a.out.now l.out _ c.prefix_measure-whole.result l.invariant.1 c.requires _ w.result _ w.ensures w.auto.out refl c.max-measure.ensures refl,
    )
