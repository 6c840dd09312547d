-- The length of a row's lines with its message.
use mathlib.Core.Path.{refl, ap, ◌∙◌}
use Prim.Native.Nat.{◌≤◌}
use native.Mathlib.Omega.{arith}
use lib.ListN.{get_or}
use Rattle.glyphs.specs.declared.types.Line.{Line}
use Rattle.glyphs.specs.declared.types.Line.TheVariants.{PreNode}
use Rattle.glyphs.specs.Cells.{all_lines}
use Rattle.glyphs.specs.Tables.{numbers_in, cells_text, first_cells}
use Rattle.glyphs.proofs.CellsLaws.{all_short}
use Rattle.glyphs.proofs.ChoiceLaws.{chosen-all}
use Rattle.message.proofs.MessageLaws.{trim-length}
use Rattle.text.specs.Inner.{line_times}
use Rattle.text.proofs.RepeatLaws.{plan-short, none_more, row-counted, row-short, repeated-short}
use Rattle.text.proofs.row_lines.RowLines.length.Goals as goal

pub loop-line-preserved-then-times-eq0 : goal.loop-line-preserved-then-times-eq0
loop-line-preserved-then-times-eq0 c =
    let l = c.loop-line in
    let a = c.args in (
      l.invariant.0,
      rw (none_more (λ (x : Line). cells_text a.self.now.table.now (numbers_in a.self.now.table.now a.self.now.drawing x)) (line_times a.self.now.plan a.self.now.drawing.renderer a.self.now.drawing.row) all_lines l.line-index PreNode (omega arith)
          (get_or all_lines c.loop-line.line-index PreNode) c.times-times.result refl c.times-times.ensures c.if-times-eq0.true) l.invariant.1,
    )

pub repeated_length-put-requires : goal.repeated_length-put-requires
repeated_length-put-requires c =
    let a = c.args in
    let d = c.choose_cells-cells in
    let m = c.lengths_of-lengths.ensures in
    let t = c.times-times in
    let g = c.loop-line.invariant.1 in
    let few = all_short a.self.now.table.now d.new.numbers d.result in
    let often : t.result ≤ 512 = rw t.ensures (plan-short a.self.now.plan a.self.now.drawing.renderer a.self.now.drawing.row a.self.now.needed_bound (get_or all_lines c.loop-line.line-index PreNode)) in (
      omega (arith, m.all, few),
      omega (arith, m.all, m.finished, trim-length (cells_text a.self.now.table.now (first_cells d.result d.new.numbers))),
      g.few,
      g.counts.within,
      often,
    )

pub overflow_add-length : goal.overflow_add-length
overflow_add-length c =
    let a = c.args in
    let d = c.choose_cells-cells in
    let t = c.times-times in
    let l = c.loop-line in
    let few = all_short a.self.now.table.now d.new.numbers d.result in
    let often : t.result ≤ 512 = rw t.ensures (plan-short a.self.now.plan a.self.now.drawing.renderer a.self.now.drawing.row a.self.now.needed_bound (get_or all_lines c.loop-line.line-index PreNode)) in
    omega (
      arith,
      row-short (λ (x : Line). cells_text a.self.now.table.now (numbers_in a.self.now.table.now a.self.now.drawing x)) (line_times a.self.now.plan a.self.now.drawing.renderer a.self.now.drawing.row) all_lines l.line-index a.self.now.message.now _ l.invariant.1 (plan-short a.self.now.plan a.self.now.drawing.renderer a.self.now.drawing.row a.self.now.needed_bound) (omega arith),
      repeated-short a.self.now.message.now _ t.result l.next c.repeated_length-put.result l.invariant.1.few few often (c.repeated_length-put.ensures _ c.lengths_of-lengths.ensures),
    )

pub loop-line-preserved : goal.loop-line-preserved
loop-line-preserved c =
    let a = c.args in
    let d = c.choose_cells-cells in
    let t = c.times-times in
    let l = c.loop-line in (
      d.auto.numbers ∙ l.invariant.0,
      row-counted (λ (x : Line). cells_text a.self.now.table.now (numbers_in a.self.now.table.now a.self.now.drawing x)) (line_times a.self.now.plan a.self.now.drawing.renderer a.self.now.drawing.row) all_lines l.line-index a.self.now.message.now _ l.invariant.1
          PreNode (omega arith) (get_or all_lines c.loop-line.line-index PreNode) t.result refl t.ensures _ (all_short a.self.now.table.now d.new.numbers d.result)
          (ap (cells_text a.self.now.table.now) (chosen-all d.ensures l.invariant.0)) c.repeated_length-put.result _ (c.repeated_length-put.ensures _ c.lengths_of-lengths.ensures) refl refl,
    )
