-- The length of a row's lines.
use native.Mathlib.Omega.{arith}
use lib.ListN.{get_or}
use Rattle.glyphs.specs.Cells.{all_lines}
use Rattle.glyphs.specs.declared.types.Line.TheVariants.{PreNode}
use Rattle.slices.proofs.JoinLaws.{next-length, so-short}
use Rattle.prefix_lines.specs.Inner.{drawn_line}
use Rattle.prefix_lines.proofs.LineLaws.{line-short}
use Rattle.prefix_lines.proofs.length.lines_length.Goals as goal

pub overflow_add-count : goal.overflow_add-count
overflow_add-count c =
    let a = c.args in
    let l = c.loop-line in
    omega (arith, so-short (drawn_line a.frame a.table.now a.drawing) all_lines l.line-index 516 (line-short a.table.now a.drawing a.frame l.invariant.0), c.line_length-count.ensures, line-short a.table.now a.drawing a.frame l.invariant.0 (get_or all_lines l.line-index PreNode))

pub loop-line-preserved : goal.loop-line-preserved
loop-line-preserved c =
    let a = c.args in
    let l = c.loop-line in
    (l.invariant.0, next-length (drawn_line a.frame a.table.now a.drawing) all_lines l.line-index PreNode c.loop-line-test.true l.invariant.1 c.line_length-count.ensures)
