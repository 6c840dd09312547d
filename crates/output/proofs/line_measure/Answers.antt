-- The measure of a finished line.
use mathlib.Core.Path.{refl, sym, ◌∙◌}
use native.Mathlib.Omega.{arith}
use Rattle.output.specs.Measure.{measure_of}
use Rattle.output.proofs.MeasureLaws.{measure-short, over_plain, over-cell}
use Rattle.output.proofs.line_measure.Goals as goal

pub loop-i-init : goal.loop-i-init
unfolding measure_of
loop-i-init c = omega arith

pub overflow_add-measure : goal.overflow_add-measure
overflow_add-measure c =
    let s = c.args.line.now in
    omega (arith, measure-short s, over_plain s c.loop-i.i c.loop-i.measure c.loop-i.invariant c.loop-i-test.true (sym c.begins_more.ensures ∙ c.if-not-begins_more.true))

pub overflow_add-measure-in-loop-i : goal.overflow_add-measure-in-loop-i
overflow_add-measure-in-loop-i c =
    let s = c.args.line.now in
    omega (arith, measure-short s, over-cell s c.loop-i.i c.loop-i.measure c.loop-i.invariant c.loop-i-test.true c.byte_at-b.ensures c.byte_at-c.ensures c.is_shift.ensures c.if-is_shift.false _ refl)

pub loop-i-preserved : goal.loop-i-preserved
loop-i-preserved c =
    over-cell c.args.line.now c.loop-i.i c.loop-i.measure c.loop-i.invariant c.loop-i-test.true c.byte_at-b.ensures c.byte_at-c.ensures c.is_shift.ensures c.if-is_shift.false _ c.cell_length-i.ensures
