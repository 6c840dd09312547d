-- Each Empty column at the end goes, and the first other one stays.
use mathlib.Core.Path.{sym, ◌∙◌}
use native.Mathlib.Omega.{arith}
use Rattle.column.proofs.Laws.{trim-turn, trim-stop}
use Rattle.row_shape.proofs.trimmed.Goals as goal

pub loop-count-preserved : goal.loop-count-preserved
loop-count-preserved c =
    let w = c.loop-count in (omega (arith, w.invariant.0), trim-turn w.count _ (omega (arith, c.loop-count-test.true)) w.invariant.0 (sym c.is_empty.ensures ∙ c.if-is_empty.true) ∙ w.invariant.1)

pub returns-else-is_empty-clause-left : goal.returns-else-is_empty-clause-left
returns-else-is_empty-clause-left c =
    let w = c.loop-count in trim-stop w.count _ (omega (arith, c.loop-count-test.true)) w.invariant.0 (sym c.is_empty.ensures ∙ c.if-is_empty.false) ∙ w.invariant.1
