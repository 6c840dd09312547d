-- The length of a line without the blanks at its end (`trim_end`).
use native.Mathlib.Omega.{arith}
use Rattle.message.proofs.MessageLaws.{trim-counted, trim-by-count}
use Rattle.message.proofs.trimmed_length.Goals as goal

pub overflow_sub-result : goal.overflow_sub-result
overflow_sub-result c = omega (arith, c.blanks_at_end.ensures, trim-counted c.args.line.now)

pub returns : goal.returns
returns c = trim-by-count c.args.line.now c.blanks_at_end.result c.blanks_at_end.ensures
