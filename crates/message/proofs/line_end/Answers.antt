-- Where the line from `start` on ends: at the next 0A, or where the message ends.
use native.Mathlib.Omega.{arith}
use Rattle.message.proofs.MessageLaws.{line-within}
use Rattle.message.proofs.line_end.Goals as goal

pub overflow_add-result : goal.overflow_add-result
overflow_add-result c = omega (arith, c.in-Some.ensures.lookup.0, c.first_line_length.ensures, line-within c.in-Some.rest.now)
