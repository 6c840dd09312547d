-- The length of what stands between the row before and this one: the queued line, and the separator.
use native.Mathlib.Omega.{arith}
use Rattle.output.proofs.PutLaws.{queue_long, queue-short}
use Rattle.output.proofs.begin_row_length.Goals as goal

pub overflow_add-result : goal.overflow_add-result
overflow_add-result c = omega (arith, c.flushed_length-flushed.ensures, queue-short c.args.state (queue_long c.args.state.queued_pad_line (omega arith)))
