-- The length of a prefix line written so many times, each time with the next message line.
use mathlib.Core.Path.{refl}
use Prim.Native.Nat.{◌≤◌}
use native.Mathlib.Omega.{arith}
use lib.ListN.{length}
use Rattle.text.proofs.RepeatLaws.{counting-next, counting-short, line-counted, part-within, part-short}
use Rattle.text.proofs.prefix_lines_to_text.repeated_length.Goals.{After-line_end-end}
use Rattle.text.proofs.prefix_lines_to_text.repeated_length.Goals as goal

within : (c : After-line_end-end) → (c.loop.next ≤ c.line_end-end.result) × (c.line_end-end.result ≤ length c.args.message.now)
within c =
    let l = c.loop in
    part-within c.args.message.now l.next c.line_end-end.result l.invariant.1.within c.line_end-end.ensures

pub slice_bounds-text_line_length-end : goal.slice_bounds-text_line_length-end
slice_bounds-text_line_length-end c = (within c).1

pub overflow_add-length : goal.overflow_add-length
overflow_add-length c =
    let l = c.loop in
    let a = c.args in
    omega (
      arith,
      c.requires.2,
      c.requires.4,
      l.invariant.0,
      counting-short a.lengths a.message.now a.start l.counter _ l.invariant.1 c.requires.1 c.requires.0,
      line-counted a.lengths _ c.text_line_length-length.result c.requires.1 c.requires.0 (omega (arith, c.requires.2, part-short a.message.now l.next c.line_end-end.result)) c.text_line_length-length.ensures,
    )

pub loop-preserved : goal.loop-preserved
loop-preserved c =
    let l = c.loop in
    let a = c.args in
    (omega arith, counting-next a.lengths a.message.now a.start l.counter _ l.invariant.1 c.text_line_length-length.result c.line_end-end.result _ c.line_end-end.ensures c.text_line_length-length.ensures refl c.next_start-next.ensures)
