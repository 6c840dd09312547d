-- The length of a prefix line written so many times, each time with the next message line.
use Prim.Native.Nat.{◌≤◌}
use Rattle.text.proofs.RepeatLaws.{Counting}
use Rattle.text.proofs.prefix_lines_to_text.repeated_length.Given as goal

abbrev pub invariant-loop : goal.invariant-loop
invariant-loop l = (l.counter ≤ l.times) × Counting l.lengths l.message l.start l.counter (record { length = l.length; next = l.next })
