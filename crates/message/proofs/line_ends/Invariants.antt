-- How many of a message's lines are ended.
use Prim.Native.Nat.{◌≤◌, ◌+◌}
use mathlib.Core.Path.{◌≡◌}
use lib.ListN.{length}
use Rattle.std.specs.Slice.Iter.{chunks_rest, chunks_size}
use Rattle.message.specs.Inner.{ends, block_length}
use Rattle.message.proofs.line_ends.Given as goal

abbrev pub invariant-loop-block : goal.invariant-loop-block
invariant-loop-block l =
    record { can : (goal.iterator-loop-block).can_next l.block-iterator; finite : (goal.iterator-loop-block).is_finite l.block-iterator; size : chunks_size l.block-iterator ≡ block_length; counted : ends l.message ≡ l.count + ends (chunks_rest l.block-iterator); few : l.count + length (chunks_rest l.block-iterator) ≤ length l.message }
