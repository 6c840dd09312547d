-- The length of the first line.
use Prim.Native.Nat.{◌+◌}
use mathlib.Core.Path.{◌≡◌}
use lib.ListN.{length}
use Rattle.std.specs.Slice.Iter.{chunks_rest, chunks_size}
use Rattle.message.specs.Inner.{block_length}
use Rattle.message.specs.Message.{line_length}
use Rattle.message.proofs.first_line_length.Given as goal

abbrev pub invariant-loop-block : goal.invariant-loop-block
invariant-loop-block l =
    record { can : (goal.iterator-loop-block).can_next l.block-iterator; finite : (goal.iterator-loop-block).is_finite l.block-iterator; size : chunks_size l.block-iterator ≡ block_length; passed : line_length l.bytes ≡ l.passed + line_length (chunks_rest l.block-iterator); few : l.passed + length (chunks_rest l.block-iterator) ≡ length l.bytes }
