-- Writes a prefix line so many times, each time with the next message line: the first by its glyphs, the others by the first one's bytes.
use Prim.Native.Nat.{◌<◌, ◌≤◌}
use lib.ListN.{replicate}
use Rattle.glyphs.specs.Tables.{cells_text, first_cells}
use Rattle.text.proofs.RepeatLaws.{Writing}
use Rattle.text.proofs.prefix_lines_to_text.write_repeated.Given as goal

abbrev pub invariant-loop : goal.invariant-loop
invariant-loop l =
    (0 < l.counter) × (l.counter ≤ l.times)
    × Writing l.whole l.message l.start l.fn.out (replicate l.counter (cells_text l.table (first_cells l.cells l.numbers))) l.out (record { length = l.length; measure = l.measure; next = l.next })
