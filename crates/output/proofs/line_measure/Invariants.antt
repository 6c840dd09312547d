-- The measure of a finished line.
use mathlib.Core.Path.{◌≡◌}
use Prim.Native.Nat.{◌+◌, ◌-◌}
use lib.ListN.{length, drop}
use Rattle.output.specs.Measure.{measure_from, measure_of}
use Rattle.output.proofs.line_measure.Given as goal

abbrev pub invariant-loop-i : goal.invariant-loop-i
invariant-loop-i l = measure_of l.line ≡ l.measure + measure_from 0 (drop l.i l.line)

abbrev pub decreases-loop-i : goal.decreases-loop-i
decreases-loop-i l = length l.line - l.i
