-- All turns: those so far went on.
use Rattle.std.proofs.Common.{◌≡◌, length}
use Rattle.record.specs.Record.{record_length}
use Rattle.programs.specs.Inner.{running}
use Rattle.programs.proofs.ProgramLaws.{Reached}
use Rattle.programs.proofs.StreamLaws.{Came}
use Rattle.programs.proofs.run_all.Given as goal

abbrev pub invariant-loop : goal.invariant-loop
invariant-loop g l =
    (length l.bytes ≡ length l.initial.bytes) × (length l.out ≡ length l.initial.out)
    × Reached g.P.Program.step (length l.initial.bytes) l.initial.out (running l.progress l.out)
    × (length l.initial.bytes ≡ record_length
    → Came g.P.Program.step l.initial.out (g.I.Read.remaining l.initial.input) (g.O.Write.contents l.initial.output) (g.I.Read.remaining l.input) (g.O.Write.contents l.output) (running l.progress l.out))
