-- Where a step stops the program, all of it is drawn.
use Rattle.std.proofs.Common.{replicate}
use Rattle.record.specs.Record.{record_length}
use Rattle.steps.specs.Steps.{listing_step}
use Rattle.steps.specs.Files.{listing_room}
use Rattle.programs.specs.Programs.{run_of}
use Rattle.programs.proofs.StreamLaws.{run-draws}
use Rattle.programs.proofs.listing.Goals as goal

pub returns-clause-whole : goal.returns-clause-whole
returns-clause-whole g c = run-draws listing_step record_length (replicate listing_room 0) (run_of c.run.result) _ _ _ _ c.run.ensures.lines
