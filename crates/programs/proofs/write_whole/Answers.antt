-- One write more.
use Rattle.std.proofs.Common.{rules, subst}
use Rattle.std.specs.Io.KnownBytes.{Appends}
use Rattle.std.proofs.KnownBytes.{Appends-trans}
use Rattle.programs.proofs.StreamLaws.{write-more}
use Rattle.programs.proofs.write_whole.Goals as goal

pub loop-at-preserved : goal.loop-at-preserved
loop-at-preserved g c =
    (search rules, subst (Appends _ _) (write-more _ c.in_ok-count.count _) (Appends-trans _ _ _ _ _ c.loop-at.invariant.1 c.in_ok-count.ensures.bytes))
