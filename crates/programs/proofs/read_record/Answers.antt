-- One read more.
use Rattle.std.proofs.Common.{rules, subst}
use Rattle.std.specs.Io.KnownBytes.{Consumes}
use Rattle.std.proofs.KnownBytes.{Consumes-trans}
use Rattle.programs.proofs.StreamLaws.{read-more}
use Rattle.programs.proofs.read_record.Goals as goal

pub loop-at-preserved : goal.loop-at-preserved
loop-at-preserved g c =
    (search rules, search rules, subst (Consumes _ _) (read-more _ _ c.in_ok-count.count _ _ c.loop-at.invariant.1 c.in_ok-count.ensures.bound.0) (Consumes-trans _ _ _ _ _ c.loop-at.invariant.2 c.in_ok-count.ensures.bytes.0))
