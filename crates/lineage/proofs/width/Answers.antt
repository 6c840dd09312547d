-- The width call by value gives what the lent one promises.
use Rattle.lineage.proofs.LentLaws.{measured}
use Rattle.lineage.proofs.width.Goals as goal

pub returns : goal.returns
returns c = measured _ _ _ _ _ c.copy_entries.ensures c.width.ensures
