-- The preview by value gives what the lent one promises.
use Rattle.lineage.proofs.LentLaws.{previewed}
use Rattle.lineage.proofs.preview.Goals as goal

pub returns : goal.returns
returns c = previewed _ _ _ c.copy_entries.result _ c.copy_entries.ensures c.preview.ensures
