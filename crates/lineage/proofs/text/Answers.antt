-- The text call by value gives what the lent one promises.
use Rattle.std.proofs.lemmas.Result.{err_from_is_err_and}
use Rattle.lineage.proofs.LentLaws.{written}
use Rattle.lineage.proofs.text.Goals as goal

pub returns-in_err-given : goal.returns-in_err-given
returns-in_err-given c =
    let p = err_from_is_err_and c.from_residual.result c.from_residual.ensures.1 in
    rw (p.1, p.2) (written _ _ _ _ _ c.copy_entries-copied.result _ _ _ _ _ c.copy_entries-copied.ensures (rw c.in_err-given.was at c.write_next_text.ensures))

pub returns : goal.returns
returns c = written _ _ _ _ _ c.copy_entries-copied.result _ _ _ _ _ c.copy_entries-copied.ensures (rw c.in_ok-given.was at c.write_next_text.ensures)
