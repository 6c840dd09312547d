-- The row call by value gives what the lent one promises.
use Rattle.std.proofs.lemmas.Result.{err_from_is_err_and}
use Rattle.lineage.proofs.LentLaws.{rowed}
use Rattle.lineage.proofs.row.Goals as goal

pub returns-in_err-next : goal.returns-in_err-next
returns-in_err-next c =
    let p = err_from_is_err_and c.from_residual.result c.from_residual.ensures.1 in
    rw (p.1, p.2) (rowed _ _ _ _ _ c.copy_entries.ensures (rw c.in_err-next.was at c.next_row_shape.ensures))

pub returns : goal.returns
returns c = rowed _ _ _ _ _ c.copy_entries.ensures (rw c.in_ok-next.was at c.next_row_shape.ensures)
