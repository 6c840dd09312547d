-- `draw_listing` meets its contract: the refusals of the row call and of the listing call.
use Rattle.std.proofs.Common.{Err, sym, ◌∙◌}
use Rattle.std.proofs.lemmas.Result.{err_from_is_err_and}
use Rattle.steps.specs.Steps.{listing_row}
use Rattle.steps.proofs.StepLaws.{row-refused, room-refused, record-drawn}
use Rattle.steps.proofs.draw_listing.Goals as goal

pub returns-in_err-given : goal.returns-in_err-given
returns-in_err-given c =
    let a = c.args in
    let d = c.in-Some.decoded in
    let p = err_from_is_err_and c.from_residual-in_err-given.result c.from_residual-in_err-given.ensures.1 in
    rw (p.1, p.2)
    (record-drawn listing_row a.progress a.left.now a.out.now d (rw c.in-Some.is at c.in_ok-decoded.ensures) a.out.now (Err c.in_err-given.field-0.0)
    (row-refused a.progress d a.out.now (sym c.is_mark.ensures ∙ c.if-not-is_mark.false) _ c.in_err-given.ensures))

pub returns-in_err-length : goal.returns-in_err-length
returns-in_err-length c =
    let a = c.args in
    let d = c.in-Some.decoded in
    let p = err_from_is_err_and c.from_residual-in_err-length.result c.from_residual-in_err-length.ensures.1 in
    rw (p.1, p.2)
    (record-drawn listing_row a.progress a.left.now a.out.now d (rw c.in-Some.is at c.in_ok-decoded.ensures) c.write_listing.new.out (Err c.in_err-length.field-0.0)
    (room-refused a.progress d a.out.now (sym c.is_mark.ensures ∙ c.if-not-is_mark.false) c.in_ok-given.given c.in_ok-given.ensures c.write_listing.new.out _ c.in_err-length.ensures))
