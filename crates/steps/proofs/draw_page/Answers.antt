-- `draw_page` meets its contract: the text call's refusals, and a row that is drawn.
use Rattle.std.proofs.Common.{Ok, Err, Some, arith}
use Rattle.std.proofs.lemmas.Result.{err_from_is_err_and}
use Rattle.steps.specs.Steps.{page_row}
use Rattle.steps.proofs.StepLaws.{page-refused, page-drawn, record-drawn}
use Rattle.steps.proofs.draw_page.Goals as goal

pub returns-in_err-given : goal.returns-in_err-given
returns-in_err-given c =
    let a = c.args in
    let d = c.in-Some.decoded in
    let p = err_from_is_err_and c.from_residual-in_err-given.result c.from_residual-in_err-given.ensures.1 in
    rw (p.1, p.2)
    (record-drawn page_row a.progress a.left.now a.out.now d (rw c.in-Some.is at c.in_ok-decoded.ensures) c.write_next_text.new.out (Err c.in_err-given.field-0.0)
    (page-refused a.progress d a.out.now c.write_next_text.new.out _ c.in_err-given.ensures))

pub returns : goal.returns
returns c =
    let a = c.args in
    let d = c.in-Some.decoded in
    let n = c.in_ok-given.given in
    let k = c.saturating_add.result in
    record-drawn page_row a.progress a.left.now a.out.now d (rw c.in-Some.is at c.in_ok-decoded.ensures) c.write_next_text.new.out (Ok (record { length = n.length; next = Some (record { shaper = n.shaper; state = n.state; number = k }) }))
    (page-drawn a.progress d a.out.now c.write_next_text.new.out n k (omega (arith, c.saturating_add.ensures)) c.in_ok-given.ensures)
