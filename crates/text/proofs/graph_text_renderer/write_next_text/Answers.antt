-- `write_next_text` meets its contract: one law for each way out.
use mathlib.Core.Path.{refl, sym, ◌∙◌}
use native.Mathlib.Omega.{arith}
use Rattle.render.proofs.RefusalLaws.{number-some}
use Rattle.text.proofs.CallLaws.{mark-refused, long-refused, byte-refused, row-refused, room-refused, accepted, accepted-width, handed-on}
use Rattle.text.proofs.graph_text_renderer.write_next_text.Goals as goal

pub returns-then-not-is_mark : goal.returns-then-not-is_mark
returns-then-not-is_mark c =
    let a = c.args in
    mark-refused a.shaper a.state a.renderer a.node a.entries a.mark a.message.now a.out.now _ (sym c.is_mark.ensures ∙ c.if-not-is_mark.true) refl

pub returns-then-message-gt-MESSAGE_LIMIT : goal.returns-then-message-gt-MESSAGE_LIMIT
returns-then-message-gt-MESSAGE_LIMIT c =
    let a = c.args in
    long-refused a.shaper a.state a.renderer a.node a.entries a.mark a.message.now a.out.now (sym c.is_mark.ensures ∙ c.if-not-is_mark.false) _ c.if-message-gt-MESSAGE_LIMIT.true refl

pub returns-then-not-are_writable : goal.returns-then-not-are_writable
returns-then-not-are_writable c =
    let a = c.args in
    byte-refused a.shaper a.state a.renderer a.node a.entries a.mark a.message.now a.out.now (sym c.is_mark.ensures ∙ c.if-not-is_mark.false) c.if-message-gt-MESSAGE_LIMIT.false _ (sym c.are_writable.ensures ∙ c.if-not-are_writable.true) refl

pub returns-in_err-given : goal.returns-in_err-given
returns-in_err-given c =
    let a = c.args in
    let good = sym c.is_mark.ensures ∙ c.if-not-is_mark.false in
    let writable = sym c.are_writable.ensures ∙ c.if-not-are_writable.false in
    let e = c.in_err-given in
    row-refused a.shaper a.state a.renderer a.node a.entries a.mark a.message.now a.out.now good c.if-message-gt-MESSAGE_LIMIT.false writable _ e.ensures _ (number-some e.field-0.0)
    (handed-on a.shaper a.state a.renderer a.node a.entries a.mark a.message.now a.out.now c.from_residual.result e.field-0.0 c.from_residual.ensures.1)

pub write_row_text-requires-clause-width_le_column_limit : goal.write_row_text-requires-clause-width_le_column_limit
write_row_text-requires-clause-width_le_column_limit c =
    let a = c.args in
    (accepted-width a.shaper a.node a.entries _ c.in_ok-given.ensures refl, c.if-message-gt-MESSAGE_LIMIT.false, omega (arith, c.min_row_height-height.ensures))

pub returns-in_err-written : goal.returns-in_err-written
returns-in_err-written c =
    let a = c.args in
    let good = sym c.is_mark.ensures ∙ c.if-not-is_mark.false in
    let writable = sym c.are_writable.ensures ∙ c.if-not-are_writable.false in
    let e = c.in_err-written in
    room-refused a.shaper a.state a.renderer a.node a.entries a.mark a.message.now a.out.now good c.if-message-gt-MESSAGE_LIMIT.false writable _ c.in_ok-given.ensures refl c.min_row_height-height.result c.min_row_height-height.ensures _ _ e.ensures _ (number-some e.field-0.0)
    (handed-on a.shaper a.state a.renderer a.node a.entries a.mark a.message.now a.out.now c.from_residual-in_err-written.result e.field-0.0 c.from_residual-in_err-written.ensures.1)

pub returns : goal.returns
returns c =
    let a = c.args in
    let good = sym c.is_mark.ensures ∙ c.if-not-is_mark.false in
    let writable = sym c.are_writable.ensures ∙ c.if-not-are_writable.false in
    accepted a.shaper a.state a.renderer a.node a.entries a.mark a.message.now a.out.now good c.if-message-gt-MESSAGE_LIMIT.false writable _ c.in_ok-given.ensures refl c.min_row_height-height.result c.min_row_height-height.ensures _ _ c.in_ok-written.ensures _ refl refl
