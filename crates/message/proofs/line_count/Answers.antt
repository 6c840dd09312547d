-- How many lines a message has: those that are ended, and one more unless the last byte ends one.
use mathlib.Core.Path.{refl}
use native.Mathlib.Omega.{arith}
use Rattle.message.proofs.MessageLaws.{count-ended, count-open}
use Rattle.message.proofs.line_count.Goals as goal

pub returns-then-message-n-eq10 : goal.returns-then-message-n-eq10
returns-then-message-n-eq10 c =
    let a = c.args in
    count-ended a.message.now _ _ c.line_ends-count.ensures.0 refl (omega arith) c.if-message-n-eq10.true

pub returns : goal.returns
returns c =
    let a = c.args in
    count-open a.message.now _ _ c.line_ends-count.ensures.0 refl (omega arith) c.if-message-n-eq10.false
