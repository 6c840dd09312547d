-- A message ends before its first zero byte.
use Rattle.std.proofs.Common.{eqb, length, unwrap_or, rules, tests, ap, ◌∙◌}
use Rattle.std.proofs.lemmas.Iterator.{YieldsList-from_slice}
use Rattle.std.proofs.lemmas.Iterator.Search.{position_from_yields_List}
use Rattle.record.proofs.RecordLaws.{message-ends}
use Rattle.record.proofs.message_length.Goals as goal

pub returns : goal.returns
returns c =
    let s = c.args.room.now in
    let found = position_from_yields_List (λ b. eqb b 0) _ _ _ c.position.ensures.ran (YieldsList-from_slice s cc) (λ x b q k. search (rules, tests)) in
    message-ends s _ (c.unwrap_or.ensures ∙ ap (λ o. unwrap_or o (length s)) found)
