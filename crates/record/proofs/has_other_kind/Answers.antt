-- Whether one of the first entries has a kind above the highest.
use Rattle.std.proofs.Common.{ltb, get_or, arith, refl, rules, tests, sym, ◌∙◌}
use Rattle.std.proofs.lemmas.Iterator.{YieldsList-from_range}
use Rattle.std.proofs.lemmas.Iterator.Search.{any_from_yields_List}
use Rattle.record.specs.Record.{entry_place, kind_limit}
use Rattle.record.proofs.RecordLaws.{any-range}
use Rattle.record.proofs.has_other_kind.Goals as goal

pub returns : goal.returns
returns c =
    let s = c.args.bytes.now in
    let n = c.args.parents in
    let all = YieldsList-from_range {s = record { start = 0; end = n }} 0 n n refl (omega arith) in
    let found = any_from_yields_List {v = λ x. x} {s = record { start = 0; end = n }} (λ i. ltb kind_limit (get_or s (entry_place i) 0)) _ _ _ c.any.ensures.ran all (λ x b q k. search (rules, tests)) in
    found ∙ sym (any-range s kind_limit 0 n)
