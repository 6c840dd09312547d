-- The next record of the bytes that are left, unless a check refuses it or no bytes are left.
use Rattle.std.proofs.Common.{tests}
use Rattle.record.proofs.RecordLaws.{ended-done, short-done, many-done, kind-done, ready-done}
use Rattle.record.proofs.next_record.Goals as goal

pub returns-then-is_empty : goal.returns-then-is_empty
returns-then-is_empty c = ended-done c.args.left.now (search (c.if-is_empty.ensures, tests))

pub returns-in_default : goal.returns-in_default
returns-in_default c = short-done c.args.left.now (search (c.if-is_empty.ensures, tests)) c.in_default.ensures.cases

pub returns-then-parents-gt-ENTRY_LIMIT : goal.returns-then-parents-gt-ENTRY_LIMIT
returns-then-parents-gt-ENTRY_LIMIT c =
    many-done c.args.left.now (search (c.if-is_empty.ensures, tests)) c.in-Some.bytes.now c.in-Some.ensures.cases _ c.parent_count-parents.ensures c.if-parents-gt-ENTRY_LIMIT.true

pub returns-then-has_other_kind : goal.returns-then-has_other_kind
returns-then-has_other_kind c =
    kind-done c.args.left.now (search (c.if-is_empty.ensures, tests)) c.in-Some.bytes.now c.in-Some.ensures.cases _ c.parent_count-parents.ensures c.if-parents-gt-ENTRY_LIMIT.false c.if-has_other_kind.ensures

pub returns : goal.returns
returns c =
    ready-done c.args.left.now (search (c.if-is_empty.ensures, tests)) c.in-Some.bytes.now c.in-Some.ensures.cases _ c.parent_count-parents.ensures c.if-parents-gt-ENTRY_LIMIT.false c.if-has_other_kind.ensures _
    c.record_of.ensures
