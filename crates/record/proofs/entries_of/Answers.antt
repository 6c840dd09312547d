-- The first entries, as many as there are parents.
use Rattle.std.proofs.Common.{arith, rules}
use Rattle.record.proofs.RecordLaws.{entries_next}
use Rattle.record.proofs.entries_of.Goals as goal

pub loop-i-preserved : goal.loop-i-preserved
loop-i-preserved c =
    let l = c.loop-i in
    (search rules, search rules, entries_next c.args.bytes.now l.i l.invariant.2 c.entry_at.ensures c.push-entries.ensures (omega arith))
