-- The first entries, as many as there are parents.
use Rattle.std.proofs.Common.{◌≡◌, ◌≤◌, map}
use Rattle.render.specs.Entries.{entry_limit}
use Rattle.record.specs.Record.{entry_of, written_from}
use Rattle.record.specs.Promises.{entries_with}
use Rattle.record.proofs.entries_of.Given as goal

abbrev pub invariant-loop-i : goal.invariant-loop-i
invariant-loop-i l = (l.i ≤ l.i-end) × (l.i-end ≤ entry_limit) × (l.entries ≡ entries_with (map entry_of (written_from l.bytes 0 l.i)))
