-- The public row call and the writer of its shape's bytes make what the definition says.
use mathlib.Core.Path.{refl}
use Rattle.render.proofs.RefusalLaws.{number-some}
use Rattle.whole_history.proofs.TurnLaws.{shape-refused, shape-makes, held-row}
use Rattle.whole_history.proofs.LentShapesTurns.make.Goals as goal

pub returns-in_default-clause-makes : goal.returns-in_default-clause-makes
returns-in_default-clause-makes c =
    let e = c.in_default in
    let held = held-row c.args.bytes.now c.entries_of-entries.ensures c.min-count.ensures e.ensures in
    shape-refused _ c.args.bytes.now _ c.id_of.ensures c.entries_of-entries.ensures held c.args.self.now.kept _ (number-some e.field-0)

pub returns-clause-makes : goal.returns-clause-makes
returns-clause-makes c =
    let held = held-row c.args.bytes.now c.entries_of-entries.ensures c.min-count.ensures c.in-Ok.ensures in
    shape-makes _ c.args.bytes.now _ c.id_of.ensures c.entries_of-entries.ensures held c.args.self.now.kept _ refl _ _ c.put_row.ensures
