-- The row call and the writer of its shape's bytes make what the definition says.
use mathlib.Core.Path.{refl}
use Rattle.render.proofs.RefusalLaws.{number-some}
use Rattle.whole_history.proofs.TurnLaws.{shape-refused, shape-makes}
use Rattle.whole_history.proofs.ShapesTurns.make.Goals as goal

pub returns-in_default-clause-makes : goal.returns-in_default-clause-makes
returns-in_default-clause-makes c =
    let e = c.in_default in
    shape-refused _ c.args.bytes.now _ c.id_of.ensures c.entries_of.ensures e.ensures c.args.self.now.kept _ (number-some e.field-0)

pub returns-clause-makes : goal.returns-clause-makes
returns-clause-makes c = shape-makes _ c.args.bytes.now _ c.id_of.ensures c.entries_of.ensures c.in-Ok.ensures c.args.self.now.kept _ refl _ _ c.put_row.ensures
