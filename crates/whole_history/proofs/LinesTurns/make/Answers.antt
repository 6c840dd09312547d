-- The row call and the renderer call on its shape make what the definition says.
use mathlib.Core.Path.{refl}
use Rattle.render.proofs.RefusalLaws.{number-some}
use Rattle.whole_history.proofs.TurnLaws.{row-refused, lines-make}
use Rattle.whole_history.proofs.LinesTurns.make.Goals as goal

pub returns-in_default-clause-makes : goal.returns-in_default-clause-makes
returns-in_default-clause-makes c =
    let e = c.in_default in
    row-refused _ c.args.bytes.now _ c.id_of.ensures c.entries_of.ensures e.ensures c.args.self.now.renderer _ (number-some e.field-0)

pub returns-clause-makes : goal.returns-clause-makes
returns-clause-makes c =
    lines-make _ c.args.bytes.now _ c.id_of.ensures c.entries_of.ensures c.in-Ok.ensures c.args.self.now.renderer _ refl c.mark_of.ensures _ c.next_prefix_lines.result c.next_prefix_lines.ensures _ c.ok.ensures.value
