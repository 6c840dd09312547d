-- The text call makes what the definition says.
use mathlib.Core.Path.{refl}
use borrow.Author.Rules.{rules}
use Rattle.render.proofs.RefusalLaws.{number-some}
use Rattle.whole_history.proofs.TurnLaws.{text-refused, text-makes}
use Rattle.whole_history.proofs.TextsTurns.make.Goals as goal

pub returns-in_default-clause-makes : goal.returns-in_default-clause-makes
returns-in_default-clause-makes c =
    let e = c.in_default in
    text-refused _ c.args.self.now.state _ c.args.bytes.now _ _ _ _ (search rules) c.entries_of.ensures (search rules) e.ensures (number-some e.field-0)

pub returns-clause-makes : goal.returns-clause-makes
returns-clause-makes c = text-makes _ c.args.self.now.state _ c.args.bytes.now _ _ _ _ (search rules) c.entries_of.ensures (search rules) c.in-Ok.ensures refl
