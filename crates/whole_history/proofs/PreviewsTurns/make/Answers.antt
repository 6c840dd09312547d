-- The preview and the writer of its bytes make what the definition says.
use mathlib.Core.Path.{◌≡◌, refl}
use borrow.Author.Rules.{rules}
use lib.ListN.{length}
use Rattle.column.specs.Columns.{column_limit}
use Rattle.shaper.proofs.Laws.{slots-long}
use Rattle.render.proofs.RefusalLaws.{number-some}
use Rattle.whole_history.proofs.TurnLaws.{preview-refused, preview-makes}
use Rattle.whole_history.proofs.PreviewsTurns.make.Goals as goal

pub returns-in_default-clause-makes : goal.returns-in_default-clause-makes
returns-in_default-clause-makes c =
    let e = c.in_default in
    preview-refused _ c.args.bytes.now _ c.id_of.ensures c.entries_of.ensures e.ensures _ (number-some e.field-0)

pub returns-clause-makes : goal.returns-clause-makes
returns-clause-makes c =
    let long : length c.in-Ok.given.slots ≡ column_limit = search (rules, slots-long) in
    preview-makes _ c.args.bytes.now _ c.id_of.ensures c.entries_of.ensures c.in-Ok.ensures _ refl long c.preview_bytes.ensures _ _ c.put.ensures
