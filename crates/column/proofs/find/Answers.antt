-- The first column that holds the id.
use borrow.Author.Rules.{rules}
use mathlib.Core.Path.{◌∙◌}
use Rattle.column.specs.Columns.{holds}
use Rattle.column.proofs.Laws.{first-live}
use Rattle.column.proofs.find.Goals as goal

pub returns : goal.returns
returns c = c.first_holding.ensures ∙ first-live (holds c.args.node) c.live_count.result c.args.count c.args.slots c.live_count.ensures (search rules)
