-- The first Empty column.
use borrow.Author.Rules.{rules}
use mathlib.Core.Path.{◌∙◌}
use Rattle.column.specs.Columns.{is_empty}
use Rattle.column.proofs.Laws.{first-live}
use Rattle.column.proofs.first_empty.Goals as goal

pub returns : goal.returns
returns c = c.first_free.ensures ∙ first-live is_empty c.live_count.result c.args.count c.args.slots c.live_count.ensures (search rules)
