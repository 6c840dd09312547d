-- The column that holds an entry's id.
use borrow.Author.Rules.{rules}
use mathlib.Core.Path.{◌∙◌}
use Rattle.placing.proofs.PlacingLaws.{held-live}
use Rattle.placing.proofs.held_by.Goals as goal

pub returns : goal.returns
returns c = c.first_holding.ensures ∙ held-live c.live_count.result c.args.count c.args.slots c.args.ancestor c.live_count.ensures (search rules)
