-- Where a block's first line end is; a block that ends no line is passed over at once.
use mathlib.Core.Path.{sym, ◌∙◌}
use Rattle.message.proofs.MessageLaws.{line-of-none}
use Rattle.message.proofs.end_in.Goals as goal

pub returns-then-ends_of-eq0 : goal.returns-then-ends_of-eq0
returns-then-ends_of-eq0 c = sym (line-of-none c.args.block.now (sym c.ends_of.ensures ∙ c.if-ends_of-eq0.true))
