-- How many of a block's bytes end a line.
use mathlib.Core.Path.{◌≡◌, ◌∙◌}
use mathlib.Core.Bool.{cond}
use Rattle.std.specs.List.{sum_by}
use native.Mathlib.Omega.{arith}
use Rattle.std.proofs.lemmas.Grind.{common_steps}
use Rattle.message.specs.Inner.{is_end}
use Rattle.message.proofs.MessageLaws.{ends-summed}
use Rattle.message.proofs.ends_of.Goals as goal

pub returns : goal.returns
returns c =
    let m = c.args.block.now in
    let e : c.sum.result ≡ sum_by (λ b. cond (is_end b) 1 0) m = grind (arith, common_steps) in
    e ∙ ends-summed m
