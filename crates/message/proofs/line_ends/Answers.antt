-- How many of a message's lines are ended.
use mathlib.Core.Path.{◌∙◌, ap}
use native.Mathlib.Omega.{arith}
use borrow.Author.Rules.{rules}
use lib.ListN.{length, length-append}
use Rattle.message.specs.Inner.{ends}
use Rattle.message.proofs.MessageLaws.{ends-append, ends-few}
use Rattle.message.proofs.line_ends.Goals as goal

pub loop-block-preserved : goal.loop-block-preserved
loop-block-preserved c =
    let l = c.loop-block in
    let b = c.in-Some.block.now in
    let rest = c.in-Some.ensures.steps.1.0 in
    let e = ap ends rest ∙ ends-append b _ in
    record {
      can = search rules;
      finite = tt;
      size = search rules;
      counted = omega (arith, l.invariant.counted, c.ends_of.ensures, e);
      few = omega (arith, l.invariant.few, c.ends_of.ensures, ends-few b, ap length rest ∙ length-append b _);
    }
