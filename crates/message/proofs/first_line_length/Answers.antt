-- The length of the first line.
use mathlib.Core.Path.{◌∙◌, sym, ap}
use native.Mathlib.Omega.{arith}
use borrow.Author.Rules.{rules}
use lib.ListN.{length, length-append}
use Rattle.message.specs.Message.{line_length}
use Rattle.message.proofs.MessageLaws.{line-found, line-passed}
use Rattle.message.proofs.first_line_length.Goals as goal

pub returns-in-Some-end_in : goal.returns-in-Some-end_in
returns-in-Some-end_in c =
    let e = ap line_length c.in-Some.ensures.steps.1.0 ∙ line-found c.in-Some.block.now _ c.in-Some-end_in.end (sym c.end_in.ensures ∙ c.in-Some-end_in.is) in
    omega (arith, c.loop-block.invariant.passed, e)

pub loop-block-preserved : goal.loop-block-preserved
loop-block-preserved c =
    let l = c.loop-block in
    let b = c.in-Some.block.now in
    let rest = c.in-Some.ensures.steps.1.0 in
    let e = ap line_length rest ∙ line-passed b _ (sym c.end_in.ensures ∙ c.in-None-end_in.is) in
    record {
      can = search rules;
      finite = tt;
      size = search rules;
      passed = omega (arith, l.invariant.passed, e);
      few = omega (arith, l.invariant.few, ap length rest ∙ length-append b _);
    }
