-- Each turn that goes on, and the one at which a program ends.
use Rattle.std.proofs.Common.{length, rules, ◌∙◌}
use Rattle.std.proofs.lemmas.Result.{err_from_is_err_and}
use Rattle.programs.specs.Inner.{running}
use Rattle.programs.proofs.ProgramLaws.{reached-more}
use Rattle.programs.proofs.StreamLaws.{full-more, full-stopped, full-failed}
use Rattle.programs.proofs.run_all.Goals as goal

pub returns-in_err-next-clause-lines : goal.returns-in_err-next-clause-lines
returns-in_err-next-clause-lines g c =
    let l = c.loop in
    let turn = c.in_err-next.ensures in
    let p = err_from_is_err_and c.from_residual.result c.from_residual.ensures.1 in
    λ e.
    rw (p.1, p.2)
    (full-failed g.P.Program.step g.met.P.Program.stops_short c.args.out.now _ (l.invariant.0 ∙ e) _ _ _ _ _ _ l.progress l.out c.take_turn.new.out (l.invariant.3 e) _ turn.turns.1 turn.lines)

pub returns-in-None-clause-lines : goal.returns-in-None-clause-lines
returns-in-None-clause-lines g c =
    let l = c.loop in
    λ e.
    full-stopped g.P.Program.step g.met.P.Program.stops_short c.args.out.now _ (l.invariant.0 ∙ e) _ _ _ _ _ _ l.progress l.out c.take_turn.new.out (l.invariant.3 e) _ c.in-None.is
    c.in_ok-next.ensures.lines

pub loop-preserved : goal.loop-preserved
loop-preserved g c =
    let l = c.loop in
    let then = c.take_turn.new.out in
    let turn = c.in_ok-next.ensures in
    let full = turn.turns.0 ∙ l.invariant.0 in (
      full,
      search rules,
      reached-more g.P.Program.step (length c.args.bytes.now) c.args.out.now (running l.progress l.out) (running c.in-Some.next then) c.take_turn.new.bytes full l.invariant.2 (rw c.in-Some.is at turn.turns.2),
      λ e.
          full-more g.P.Program.step g.met.P.Program.stops_short c.args.out.now _ (l.invariant.0 ∙ e) _ _ _ _ _ _ l.progress l.out then (l.invariant.3 e) _ c.in-Some.next c.in-Some.is turn.lines,
    )
