-- `whole_history::walk` meets its contract. The loop's invariant: what is left to do from here gives the whole.
use Rattle.whole_history.specs.Whole.{step_of, rows_of}
use Rattle.whole_history.proofs.WalkLaws.{Left}
use Rattle.whole_history.proofs.walk.Given as goal

abbrev pub invariant-loop-rows : goal.invariant-loop-rows
invariant-loop-rows g l =
    Left
    (g.T.Turns.turn l.turns)
    l.kept
    l.whole
    l.initial.out
    (g.T.Turns.view l.turns)
    (g.T.Turns.text l.turns)
    l.from
    l.rows
    l.out
    (rows_of (step_of (g.T.Turns.turn l.initial.turns) l.kept) 0 l.whole (record { view = g.T.Turns.view l.initial.turns; text = g.T.Turns.text l.initial.turns; from = 0; output = l.initial.out }))
