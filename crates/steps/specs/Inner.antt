-- What the inner functions of a step give.
use Rattle.std.specs.Prelude.{◌≡◌, List, ℕ, Result, Ok, Err}
use Rattle.render.specs.declared.refusals.Refusal.{Refusal}
use Rattle.render.specs.Refusals.{number}
use Rattle.steps.specs.declared.Progress.{Progress}
use Rattle.steps.specs.declared.Step.{Step}
use Rattle.steps.specs.Steps.{refused_in, StepReply, stopped}
use Rattle.steps.specs.Promises.{progress_view_of, step_from, Steps}

-- a step that is drawn, or that nothing is written of, since it stops at a refusal
abbrev pub DrawsOrRefuses : StepReply → Progress → List ℕ → List ℕ → Result Step Refusal → Type 0
DrawsOrRefuses s p before after (Ok r) = Steps s p before after (step_from p r)
DrawsOrRefuses s p before after (Err e) = (s ≡ stopped (progress_view_of p) (refused_in before (number e) p.number)) × (after ≡ before)
