-- What the programs begin with, and what the step functions promise.
use Rattle.std.specs.Prelude.{ℕ, ◌≡◌, Bool, false, List, length, replicate, is_some, unwrap_or}
use Rattle.slices.specs.Joins.{over}
use Rattle.shaper.specs.Shaper.{view_of, fresh}
use Rattle.output.specs.declared.TextState.{TextState}
use Rattle.output.specs.Output.{queue_limit, text_view_of}
use Rattle.steps.specs.declared.Progress.{Progress}
use Rattle.steps.specs.declared.Step.{Step}
use Rattle.steps.specs.Steps.{ProgressView, program_options, beginning, StepReply}

-- what a program keeps, in the definition's words
abbrev pub progress_view_of : Progress → ProgressView
progress_view_of p = record { view = view_of p.shaper; text = text_view_of p.state; number = p.number }

-- ---- what a program begins with

-- the text state of a program that begins: no line is queued, the queue's bytes are 0, and no row stands above
abbrev pub fresh_text : TextState
fresh_text = record { queued_pad_line = replicate queue_limit 0; queued_length = 0; is_queued = false; row_height = 0 }

-- the struct that a program begins with: a new shaper, a fresh text state, the first record's number
abbrev pub begun : Progress
begun = record { shaper = fresh program_options; state = fresh_text; number = 0 }

-- what the definition says, and the struct is decided whole
pub record Begins (r : Progress) : Type 0 where
  pub reply : progress_view_of r ≡ beginning
  pub whole : r ≡ begun

-- ---- a step

-- what a step gives beside the output: the count of bytes written, whether the program goes on, and what it keeps
pub record StepAnswer : Type 0 where
  pub length : ℕ
  pub goes_on : Bool
  pub progress : Progress

-- what a step function gives, as such a step: a program that stops keeps what it had
abbrev pub step_from : Progress → Step → StepAnswer
step_from p r = record { length = r.length; goes_on = is_some r.next; progress = unwrap_or r.next p }

-- what the definition says, "a prefix of the output and nothing behind it"; a program that stops keeps the structs themselves
pub record Steps (s : StepReply) (p : Progress) (before after : List ℕ) (r : StepAnswer) : Type 0 where
  pub count : r.length ≡ length s.written
  pub output : after ≡ over s.written before
  pub goes : r.goes_on ≡ s.goes_on
  pub keeps : progress_view_of r.progress ≡ s.after
  pub same : r.goes_on ≡ false → r.progress ≡ p
