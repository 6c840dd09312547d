-- What the inner functions of a program give.
use Rattle.std.specs.Prelude.{ℕ, ◌≡◌, true, false, Some, None, Ok, Err, List, take}
use Rattle.std.specs.declared.option.Option.{Option}
use Rattle.std.specs.declared.result.Result.{Result}
use Rattle.steps.specs.declared.Progress.{Progress}
use Rattle.steps.specs.Steps.{ProgressView, StepReply}
use Rattle.steps.specs.Files.{Running, step_on, after_step}
use Rattle.steps.specs.Promises.{progress_view_of}
use Rattle.programs.specs.declared.Failure.{Failure}
use Rattle.programs.specs.declared.Failure.TheVariants.{NotRead as FailedRead, NotWritten as FailedWrite}
use Rattle.programs.specs.Programs.{Going, On, Stopped, NotRead, NotWritten}

-- a program between two turns
abbrev pub running : Progress → List ℕ → Running
running p out = record { progress = progress_view_of p; output = out }

-- whether a program goes on behind a turn, and why not
abbrev pub turn_of : Result (Option Progress) Failure → Going
turn_of (Ok (Some p)) = On
turn_of (Ok None) = Stopped
turn_of (Err (FailedRead k)) = NotRead
turn_of (Err (FailedWrite k)) = NotWritten

-- the program behind a turn from these on
abbrev pub kept_of : Progress → Result (Option Progress) Failure → Progress
kept_of p (Ok (Some q)) = q
kept_of p (Ok None) = p
kept_of p (Err e) = p

-- a turn fails at this record
abbrev pub FailsAt : ℕ → Result (Option Progress) Failure → Type 0
FailsAt number (Ok o) = Unit {0}
FailsAt number (Err (FailedRead k)) = k ≡ number
FailsAt number (Err (FailedWrite k)) = k ≡ number

-- a turn that goes on took a step on the first of the bytes that were read, and one that was stopped took such a step too
abbrev pub Turns : (ProgressView → List ℕ → List ℕ → StepReply) → List ℕ → Running → Going → Running → Type 0
Turns step read s On t = (n : ℕ) × ((step_on step s (take n read)).goes_on ≡ true) × (t ≡ after_step step s (take n read))
Turns step read s Stopped t = (n : ℕ) × ((step_on step s (take n read)).goes_on ≡ false)
Turns step read s NotRead t = Unit {0}
Turns step read s NotWritten t = Unit {0}
