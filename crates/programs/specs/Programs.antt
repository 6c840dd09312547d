-- What a program did: the steps that it took on what it read, one after the other, and how it ended (01, "Added by us").
use Rattle.std.specs.Prelude.{ℕ, ◌≤◌, ◌≡◌, true, false, Ok, Err, List, [], ◌∷◌, ◌++◌, length}
use Rattle.std.specs.declared.result.Result.{Result}
use Rattle.steps.specs.Steps.{ProgressView, StepReply}
use Rattle.steps.specs.Files.{Running, started_on, step_on, after_step, reads_of}
use Rattle.programs.specs.declared.Failure.{Failure}
use Rattle.programs.specs.declared.Failure.TheVariants.{NotRead as FailedRead, NotWritten as FailedWrite}

-- whether a program goes on behind a record, and why not: its step stopped it, or a read or a write failed
pub data Going : Type 0 where
  On : Going
  Stopped : Going
  NotRead : Going
  NotWritten : Going

-- how a program ended, and the number of the record at which it did
pub record Run : Type 0 where
  pub going : Going
  pub number : ℕ

-- the same of what a program gives
abbrev pub run_of : Result ℕ Failure → Run
run_of (Ok number) = record { going = Stopped; number = number }
run_of (Err (FailedRead number)) = record { going = NotRead; number = number }
run_of (Err (FailedWrite number)) = record { going = NotWritten; number = number }

-- a program after steps on all that it read
abbrev pub after_reads : (ProgressView → List ℕ → List ℕ → StepReply) → Running → List (List ℕ) → Running
after_reads step s [] = s
after_reads step s (piece ∷ rest) = after_reads step (after_step step s piece) rest

module _ (step : ProgressView → List ℕ → List ℕ → StepReply) (most : ℕ) where
  -- "read records from standard input, one at a time" (01): each read gives at most a record's bytes, and the step on it goes on
  abbrev pub WentOn : Running → List (List ℕ) → Type 0
  WentOn s [] = Unit {0}
  WentOn s (piece ∷ rest) = (length piece ≤ most) × ((step_on step s piece).goes_on ≡ true) × WentOn (after_step step s piece) rest

  -- how it says that it ended: a step stops it ("stop at a refusal", or the records have ended), of which the step is shown; or a read or a write
  -- failed, of which nothing is shown here: what was written then is said in Streams, where a reader and a writer say what they hold
  abbrev pub Ends : Running → Going → Type 0
  Ends s On = ⊥
  Ends s Stopped = (piece : List ℕ) × (length piece ≤ most) × ((step_on step s piece).goes_on ≡ false)
  Ends s NotRead = Unit {0}
  Ends s NotWritten = Unit {0}

  -- what a program did with this output from its beginning on: reads on each of which a step goes on, how it says that it ended behind them, and at which record
  pub record Runs (out : List ℕ) (r : Run) : Type 0 where
    pub reads : List (List ℕ)
    pub went : WentOn (started_on out) reads
    pub ends : Ends (after_reads step (started_on out) reads) r.going
    pub at : r.number ≡ (after_reads step (started_on out) reads).progress.number

  -- a program that a step has stopped, where what it read are the first pieces of a file
  pub record StoppedOn (out file : List ℕ) : Type 0 where
    pub reads : List (List ℕ)
    pub piece : List ℕ
    pub rest : List (List ℕ)
    pub pieces : reads_of file ≡ reads ++ (piece ∷ rest)
    pub went : WentOn (started_on out) reads
    pub stops : (step_on step (after_reads step (started_on out) reads) piece).goes_on ≡ false
