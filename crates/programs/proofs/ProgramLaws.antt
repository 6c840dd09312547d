-- A program's turns: what one leaves, and the steps of all that were taken.
use Prim.Native.Nat.{ℕ, ◌≤◌}
use mathlib.Core.Path.{◌≡◌, refl, sym, ap, ◌∙◌}
use mathlib.Core.Bool.{true}
use mathlib.Core.List.{List, [], ◌∷◌, ◌++◌}
use lib.ListN.{length, take, length-take}
use native.Mathlib.Omega.{arith}
use Rattle.steps.specs.declared.Progress.{Progress}
use Rattle.steps.specs.Steps.{ProgressView, beginning, StepReply}
use Rattle.steps.specs.Files.{Running, started_on, step_on, after_step}
use Rattle.steps.specs.Promises.{progress_view_of}
use Rattle.programs.specs.Programs.{On, after_reads, WentOn}
use Rattle.programs.specs.Inner.{running, Turns}

-- ---- all turns

module _ (step : ProgressView → List ℕ → List ℕ → StepReply) where
  pub after_more : (s : Running) (reads : List (List ℕ)) (piece : List ℕ)
      → after_reads step s (reads ++ (piece ∷ [])) ≡ after_step step (after_reads step s reads) piece
  after_more s [] piece = refl
  after_more s (r ∷ reads) piece = after_more (after_step step s r) reads piece

  pub went-more : (most : ℕ) (s : Running) (reads : List (List ℕ)) (piece : List ℕ) → WentOn step most s reads → length piece ≤ most
      → (step_on step (after_reads step s reads) piece).goes_on ≡ true → WentOn step most s (reads ++ (piece ∷ []))
  went-more most s [] piece h short e = (short, e, tt)
  went-more most s (r ∷ reads) piece h short e = (h.0, h.1, went-more most (after_step step s r) reads piece h.2 short e)

-- what a step is taken on is no longer than what is read at once
part-within : (n most : ℕ) (read : List ℕ) → length read ≡ most → length (take n read) ≤ most
part-within n most read e = omega (arith, e, length-take n read)

module _ (step : ProgressView → List ℕ → List ℕ → StepReply) (most : ℕ) (out : List ℕ) where
  -- a program that has gone on so far
  pub record Reached (s : Running) : Type 0 where
    pub reads : List (List ℕ)
    pub went : WentOn step most (started_on out) reads
    pub is : s ≡ after_reads step (started_on out) reads

  pub reached-start : (q : Progress) → progress_view_of q ≡ beginning → Reached (running q out)
  reached-start q e = record { reads = []; went = tt; is = ap (λ (v : ProgressView). record { progress = v; output = out }) e }

  pub reached-more : (s t : Running) (read : List ℕ) → length read ≡ most → Reached s → Turns step read s On t → Reached t
  reached-more s t read full h turn =
      let piece : List ℕ = take turn.0 read in
      record {
        reads = h.reads ++ (piece ∷ []);
        went = went-more step most (started_on out) h.reads piece h.went (part-within turn.0 most read full) (rw h.is at turn.1);
        is = turn.2 ∙ ap (λ (s : Running). after_step step s piece) h.is ∙ sym (after_more step (started_on out) h.reads piece);
      }
