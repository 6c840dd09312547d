-- A run on the bytes of a file: where its reads are the file's pieces and a step has stopped it, its steps write what the program writes for the file.
use Prim.Native.Nat.{ℕ}
use mathlib.Core.Path.{◌≡◌, sym, ap, ◌∙◌}
use mathlib.Core.Bool.{Bool, false, cond}
use mathlib.Core.List.{List, [], ◌∷◌, ◌++◌}
use lib.ListN.{replicate}
use Rattle.record.specs.Record.{record_length}
use Rattle.steps.specs.Steps.{ProgressView, beginning, StepReply, page_step, listing_step}
use Rattle.steps.specs.Files.{Running, started_on, step_on, after_step, written_by, reads_of, step_by_step, page_room, listing_room, page_of, listing_of}
use Rattle.programs.specs.Programs.{after_reads, WentOn, StoppedOn}

module _ (step : ProgressView → List ℕ → List ℕ → StepReply) (most : ℕ) where
  -- what is read behind the step that stops is not looked at
  pub stopped-bytes : (s : Running) (reads : List (List ℕ)) (piece : List ℕ) (rest : List (List ℕ)) → WentOn step most s reads
      → (step_on step (after_reads step s reads) piece).goes_on ≡ false
      → step_by_step step s.progress s.output (reads ++ (piece ∷ rest)) ≡ written_by step s (reads ++ (piece ∷ []))
  stopped-bytes s [] piece rest h e =
      ap (λ (b : Bool). (step_on step s piece).written ++ cond b (step_by_step step (after_step step s piece).progress (after_step step s piece).output rest) []) e
  stopped-bytes s (r ∷ reads) piece rest h e =
      ap (λ (b : Bool). (step_on step s r).written ++ cond b (step_by_step step (after_step step s r).progress (after_step step s r).output (reads ++ (piece ∷ rest))) []) h.1
      ∙ ap (λ (x : List ℕ). (step_on step s r).written ++ x) (stopped-bytes (after_step step s r) reads piece rest h.2 e)

module _ (step : ProgressView → List ℕ → List ℕ → StepReply) (most : ℕ) (out file : List ℕ) (h : StoppedOn step most out file) where
  file-run : written_by step (started_on out) (h.reads ++ (h.piece ∷ [])) ≡ step_by_step step beginning out (reads_of file)
  file-run = sym (stopped-bytes step most (started_on out) h.reads h.piece h.rest h.went h.stops) ∙ ap (step_by_step step beginning out) (sym h.pieces)

pub page-run : (file : List ℕ) (h : StoppedOn page_step record_length (replicate page_room 0) file)
    → written_by page_step (started_on (replicate page_room 0)) (h.reads ++ (h.piece ∷ [])) ≡ page_of file
page-run file h = file-run page_step record_length (replicate page_room 0) file h

pub listing-run : (file : List ℕ) (h : StoppedOn listing_step record_length (replicate listing_room 0) file)
    → written_by listing_step (started_on (replicate listing_room 0)) (h.reads ++ (h.piece ∷ [])) ≡ listing_of file
listing-run file h = file-run listing_step record_length (replicate listing_room 0) file h
