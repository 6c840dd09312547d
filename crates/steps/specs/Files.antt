-- What document 01's two programs write for the bytes of a whole file, step by step; and a page's parts: the text calls for its records, and the line of
-- the refusal at which it stops.
use Rattle.std.specs.Prelude.{ℕ, zero, suc, ◌/◌, ◌<◌, ◌≡◌, false, cond, List, [], ◌∷◌, ◌++◌, length, replicate}
use Rattle.render.specs.Refusals.{refusal}
use Rattle.shaper.specs.Shaper.{View}
use Rattle.row_shape.specs.Row.{RowReply, row}
use Rattle.slices.specs.Joins.{over}
use Rattle.text.specs.Text.{TextCall, drawn_checks}
use Rattle.record.specs.Record.{record_length, pieces, RecordView, Outcome, Ready, Ended, Refused, next_record}
use Rattle.steps.specs.Steps.{refused_line, ProgressView, beginning, next, StepReply, page_step, listing_step}

-- ---- the programs

-- "read records from standard input, one at a time" (01): each record, and behind the last one the bytes that are left, fewer than a record's or none
abbrev pub reads_of : List ℕ → List (List ℕ)
reads_of file = pieces (suc (length file / record_length)) file

-- a program between two steps: what it keeps, and its output
pub record Running : Type 0 where
  pub progress : ProgressView
  pub output : List ℕ

-- what a program begins with on an output: a fresh shaper among it
abbrev pub started_on : List ℕ → Running
started_on out = record { progress = beginning; output = out }

module _ (step : ProgressView → List ℕ → List ℕ → StepReply) where
  -- a step on the bytes that are read
  abbrev pub step_on : Running → List ℕ → StepReply
  step_on s piece = step s.progress piece s.output

  -- the program after it
  abbrev pub after_step : Running → List ℕ → Running
  after_step s piece = record { progress = (step_on s piece).after; output = over (step_on s piece).written s.output }

  -- the bytes that steps on all of these write
  abbrev pub written_by : Running → List (List ℕ) → List ℕ
  written_by s [] = []
  written_by s (piece ∷ rest) = (step_on s piece).written ++ written_by (after_step s piece) rest

  -- it stops at bytes that are fewer than a record's
  abbrev pub StopsShort : Type 0
  StopsShort = (s : Running) (piece : List ℕ) → length piece < record_length → (step_on s piece).goes_on ≡ false

-- what a program writes: the bytes of each step, and the next step on what it keeps and on the same output, until one does not go on
abbrev pub step_by_step : (ProgressView → List ℕ → List ℕ → StepReply) → ProgressView → List ℕ → List (List ℕ) → List ℕ
step_by_step step p out [] = []
step_by_step step p out (piece ∷ rest) =
    let s : StepReply = step p piece out in
    s.written ++ cond s.goes_on (step_by_step step s.after (over s.written out) rest) []

-- the outputs of the programs; no record needs more (steps/proofs/Room)
abbrev pub page_room : ℕ
page_room = 24576

abbrev pub listing_room : ℕ
listing_room = 4096

-- what the page program writes for a file
abbrev pub page_of : List ℕ → List ℕ
page_of file = step_by_step page_step beginning (replicate page_room 0) (reads_of file)

-- what the listing program writes for a file
abbrev pub listing_of : List ℕ → List ℕ
listing_of file = step_by_step listing_step beginning (replicate listing_room 0) (reads_of file)

-- ---- a page's parts

-- the text call for a record
abbrev pub call_for : RecordView → TextCall
call_for r = record { node = r.id; entries = r.entries; mark = r.mark; message = r.message }

-- a record's call and those behind it; none from the end, or from a refusal of the record call, on
abbrev pub calls_on : Outcome → RecordView → List TextCall → List TextCall
calls_on Ready r behind = call_for r ∷ behind
calls_on Ended r behind = []
calls_on (Refused n) r behind = []

-- the calls for what is read
abbrev pub calls_from : List (List ℕ) → List TextCall
calls_from [] = []
calls_from (piece ∷ rest) = calls_on (next_record piece).outcome (next_record piece).view (calls_from rest)

-- the calls for a file's records
abbrev pub calls_of : List ℕ → List TextCall
calls_of file = calls_from (reads_of file)

-- the line of a refusal at record k, by the record call or with the number n by the text call; else what comes behind, nothing at the end
abbrev pub stop_on : Outcome → ℕ → ℕ → List ℕ → List ℕ
stop_on Ended n k behind = []
stop_on (Refused m) n k behind = refused_line m k
stop_on Ready zero k behind = behind
stop_on Ready (suc n) k behind = refused_line (suc n) k

-- the line of the first refusal in what is read, from a shaper and a record's number on; a text call is refused as on an output with room for its lines
abbrev pub stop_from : View → ℕ → List (List ℕ) → List ℕ
stop_from v k [] = []
stop_from v k (piece ∷ rest) =
    let r : RecordView = (next_record piece).view in
    let q : RowReply = row v r.id r.entries in
    stop_on (next_record piece).outcome (refusal (drawn_checks r.mark r.message q)) k (stop_from q.view (next k) rest)

-- the line of a file's first refusal, none where there is none
abbrev pub stop_of : List ℕ → List ℕ
stop_of file = stop_from beginning.view beginning.number (reads_of file)
