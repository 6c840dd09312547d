-- Demand 3 of document 01's two programs: their steps on the bytes of a file, as calls on the shaper that they keep, and the machine of what the steps leave.
use Rattle.std.specs.Prelude.{ℕ, ◌≡◌, Bool, true, false, cond, not, ◌&&◌, List, [], ◌∷◌, replicate}
use Rattle.render.specs.declared.types.RowShape.{RowShape}
use Rattle.shaper.specs.Shaper.{origin}
use Rattle.render.specs.Mark.{is_mark}
use Rattle.glyphs.specs.declared.Renderer.{Renderer}
use Rattle.glyphs.specs.declared.Renderer.TheVariants.{Curved}
use Rattle.glyphs.specs.Cells.{keep}
use Rattle.record.specs.Record.{RecordView, Outcome, Ready, Ended, Refused, next_record}
use Rattle.steps.specs.Steps.{ProgressView, StepReply, page_step, listing_step}
use Rattle.steps.specs.Files.{Running, started_on, step_on, after_step, page_room, listing_room}
use Rattle.history.specs.Account.{Call, Row}
use Rattle.history.specs.Demand3.{Machine}
use Rattle.history.specs.Follows.{leaves, verdicts}
use Rattle.history.specs.Ours.{Item, Plain, Text, shape_of, head_line, foot_line, ours}

-- a program: its step, whether a record comes to the call, that call, and the length of the output
pub record Program : Type 0 where
  pub step : ProgressView → List ℕ → List ℕ → StepReply
  pub comes : RecordView → Bool
  pub item : Running → RecordView → Item
  pub room : ℕ

-- "The page program writes text (curved, Persistent, Top).": each record is a text call
abbrev pub page_program : Program
page_program =
    record {
      step = page_step;
      comes = λ r. true;
      item = λ s r.
          Text (record { state = s.progress.text; renderer = Curved; mark = r.mark; message = r.message; output = s.output }) r.id r.entries;
      room = page_room;
    }

-- The listing program "tests the mark as text does (5, before the row)": each record with a good mark is a row call
abbrev pub listing_program : Program
listing_program = record { step = listing_step; comes = λ r. is_mark r.mark; item = λ s r. Plain (Row r.id r.entries); room = listing_room }

-- whether the record call gave a record
abbrev pub is_ready : Outcome → Bool
is_ready Ready = true
is_ready Ended = false
is_ready (Refused n) = false

-- the row of the record that is read: a text call "counts there as the row call with its node and entries"
abbrev pub row_read : List ℕ → Call
row_read piece = Row (next_record piece).view.id (next_record piece).view.entries

module _ (P : Program) where
  -- what it begins with: an output of zeros
  abbrev pub started : Running
  started = started_on (replicate P.room 0)

  -- what a program takes a step on: all that it reads, up to the step that does not go on
  abbrev pub steps_taken : Running → List (List ℕ) → List (List ℕ)
  steps_taken s [] = []
  steps_taken s (piece ∷ rest) = piece ∷ cond (step_on P.step s piece).goes_on (steps_taken (after_step P.step s piece) rest) []

  -- whether a step comes to the call
  abbrev pub comes_to_call : List ℕ → Bool
  comes_to_call piece = is_ready (next_record piece).outcome && P.comes (next_record piece).view

  -- the steps that come to a call
  abbrev pub rows_of : List (List ℕ) → List (List ℕ)
  rows_of reads = keep comes_to_call (steps_taken started reads)

  -- their calls
  abbrev pub items_from : Running → List (List ℕ) → List Item
  items_from s [] = []
  items_from s (piece ∷ rest) = P.item s (next_record piece).view ∷ items_from (after_step P.step s piece) rest

  -- the shape of the row that a step draws
  abbrev pub step_shape : Running → List ℕ → RowShape
  step_shape s piece = shape_of s.progress.view (row_read piece)

  -- the machine of what the steps leave: a row is refused where its step does not go on
  abbrev pub program : Renderer → Machine
  program q =
      record {
        State = Running;
        columns = λ s. s.progress.view.columns;
        origins = λ s. s.progress.view.origins;
        query = λ s. origin s.progress.view;
        Item = List ℕ;
        call = row_read;
        refuses = λ s piece. not (step_on P.step s piece).goes_on;
        after = after_step P.step;
        node = λ s piece. (step_shape s piece).node_column;
        head = λ s piece. head_line q (step_shape s piece);
        foot = λ s piece. foot_line q (step_shape s piece);
      }

  -- steps that are their calls on one shaper: what is left of the shaper, and which steps do not go on, is what our machine gives for the calls
  pub record AreCalls (q : Renderer) (s : Running) (ks : List (List ℕ)) : Type 0 where
    pub left : (leaves (program q) s ks).progress.view ≡ leaves (ours q) s.progress.view (items_from s ks)
    pub refusals : verdicts (program q) s ks ≡ verdicts (ours q) s.progress.view (items_from s ks)
