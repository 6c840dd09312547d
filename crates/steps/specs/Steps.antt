-- One step of document 01's two programs (01, "Added by us"): from a record's bytes to the bytes that are written, and what is kept for the next one.
use Rattle.std.specs.Prelude.{ℕ, zero, suc, ◌+◌, ◌/◌, ◌%◌, min, Bool, true, false, cond, not, List, [], ◌∷◌, ◌++◌, ltb, eqb, length, take}
use Rattle.render.specs.declared.types.DashStyle.TheVariants.{Persistent}
use Rattle.render.specs.declared.types.LinkLinePlacement.TheVariants.{Top}
use Rattle.render.specs.declared.types.Options.{Options}
use Rattle.render.specs.Mark.{is_mark}
use Rattle.render.specs.Refusals.{not_refused, mark_outside_span, output_shorter_than_lines, Check, ◌when◌, refusal}
use Rattle.shaper.specs.Shaper.{View, new_shaper}
use Rattle.row_shape.specs.Row.{RowReply, row}
use Rattle.glyphs.specs.declared.Renderer.TheVariants.{Curved}
use Rattle.slices.specs.Characters.{newline}
use Rattle.prefix_lines.specs.Listing.{listing_bytes}
use Rattle.output.specs.Output.{TextView, new_text}
use Rattle.text.specs.Text.{TextReply, text}
use Rattle.record.specs.Record.{RecordView, Outcome, Ready, Ended, Refused, next_record}

-- ---- the line that a refusal ends with

-- a number in decimal, if it has at most so many digits
abbrev pub decimal_in : ℕ → ℕ → List ℕ
decimal_in zero n = []
decimal_in (suc k) n = cond (ltb n 10) ((0x30 + n) ∷ []) (decimal_in k (n / 10) ++ ((0x30 + n % 10) ∷ []))

-- the most digits of a number of 64 bits
abbrev pub most_digits : ℕ
most_digits = 20

-- `refused `
abbrev pub refused_word : List ℕ
refused_word = 0x72 ∷ 0x65 ∷ 0x66 ∷ 0x75 ∷ 0x73 ∷ 0x65 ∷ 0x64 ∷ 0x20 ∷ []

-- ` at record `
abbrev pub record_words : List ℕ
record_words = 0x20 ∷ 0x61 ∷ 0x74 ∷ 0x20 ∷ 0x72 ∷ 0x65 ∷ 0x63 ∷ 0x6f ∷ 0x72 ∷ 0x64 ∷ 0x20 ∷ []

-- "stop at a refusal with the line `refused N at record K`"
abbrev pub refused_line : ℕ → ℕ → List ℕ
refused_line n k = refused_word ++ (decimal_in most_digits n ++ (record_words ++ (decimal_in most_digits k ++ (newline ∷ []))))

-- room for each such line; where there is less, nothing is written
abbrev pub line_room : ℕ
line_room = 64

-- that line, where there is room for it
abbrev pub refused_in : List ℕ → ℕ → ℕ → List ℕ
refused_in out n k = cond (ltb (length out) line_room) [] (refused_line n k)

-- ---- what a program keeps between records

-- both states, and the number of the next record: "Columns and records count from 0."
pub record ProgressView : Type 0 where
  pub view : View
  pub text : TextView
  pub number : ℕ

-- "Both use height 1 without staggering"; Persistent, Top
abbrev pub program_options : Options
program_options =
    record {
      min_row_height = 1;
      stagger_consecutive_disconnected_nodes = false;
      graph_row_shape_style = record { dash_style = Persistent; link_line_placement = Top };
    }

-- what a program begins with
abbrev pub beginning : ProgressView
beginning = record { view = (new_shaper program_options).view; text = new_text; number = 0 }

-- the next number; one at the top of its type stays
abbrev pub next : ℕ → ℕ
next k = min (suc k) 18446744073709551615

-- ---- a step

-- what a step gives: the bytes that it writes, whether the program goes on, and what it keeps
pub record StepReply : Type 0 where
  pub written : List ℕ
  pub goes_on : Bool
  pub after : ProgressView

-- the program stops with these bytes
abbrev pub stopped : ProgressView → List ℕ → StepReply
stopped p bytes = record { written = bytes; goes_on = false; after = p }

-- a row that was drawn, or the number of what refused it
abbrev pub stepped : ℕ → ProgressView → List ℕ → List ℕ → View → TextView → StepReply
stepped zero p out bytes v t = record { written = bytes; goes_on = true; after = record { view = v; text = t; number = next p.number } }
stepped (suc n) p out bytes v t = stopped p (refused_in out (suc n) p.number)

-- "The page program writes text (curved, Persistent, Top)."
abbrev pub page_row : ProgressView → RecordView → List ℕ → StepReply
page_row p r out =
    let t : TextReply = text p.view p.text Curved r.id r.entries r.mark r.message out in
    stepped t.refusal p out (take t.length t.output) t.view t.text

-- "It tests the mark as text does (5, before the row) and ignores messages."
abbrev pub listing_checks : ℕ → RowReply → List ℕ → List ℕ → List Check
listing_checks mark r bytes out =
    (mark_outside_span when not (is_mark mark)) ∷ (r.refusal when not (eqb r.refusal not_refused)) ∷ (output_shorter_than_lines when ltb (length out) (length bytes)) ∷ []

-- a row of the listing program: its prefix lines
abbrev pub listing_row : ProgressView → RecordView → List ℕ → StepReply
listing_row p r out =
    let q : RowReply = row p.view r.id r.entries in
    let bytes : List ℕ = listing_bytes q.shape r.mark in
    stepped (refusal (listing_checks r.mark q bytes out)) p out bytes q.view p.text

-- what a program does with the record call's answer: draws the record, ends, or stops at the refusal
abbrev pub on_record : (ProgressView → RecordView → List ℕ → StepReply) → ProgressView → List ℕ → Outcome → RecordView → StepReply
on_record draws p out Ready r = draws p r out
on_record draws p out Ended r = stopped p []
on_record draws p out (Refused n) r = stopped p (refused_in out n p.number)

-- a step of the page program, on the bytes that are left
abbrev pub page_step : ProgressView → List ℕ → List ℕ → StepReply
page_step p left out = on_record page_row p out (next_record left).outcome (next_record left).view

-- a step of the listing program, on the bytes that are left
abbrev pub listing_step : ProgressView → List ℕ → List ℕ → StepReply
listing_step p left out = on_record listing_row p out (next_record left).outcome (next_record left).view
