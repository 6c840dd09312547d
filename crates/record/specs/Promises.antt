-- The promise of the record call, and the struct that holds a record.
use Rattle.std.specs.Prelude.{ℕ, ◌-◌, ◌≤◌, ◌≡◌, false, List, ◌++◌, map, length, take, replicate, Option, Some, None, Result, Ok, Err}
use Rattle.render.specs.declared.render.Ancestor.{Ancestor}
use Rattle.render.specs.declared.render.Ancestor.TheVariants.{Anonymous}
use Rattle.render.specs.declared.render.Entry.{Entry}
use Rattle.render.specs.declared.render.Entries.{Entries}
use Rattle.render.specs.Entries.{entry_limit, listed, is_too_many}
use Rattle.render.specs.declared.refusals.Refusal.{Refusal}
use Rattle.render.specs.Refusals.{refusal, number}
use Rattle.record.specs.declared.Record.{Record}
use Rattle.record.specs.Record.{message_room, RecordView, no_record, Outcome, Ready, Ended, Refused, RecordReply, record_checks, next_record, outcome_number}

-- the record that a struct holds
abbrev pub record_view_of : Record → RecordView
record_view_of r = record { id = r.id; mark = r.mark; entries = listed r.entries; message = take r.message_length r.message }

-- ---- what stands behind the last entry and behind the message

-- an entry of the array
abbrev pub entry : Ancestor → Entry
entry a = record { ancestor = a }

-- entries past the count are Anonymous
abbrev pub entries_with : List Ancestor → Entries
entries_with l = record { list = map entry l ++ replicate (entry_limit - length l) (entry Anonymous); count = length l; too_many = false }

-- bytes past the message are 0
abbrev pub padded : List ℕ → List ℕ
padded m = m ++ replicate (message_room - length m) 0

-- the record's struct, decided whole
abbrev pub record_with : RecordView → Record
record_with v =
    record {
      id = v.id;
      mark = v.mark;
      entries = entries_with v.entries;
      message = padded v.message;
      message_length = length v.message;
    }

-- ---- what the call promises

-- what the record call gives: how it went, and a record that holds nothing, unless there is one
pub record RecordAnswer : Type 0 where
  pub outcome : Outcome
  pub «record» : Record

-- the result of a record call, as the answer: "a refused record [comes back] with id 0, mark 0, no entries and no message" (01, "Where a call turns back")
abbrev pub record_answer_from : Result (Option Record) Refusal → RecordAnswer
record_answer_from (Ok (Some r)) = record { outcome = Ready; «record» = r }
record_answer_from (Ok None) = record { outcome = Ended; «record» = record_with no_record }
record_answer_from (Err e) = record { outcome = Refused (number e); «record» = record_with no_record }

-- what the record call gave, in the definition's words
abbrev pub record_reply_of : RecordAnswer → RecordReply
record_reply_of r = record { outcome = r.outcome; view = record_view_of r.«record» }

-- what the definition says; the outcome's number is that of the first check that holds; the entries are not too many and the message is
-- within its room; what no definition decides, the room behind them, holds nothing
pub record Records (left : List ℕ) (r : RecordAnswer) : Type 0 where
  pub reply : record_reply_of r ≡ next_record left
  pub number : outcome_number r.outcome ≡ refusal (record_checks left)
  pub few : is_too_many (listed r.«record».entries) ≡ false
  pub short : r.«record».message_length ≤ message_room
  pub rest : r.«record» ≡ record_with (next_record left).view
