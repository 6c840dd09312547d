-- Records (01, "Added by us"), and the record call.
use Rattle.std.specs.Prelude.{ℕ, zero, suc, ◌+◌, ◌*◌, Bool, false, cond, ◌&&◌, ◌||◌, List, [], ◌∷◌, map, ltb, eqb, length, get_or, take, drop}
use Rattle.render.specs.declared.render.Ancestor.{Ancestor as Entry}
use Rattle.render.specs.declared.render.Ancestor.TheVariants.{Ancestor as Indirect, Parent as Direct, Anonymous}
use Rattle.render.specs.Entries.{entry_limit}
use Rattle.render.specs.Refusals.{record_cut_short, too_many_parents, kind_above_limit, Check, ◌when◌, refusal}

-- ---- a record's bytes

-- "Records of 128 bytes, no header"
abbrev pub record_length : ℕ
record_length = 128

-- a file's bytes as they are read: so many pieces of a record's length, fewer bytes where fewer are left
abbrev pub pieces : ℕ → List ℕ → List (List ℕ)
pieces zero file = []
pieces (suc k) file = take record_length file ∷ pieces k (drop record_length file)

-- "id (0 to 3, low byte first)": the id that stands from a place on
abbrev pub id_at : List ℕ → ℕ → ℕ
id_at s i = get_or s i 0 + 0x100 * get_or s (i + 1) 0 + 0x10000 * get_or s (i + 2) 0 + 0x1000000 * get_or s (i + 3) 0

-- "mark byte (4)"
abbrev pub mark_of : List ℕ → ℕ
mark_of s = get_or s 4 0

-- "parent count (5)"
abbrev pub parent_count : List ℕ → ℕ
parent_count s = get_or s 5 0

-- "eight entries of kind byte and id (6 to 45 ..)": where the k-th stands
abbrev pub entry_place : ℕ → ℕ
entry_place k = 6 + 5 * k

-- an entry as it is written: its kind byte and its id
pub record RawEntry : Type 0 where
  pub kind : ℕ
  pub id : ℕ

-- the k-th entry as it is written
abbrev pub written_at : List ℕ → ℕ → RawEntry
written_at s k = record { kind = get_or s (entry_place k) 0; id = id_at s (entry_place k + 1) }

-- the first n entries; "Unused entries .. are ignored."
abbrev pub written_from : List ℕ → ℕ → ℕ → List RawEntry
written_from s k zero = []
written_from s k (suc n) = written_at s k ∷ written_from s (suc k) n

-- the entries that the parent count counts: "a used entry" (01, the table's row 11)
abbrev pub used : List ℕ → List RawEntry
used s = written_from s 0 (parent_count s)

-- "kind 0 Anonymous, 1 Ancestor, 2 Parent"; ".. an Anonymous id [is] ignored."
abbrev pub entry_of : RawEntry → Entry
entry_of w = cond (eqb w.kind 0) Anonymous (cond (eqb w.kind 1) (Indirect w.id) (Direct w.id))

-- "kind above 2 in a used entry" (01, the table's row 11)
abbrev pub kind_limit : ℕ
kind_limit = 2

-- whether a kind is above n
abbrev pub any_above : ℕ → List RawEntry → Bool
any_above n [] = false
any_above n (w ∷ ws) = ltb n w.kind || any_above n ws

-- "message (46 to 127 ..)": the bytes that it has room in
abbrev pub message_room : ℕ
message_room = 82

-- those bytes
abbrev pub room_of : List ℕ → List ℕ
room_of s = take message_room (drop 46 s)

-- ".. ending before its first zero byte"
abbrev pub up_to_zero : List ℕ → List ℕ
up_to_zero [] = []
up_to_zero (b ∷ bs) = cond (eqb b 0) [] (b ∷ up_to_zero bs)

-- ---- the call

-- a record, decoded
pub record RecordView : Type 0 where
  pub id : ℕ
  pub mark : ℕ
  pub entries : List Entry
  pub message : List ℕ

-- the record that the bytes hold
abbrev pub record_of : List ℕ → RecordView
record_of s = record { id = id_at s 0; mark = mark_of s; entries = map entry_of (used s); message = up_to_zero (room_of s) }

-- "id 0, mark 0, no entries and no message"
abbrev pub no_record : RecordView
no_record = record { id = 0; mark = 0; entries = []; message = [] }

-- the record call's rows of 01's table, in their order
abbrev pub record_checks : List ℕ → List Check
record_checks left =
    (record_cut_short when (ltb 0 (length left) && ltb (length left) record_length))
    ∷ (too_many_parents when ltb entry_limit (parent_count left))
    ∷ (kind_above_limit when any_above kind_limit (used left))
    ∷ []

-- how a record call went: there is a record, no bytes are left, or they were refused, with the refusal's number
pub data Outcome : Type 0 where
  Ready : Outcome
  Ended : Outcome
  Refused : ℕ → Outcome

-- how the call goes: "With no bytes left the record call says that the records have ended."
abbrev pub outcome_of : ℕ → List ℕ → Outcome
outcome_of zero [] = Ended
outcome_of zero (b ∷ bs) = Ready
outcome_of (suc n) left = Refused (suc n)

-- 01's number for each outcome, 0 where nothing is refused
abbrev pub outcome_number : Outcome → ℕ
outcome_number Ready = 0
outcome_number Ended = 0
outcome_number (Refused n) = n

-- 01's values for each outcome: "a refused record [comes back] with id 0, mark 0, no entries and no message"
abbrev pub outcome_record : Outcome → List ℕ → RecordView
outcome_record Ready left = record_of left
outcome_record Ended left = no_record
outcome_record (Refused n) left = no_record

-- what the record call gives: how it went, and the record
pub record RecordReply : Type 0 where
  pub outcome : Outcome
  pub view : RecordView

-- what the call gives for an outcome
abbrev pub record_answer : Outcome → List ℕ → RecordReply
record_answer o left = record { outcome = o; view = outcome_record o left }

-- the record call, on the bytes that are left
unfoldable pub next_record : List ℕ → RecordReply
next_record left = record_answer (outcome_of (refusal (record_checks left)) left) left
