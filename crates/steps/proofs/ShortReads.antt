-- The steps of both programs stop at bytes that are fewer than a record's.
use Rattle.std.proofs.Common.{◌≡◌, ℕ, ◌<◌, false, List, [], ◌∷◌, length, refl, arith}
use borrow.Author.Tests.{lt-ltb}
use Rattle.record.specs.Record.{record_length, RecordView, next_record}
use Rattle.steps.specs.Steps.{ProgressView, StepReply, page_row, listing_row, page_step, listing_step, on_record}
use Rattle.steps.specs.Files.{StopsShort}

-- the record call finds no record in them: they are none, or cut short
no-record : (draws : ProgressView → RecordView → List ℕ → StepReply) (q : ProgressView) (out piece : List ℕ) → length piece < record_length
    → (on_record draws q out (next_record piece).outcome (next_record piece).view).goes_on ≡ false
unfolding next_record
no-record draws q out [] h = refl
no-record draws q out (b ∷ bs) h = rw (lt-ltb 0 (length (b ∷ bs)) (omega arith), lt-ltb (length (b ∷ bs)) record_length h) refl

pub page-stops : StopsShort page_step
page-stops s piece h = no-record page_row s.progress s.output piece h

pub listing-stops : StopsShort listing_step
listing-stops s piece h = no-record listing_row s.progress s.output piece h
