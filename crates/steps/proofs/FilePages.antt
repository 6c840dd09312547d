-- The page of a file is the drawn text of its records with the line of the refusal behind it at which it stops.
use mathlib.Core.Path.{◌≡◌, refl, sym, ap, ◌∙◌}
use mathlib.Core.Logic.{◌⊎◌, inl, inr}
use mathlib.Core.Bool.{Bool, true, false, cond, not}
use mathlib.Core.List.{List, [], ◌∷◌, ◌++◌, append_assoc, append-nil}
use Prim.Native.Nat.{ℕ, zero, suc, ◌*◌, ◌/◌, ◌<◌, ◌≤◌, zero-le}
use native.Mathlib.Omega.{arith}
use borrow.Author.Tests.{eqb-true, lt-ltb, ltb-true, ltb-false}
use lib.Dec.{ltb, eqb}
use lib.ListN.{length, take, drop, replicate, length-append, length-drop, length-take, length-replicate}
use lib.Seq.{take-append_seam}
use Rattle.render.specs.declared.render.Ancestor.{Ancestor as Entry}
use Rattle.render.specs.declared.types.DashStyle.{DashStyle}
use Rattle.render.specs.Mark.{is_mark}
use Rattle.render.specs.Refusals.{not_refused, mark_outside_span, message_too_long, message_byte_not_writable, record_cut_short, refusal}
use Rattle.shaper.specs.Shaper.{View, height_limit}
use Rattle.placing.specs.Placing.{place}
use Rattle.row_shape.specs.Row.{RowReply, row_answer, row_checks, row}
use Rattle.row_shape.proofs.RowFits.{row_fits}
use Rattle.slices.specs.Joins.{over}
use Rattle.glyphs.specs.declared.Renderer.TheVariants.{Curved}
use Rattle.glyphs.specs.Cells.{glyphs_of}
use Rattle.message.specs.Message.{message_limit, is_writable, all_of, lines_of}
use Rattle.message.proofs.MessageLaws.{trim-length}
use Rattle.output.specs.Output.{finish, text_of, TextView}
use Rattle.text.specs.Text.{text_lines, text_after, drawn_checks, text_answer, TextReply, text_with, up_to_refusal, drawn_from, drawn_text}
use Rattle.record.specs.Record.{record_length, pieces, message_room, room_of, up_to_zero, RecordView, record_checks, Outcome, Ready, Ended, Refused, outcome_of, outcome_record, next_record}
use Rattle.steps.specs.Steps.{refused_in, refused_line, ProgressView, program_options, beginning, next, StepReply, stopped, stepped, page_row, listing_row, on_record, page_step, listing_step}
use Rattle.steps.specs.Files.{reads_of, step_by_step, page_room, listing_room, page_of, listing_of, calls_on, calls_from, calls_of, stop_on, stop_from, stop_of}
use Rattle.steps.proofs.LineBytes.{line-is}
use Rattle.steps.proofs.Lengths.{curved-six, curved-four, queued-short}
use Rattle.steps.proofs.Room.{QueueShort, same-refusal}

-- ---- a record's message is within its room
zero-short : (s : List ℕ) → length (up_to_zero s) ≤ length s
zero-short [] = zero-le
zero-short (b ∷ s) = go (eqb b 0) (zero-short s)
  where
    go : (t : Bool) → length (up_to_zero s) ≤ length s → length (cond t [] (b ∷ up_to_zero s)) ≤ suc (length s)
    go true h = zero-le
    go false h = omega arith

message-short : (piece : List ℕ) → length (next_record piece).view.message ≤ message_room
unfolding next_record
message-short piece = go (outcome_of (refusal (record_checks piece)) piece)
  where
    go : (o : Outcome) → length (outcome_record o piece).message ≤ message_room
    go Ready = omega (arith, zero-short (room_of piece), length-take message_room (drop 46 piece))
    go Ended = zero-le
    go (Refused n) = zero-le

-- ---- the row call keeps the height, and the checks before it pass only where it does
height-kept : (v : View) (n : ℕ) (es : List Entry) → (row v n es).view.height ≡ v.height
unfolding row
height-kept v n es = go (refusal (row_checks es (place v n es)))
  where
    go : (k : ℕ) → (row_answer k v n es (place v n es)).view.height ≡ v.height
    go zero = refl
    go (suc k) = refl

row-accepted : (a b c z : Bool) (r : ℕ) → eqb r 0 ≡ z
    → cond a mark_outside_span (cond b message_too_long (cond c message_byte_not_writable (cond (not z) r not_refused))) ≡ 0 → r ≡ 0
row-accepted true b c z r e h = absurd (omega (arith, h))
row-accepted false true c z r e h = absurd (omega (arith, h))
row-accepted false false true z r e h = absurd (omega (arith, h))
row-accepted false false false false r e h = h
row-accepted false false false true r e h = eqb-true r 0 e

-- ---- the row of a page
module _ (p : ProgressView) (r : RecordView) (out : List ℕ) (few : QueueShort p.text) (low : p.view.height ≤ height_limit) (short : length r.message ≤ message_room)
    (room : page_room ≤ length out) where
  abbrev rowed : RowReply
  rowed = row p.view r.id r.entries

  abbrev lines : List (List ℕ)
  lines = text_lines finish (glyphs_of Curved) p.text Curved rowed.shape r.mark (lines_of r.message) p.view.height

  abbrev end : TextView
  end = text_after (glyphs_of Curved) Curved rowed.shape r.mark (lines_of r.message) p.view.height

  -- by the number of the checks that do not look at the output
  abbrev drawn : ℕ → StepReply
  drawn zero = record { written = text_of lines; goes_on = true; after = record { view = rowed.view; text = end; number = next p.number } }
  drawn (suc n) = stopped p (refused_line (suc n) p.number)

  row_is : page_row p r out ≡ drawn (refusal (drawn_checks r.mark r.message rowed))
  unfolding text_with
  row_is = ap by (same-refusal p.view p.text few r.id r.entries r.mark r.message out low short room) ∙ go (refusal (drawn_checks r.mark r.message rowed))
    where
      given : ℕ → TextReply
      given k = text_answer k lines out p.view rowed.view p.text end

      by : ℕ → StepReply
      by k = stepped (given k).refusal p out (take (given k).length (given k).output) (given k).view (given k).text

      go : (k : ℕ) → by k ≡ drawn k
      go zero = ap (λ (x : List ℕ). record { written = x; goes_on = true; after = record { view = rowed.view; text = end; number = next p.number } }) (take-append_seam (text_of lines) (drop (length (text_of lines)) out))
      go (suc k) = ap (stopped p) (line-is out (suc k) p.number (omega (arith, room)))

  end_short : refusal (drawn_checks r.mark r.message rowed) ≡ 0 → QueueShort end
  end_short z =
      let e : rowed.refusal ≡ 0 =
      row-accepted (not (is_mark r.mark)) (ltb message_limit (length r.message)) (not (all_of is_writable r.message)) (eqb rowed.refusal 0) rowed.refusal refl z in
      let d : DashStyle = rowed.shape.style.dash_style in
      omega (
        arith,
        queued-short finish trim-length (glyphs_of Curved) Curved rowed.shape r.mark 6 4 (curved-six d r.mark) (curved-four d r.mark)
            (row_fits p.view r.id r.entries e) (lines_of r.message) p.view.height,
      )

-- ---- what is read, piece by piece
pub over-long : (bs out : List ℕ) → length out ≤ length (over bs out)
over-long bs out = rw (length-append bs (drop (length bs) out), length-drop (length bs) out) (omega arith)

-- from what a program keeps on
abbrev Pages : List (List ℕ) → Type 0
Pages rest =
    (p : ProgressView) (out : List ℕ) → QueueShort p.text → p.view.height ≤ height_limit → page_room ≤ length out
    → step_by_step page_step p out rest ≡ drawn_from (glyphs_of Curved) Curved p.view p.text (calls_from rest) ++ stop_from p.view p.number rest

page-next : (piece : List ℕ) (rest : List (List ℕ)) → Pages rest → Pages (piece ∷ rest)
page-next piece rest behind p out few low room = go (next_record piece).outcome
  where
    r : RecordView
    r = (next_record piece).view

    q : RowReply
    q = rowed p r out few low (message-short piece) room

    n : ℕ
    n = refusal (drawn_checks r.mark r.message q)

    text : List ℕ
    text = text_of (lines p r out few low (message-short piece) room)

    kept : TextView
    kept = end p r out few low (message-short piece) room

    step : ℕ → StepReply
    step = drawn p r out few low (message-short piece) room

    more : StepReply → List ℕ
    more s = s.written ++ cond s.goes_on (step_by_step page_step s.after (over s.written out) rest) []

    stop : List ℕ
    stop = stop_from q.view (next p.number) rest

    by : (k : ℕ) → n ≡ k → more (step k) ≡ up_to_refusal k text (drawn_from (glyphs_of Curved) Curved q.view kept (calls_from rest)) ++ stop_on Ready k p.number stop
    by zero z =
        ap (λ (x : List ℕ). text ++ x)
        (behind (record { view = q.view; text = kept; number = next p.number }) (over text out) (end_short p r out few low (message-short piece) room z)
        (rw (height-kept p.view r.id r.entries) low)
        (omega (arith, room, over-long text out)))
        ∙ sym (append_assoc text (drawn_from (glyphs_of Curved) Curved q.view kept (calls_from rest)) stop)
    by (suc k) z = append-nil (refused_line (suc k) p.number)

    go : (o : Outcome) → more (on_record page_row p out o r)
        ≡ drawn_from (glyphs_of Curved) Curved p.view p.text (calls_on o r (calls_from rest)) ++ stop_on o n p.number stop
    go Ended = refl
    go (Refused m) = append-nil (refused_in out m p.number) ∙ line-is out m p.number (omega (arith, room))
    go Ready = ap more (row_is p r out few low (message-short piece) room) ∙ by n refl

page-from : (rest : List (List ℕ)) → Pages rest
page-from [] p out few low room = refl
page-from (piece ∷ rest) p out few low room = page-next piece rest (page-from rest) p out few low room

-- ---- the whole file
pub page-is : (file : List ℕ) → page_of file ≡ drawn_text program_options (glyphs_of Curved) Curved (calls_of file) ++ stop_of file
page-is file = page-from (reads_of file) beginning (replicate page_room 0) zero-le (omega arith) (omega (arith, length-replicate {A = ℕ} page_room 0))

-- ---- what is read is enough: a program that reads on, nothing being left, writes nothing more
short-stops : (piece : List ℕ) → length piece < record_length → ((next_record piece).outcome ≡ Ended) ⊎ ((next_record piece).outcome ≡ Refused record_cut_short)
unfolding next_record
short-stops [] h = inl refl
short-stops (b ∷ s) h = inr (rw (lt-ltb 0 (length (b ∷ s)) (omega arith), lt-ltb (length (b ∷ s)) record_length h) refl)

module _ (draws : ProgressView → RecordView → List ℕ → StepReply) where
  abbrev step_on : ProgressView → List ℕ → List ℕ → StepReply
  step_on p piece out = on_record draws p out (next_record piece).outcome (next_record piece).view

  stopped-there : (p : ProgressView) (piece out : List ℕ) → length piece < record_length → (step_on p piece out).goes_on ≡ false
  stopped-there p piece out h = go (short-stops piece h)
    where
      go : ((next_record piece).outcome ≡ Ended) ⊎ ((next_record piece).outcome ≡ Refused record_cut_short) → (step_on p piece out).goes_on ≡ false
      go (inl e) = rw e refl
      go (inr e) = rw e refl

  last : (piece : List ℕ) (rest others : List (List ℕ)) (p : ProgressView) (out : List ℕ) → (step_on p piece out).goes_on ≡ false
      → step_by_step step_on p out (piece ∷ rest) ≡ step_by_step step_on p out (piece ∷ others)
  last piece rest others p out e = rw e refl

  -- two counts of pieces, each with room for more than the file
  enough : (m n : ℕ) (p : ProgressView) (out file : List ℕ) → length file < record_length * m → length file < record_length * n
      → step_by_step step_on p out (pieces m file) ≡ step_by_step step_on p out (pieces n file)
  enough zero n p out file h k = absurd (omega (arith, h))
  enough (suc m) zero p out file h k = absurd (omega (arith, k))
  enough (suc m) (suc n) p out file h k = go (ltb (length file) record_length) refl (enough m n)
    where
      go : (b : Bool) → ltb (length file) record_length ≡ b
          → ((p : ProgressView) (out file : List ℕ) → length file < record_length * m → length file < record_length * n → step_by_step step_on p out (pieces m file) ≡ step_by_step step_on p out (pieces n file))
          → step_by_step step_on p out (pieces (suc m) file) ≡ step_by_step step_on p out (pieces (suc n) file)
      go true e behind =
          last (take record_length file) (pieces m (drop record_length file)) (pieces n (drop record_length file)) p out
          (stopped-there p (take record_length file) out (omega (arith, ltb-true (length file) record_length e, length-take record_length file)))
      go false e behind =
          let s : StepReply = step_on p (take record_length file) out in
          let l : record_length ≤ length file = ltb-false (length file) record_length e in
          ap (λ (x : List ℕ). s.written ++ cond s.goes_on x [])
          (behind s.after (over s.written out) (drop record_length file) (omega (arith, h, l, length-drop record_length file)) (omega (arith, k, l, length-drop record_length file)))

pub page-ends : (n : ℕ) (file : List ℕ) → length file < record_length * n → step_by_step page_step beginning (replicate page_room 0) (pieces n file) ≡ page_of file
page-ends n file h = enough page_row n (suc (length file / record_length)) beginning (replicate page_room 0) file h (omega arith)

pub listing-ends : (n : ℕ) (file : List ℕ) → length file < record_length * n → step_by_step listing_step beginning (replicate listing_room 0) (pieces n file) ≡ listing_of file
listing-ends n file h = enough listing_row n (suc (length file / record_length)) beginning (replicate listing_room 0) file h (omega arith)
