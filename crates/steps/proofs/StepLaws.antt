-- Laws of a step: what a record's row, drawn or refused, gives.
use mathlib.Core.Path.{◌≡◌, refl, sym, ap, ap₂, ◌∙◌}
use mathlib.Core.Bool.{Bool, true, false, cond, true≢false}
use mathlib.Core.List.{List}
use Prim.Native.Nat.{ℕ, zero, suc, ◌≤◌}
use native.Mathlib.Omega.{arith}
use borrow.Author.Tests.{le-ltb, ne_eqb}
use lib.Dec.{ltb}
use lib.ListN.{length, take, drop}
use lib.Seq.{take-append_seam}
use Rattle.render.specs.declared.render.Ancestor.{Ancestor as Entry}
use Rattle.render.specs.Entries.{listed}
use Rattle.render.specs.Mark.{is_mark}
use Rattle.render.specs.declared.refusals.Refusal.{Refusal}
use Rattle.render.proofs.RefusalLaws.{number-some}
use Rattle.render.specs.Refusals.{not_refused, output_shorter_than_lines, refusal, number as number_of}
use Rattle.shaper.specs.Shaper.{View, view_of}
use Rattle.row_shape.specs.declared.NextRow.{NextRow}
use Rattle.row_shape.specs.Row.{RowReply, row}
use Rattle.row_shape.specs.Promises.{RowAnswer, row_answer_from, Rows}
use Rattle.row_shape.proofs.RowFits.{row_fits}
use Rattle.column.specs.Columns.{column_limit}
use Rattle.glyphs.specs.declared.Renderer.{Renderer}
use Rattle.glyphs.specs.declared.Renderer.TheVariants.{Curved}
use Rattle.glyphs.specs.Cells.{glyphs_of}
use Rattle.slices.specs.Joins.{over}
use Rattle.prefix_lines.specs.PrefixLines.{Answer as LinesAnswer, answer_of, answered}
use Rattle.prefix_lines.specs.Listing.{listing_bytes, listing}
use Rattle.output.specs.Output.{TextView, finish, text_view_of, text_of}
use Rattle.text.specs.declared.graph_text_renderer.NextText.{NextText}
use Rattle.message.specs.Message.{lines_of}
use Rattle.text.specs.Text.{text_lines, text_after, text_checks, TextReply, text_answer, text_with, text}
use Rattle.text.specs.Promises.{TextAnswer, text_answer_from, text_reply_of, Texts}
use Rattle.record.specs.declared.Record.{Record}
use Rattle.record.specs.Record.{RecordView, RecordReply, next_record}
use Rattle.record.specs.Promises.{RecordAnswer, record_answer_from, record_view_of, Records}
use Rattle.std.specs.Prelude.{Result, Ok, Err, Some}
use Rattle.steps.specs.declared.Progress.{Progress}
use Rattle.steps.specs.declared.Step.{Step}
use Rattle.steps.specs.Steps.{refused_in, ProgressView, StepReply, stopped, stepped, next, page_row, listing_row, on_record}
use Rattle.steps.specs.Promises.{progress_view_of, Steps}
use Rattle.steps.specs.Inner.{DrawsOrRefuses}

-- ---- what a text call's definition says of a refusal and of what was written
module _ (v : View) (t : TextView) (q : Renderer) (n : ℕ) (es : List Entry) (mark : ℕ) (message out : List ℕ) where
  abbrev called : TextReply
  called = text v t q n es mark message out

  abbrev rowed : RowReply
  rowed = row v n es

  abbrev lines : List (List ℕ)
  lines = text_lines finish (glyphs_of q) t q rowed.shape mark (lines_of message) v.height

  abbrev end : TextView
  end = text_after (glyphs_of q) q rowed.shape mark (lines_of message) v.height

  abbrev number : ℕ
  number = refusal (text_checks mark message rowed (text_of lines) out)

  answer-output : (k : ℕ) (ls : List (List ℕ)) (w : View) (u : TextView) → ((text_answer k ls out v w t u).refusal ≡ 0 → ⊥) → (text_answer k ls out v w t u).output ≡ out
  answer-output zero ls w u z = absurd (z refl)
  answer-output (suc k) ls w u z = refl

  answer-written : (k : ℕ) (ls : List (List ℕ)) (w : View) (u : TextView)
      → (text_answer k ls out v w t u).refusal ≡ 0
      → ((text_answer k ls out v w t u).output ≡ over (take (text_answer k ls out v w t u).length (text_answer k ls out v w t u).output) out)
      × ((text_answer k ls out v w t u).length ≡ length (take (text_answer k ls out v w t u).length (text_answer k ls out v w t u).output))
  answer-written zero ls w u z =
      let e : take (length (text_of ls)) (over (text_of ls) out) ≡ text_of ls = take-append_seam (text_of ls) (drop (length (text_of ls)) out) in
      (ap (λ (x : List ℕ). over x out) (sym e), ap length (sym e))
  answer-written (suc k) ls w u z = absurd (omega (arith, z))

  pub refused-output : (called.refusal ≡ 0 → ⊥) → called.output ≡ out
  unfolding text_with
  refused-output z = answer-output number lines rowed.view end z

  pub accepted-output : called.refusal ≡ 0
      → (called.output ≡ over (take called.length called.output) out) × (called.length ≡ length (take called.length called.output))
  unfolding text_with
  accepted-output z = answer-written number lines rowed.view end z

-- ---- the page's row
module _ (p : Progress) (d : Record) (out : List ℕ) (m : List ℕ) (same : m ≡ take d.message_length d.message)
    (g : TextAnswer) (after : List ℕ) (u : Texts p.shaper p.state Curved d.id d.entries d.mark m out after g) where
  abbrev page : TextReply
  page = text (view_of p.shaper) (text_view_of p.state) Curved d.id (listed d.entries) d.mark (take d.message_length d.message) out

  replied : text_reply_of g after ≡ page
  replied = u.reply ∙ rw same refl

  refusal_is : page.refusal ≡ g.refusal
  refusal_is = sym (ap (λ (r : TextReply). r.refusal) replied)

  page-out : (g.refusal ≡ 0 → ⊥) → after ≡ out
  page-out z =
      ap (λ (r : TextReply). r.output) replied
      ∙ refused-output (view_of p.shaper) (text_view_of p.state) Curved d.id (listed d.entries) d.mark (take d.message_length d.message) out (λ e. z (sym refusal_is ∙ e))

  stops : (k : ℕ) → g.refusal ≡ k → (k ≡ 0 → ⊥) → page_row (progress_view_of p) (record_view_of d) out ≡ stopped (progress_view_of p) (refused_in out k p.number)
  stops zero e z = absurd (z refl)
  stops (suc k) e z = rw (refusal_is, e) refl

  page-goes : (k : ℕ) → k ≡ next p.number → g.refusal ≡ 0
      → Steps (page_row (progress_view_of p) (record_view_of d) out) p out after
      (record { length = g.length; goes_on = true; progress = record { shaper = g.shaper; state = g.state; number = k } })
  page-goes k e z =
      let w = accepted-output (view_of p.shaper) (text_view_of p.state) Curved d.id (listed d.entries) d.mark (take d.message_length d.message) out (refusal_is ∙ z) in
      let n : g.length ≡ page.length = ap (λ (r : TextReply). r.length) replied in
      let o : after ≡ page.output = ap (λ (r : TextReply). r.output) replied in
      rw goes (record {
        count = n ∙ w.1;
        output = o ∙ w.0;
        goes = refl;
        keeps = ap₂ (λ (a : TextReply) (b : ℕ). record { view = a.view; text = a.text; number = b }) replied e;
        same = λ x. absurd (true≢false x);
      })
    where
      goes : page_row (progress_view_of p) (record_view_of d) out
          ≡ record { written = take page.length page.output; goes_on = true; after = record { view = page.view; text = page.text; number = next p.number } }
      goes = rw (refusal_is ∙ z) refl

-- the text call's result
module _ (p : Progress) (d : Record) (out after : List ℕ) where
  abbrev Called : Result NextText Refusal → Type 0
  Called r = Texts p.shaper p.state Curved d.id d.entries d.mark (take d.message_length d.message) out after (text_answer_from p.shaper p.state r)

  pub page-refused : (e : Refusal) → Called (Err e) → DrawsOrRefuses (page_row (progress_view_of p) (record_view_of d) out) p out after (Err e)
  page-refused e u =
      let z : number_of e ≡ 0 → ⊥ = number-some e in
      (stops p d out (take d.message_length d.message) refl (text_answer_from p.shaper p.state (Err e)) after u (number_of e) refl z, page-out p d out (take d.message_length d.message) refl (text_answer_from p.shaper p.state (Err e)) after u z)

  pub page-drawn : (n : NextText) (k : ℕ) → k ≡ next p.number → Called (Ok n)
      → DrawsOrRefuses (page_row (progress_view_of p) (record_view_of d) out) p out after (Ok (record { length = n.length; next = Some (record { shaper = n.shaper; state = n.state; number = k }) }))
  page-drawn n k e u = page-goes p d out (take d.message_length d.message) refl (text_answer_from p.shaper p.state (Ok n)) after u k e refl

-- ---- the listing's row
module _ (p : Progress) (d : Record) (out : List ℕ) where
  module _ (b : is_mark d.mark ≡ true) (g : RowAnswer) (u : Rows p.shaper d.id d.entries g) where
    abbrev row_given : RowReply
    row_given = row (view_of p.shaper) d.id (listed d.entries)

    rowed-is : record { refusal = g.refusal; shape = g.shape; view = view_of g.shaper } ≡ row_given
    rowed-is = u.reply

    row-refusal : row_given.refusal ≡ g.refusal
    row-refusal = sym (ap (λ (r : RowReply). r.refusal) rowed-is)

    row-stops : (g.refusal ≡ 0 → ⊥) → listing_row (progress_view_of p) (record_view_of d) out ≡ stopped (progress_view_of p) (refused_in out g.refusal p.number)
    row-stops z = go g.refusal refl z
      where
        go : (k : ℕ) → g.refusal ≡ k → (k ≡ 0 → ⊥) → listing_row (progress_view_of p) (record_view_of d) out ≡ stopped (progress_view_of p) (refused_in out k p.number)
        go zero e z = absurd (z refl)
        go (suc k) e z = rw (b, row-refusal, e, ne_eqb (suc k) 0 z) refl

    -- the row is accepted: what was written, or not
    module _ (z : g.refusal ≡ 0) (w : Result ℕ Refusal) (after : List ℕ) (y : answer_of w after ≡ listing g.shape d.mark out) where
      abbrev given : LinesAnswer
      given = answer_of w after

      shape_is : g.shape ≡ row_given.shape
      shape_is = ap (λ (r : RowReply). r.shape) rowed-is

      abbrev bytes : List ℕ
      bytes = listing_bytes g.shape d.mark

      fits : g.shape.width ≤ column_limit
      fits = rw shape_is (row_fits (view_of p.shaper) d.id (listed d.entries) (row-refusal ∙ z))

      -- the listing call refuses for want of room alone
      listing-refusal : given.refusal ≡ cond (ltb (length out) (length bytes)) output_shorter_than_lines not_refused
      listing-refusal = ap (λ (a : LinesAnswer). a.refusal) y ∙ rw (b, le-ltb column_limit g.shape.width fits) (number (ltb (length out) (length bytes)))
        where
          number : (c : Bool) → (answered (cond c output_shorter_than_lines not_refused) bytes out).refusal ≡ cond c output_shorter_than_lines not_refused
          number true = refl
          number false = refl

      step_is : listing_row (progress_view_of p) (record_view_of d) out
          ≡ stepped given.refusal (progress_view_of p) out bytes (view_of g.shaper) (text_view_of p.state)
      step_is =
          rw (b, row-refusal, z)
          (ap (λ (r : RowReply). stepped (cond (ltb (length out) (length (listing_bytes r.shape d.mark))) output_shorter_than_lines not_refused) (progress_view_of p) out (listing_bytes r.shape d.mark) r.view (text_view_of p.state)) (sym rowed-is))
          ∙ ap (λ (k : ℕ). stepped k (progress_view_of p) out bytes (view_of g.shaper) (text_view_of p.state)) (sym listing-refusal)

      kept : (c : Bool) → (◌≡◌ {A = ℕ} (cond c output_shorter_than_lines not_refused) 0 → ⊥) → (answered (cond c output_shorter_than_lines not_refused) bytes out).output ≡ out
      kept true f = refl
      kept false f = absurd (f refl)

      room-out : (given.refusal ≡ 0 → ⊥) → given.output ≡ out
      room-out f =
          ap (λ (a : LinesAnswer). a.output) y
          ∙ rw (b, le-ltb column_limit g.shape.width fits) (kept (ltb (length out) (length bytes)) (λ e. f (listing-refusal ∙ e)))

      room-stops : (given.refusal ≡ 0 → ⊥) → listing_row (progress_view_of p) (record_view_of d) out ≡ stopped (progress_view_of p) (refused_in out given.refusal p.number)
      room-stops f = step_is ∙ go given.refusal f
        where
          go : (k : ℕ) → (k ≡ 0 → ⊥) → stepped k (progress_view_of p) out bytes (view_of g.shaper) (text_view_of p.state) ≡ stopped (progress_view_of p) (refused_in out k p.number)
          go zero f = absurd (f refl)
          go (suc k) f = refl

-- the results of the row call and of the listing call
module _ (p : Progress) (d : Record) (out : List ℕ) (b : is_mark d.mark ≡ true) where
  pub row-refused : (e : Refusal) → Rows p.shaper d.id d.entries (row_answer_from p.shaper (Err e)) → DrawsOrRefuses (listing_row (progress_view_of p) (record_view_of d) out) p out out (Err e)
  row-refused e u = (row-stops p d out b (row_answer_from p.shaper (Err e)) u (number-some e), refl)

  module _ (n : NextRow) (u : Rows p.shaper d.id d.entries (row_answer_from p.shaper (Ok n))) (after : List ℕ) where
    pub room-refused : (e : Refusal) → answer_of (Err e) after ≡ listing n.shape d.mark out → DrawsOrRefuses (listing_row (progress_view_of p) (record_view_of d) out) p out after (Err e)
    room-refused e y =
        (room-stops p d out b (row_answer_from p.shaper (Ok n)) u refl (Err e) after y (number-some e), room-out p d out b (row_answer_from p.shaper (Ok n)) u refl (Err e) after y (number-some e))

-- ---- the record call's result
module _ (draws : ProgressView → RecordView → List ℕ → StepReply) (p : Progress) (left out : List ℕ) where
  abbrev step : StepReply
  step = on_record draws (progress_view_of p) out (next_record left).outcome (next_record left).view

  outcome-is : (a : RecordAnswer) → Records left a → on_record draws (progress_view_of p) out a.outcome (record_view_of a.«record») ≡ step
  outcome-is a u = ap (λ (r : RecordReply). on_record draws (progress_view_of p) out r.outcome r.view) u.reply

  pub record-drawn : (d : Record) → Records left (record_answer_from (Ok (Some d))) → (after : List ℕ) (r : Result Step Refusal)
      → DrawsOrRefuses (draws (progress_view_of p) (record_view_of d) out) p out after r → DrawsOrRefuses step p out after r
  record-drawn d u after r h = rw (← outcome-is (record_answer_from (Ok (Some d))) u) h
