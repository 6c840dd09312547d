-- Demand 3 of the two programs: for the bytes of any file, the steps from the beginning are text calls, or row calls for the listing, on one shaper that is
-- fresh at the start, and a drawn history keeps every line.
use Prim.Native.Nat.{ℕ, zero, suc, ◌≤◌}
use mathlib.Core.Path.{◌≡◌, refl, sym, ◌∙◌, ap, ap₂}
use mathlib.Core.Bool.{Bool, true, false, cond, not, false≢true, ◌&&◌}
use mathlib.Core.List.{List, [], ◌∷◌, ◌++◌}
use native.Mathlib.Omega.{arith}
use lib.Dec.{eqb, ltb}
use lib.ListN.{length, take, length-replicate}
use borrow.Author.Tests.{eqb-true}
use Rattle.render.specs.Mark.{is_mark}
use Rattle.render.specs.Refusals.{not_refused, output_shorter_than_lines, refusal}
use Rattle.shaper.specs.Shaper.{View, new_shaper, origin}
use Rattle.row_shape.specs.Row.{RowReply, row}
use Rattle.row_shape.proofs.RowFits.{row_fits}
use Rattle.glyphs.specs.declared.Renderer.{Renderer}
use Rattle.glyphs.specs.declared.Renderer.TheVariants.{Curved}
use Rattle.output.specs.Output.{TextView}
use Rattle.text.specs.Text.{TextReply}
use Rattle.glyphs.specs.Cells.{keep}
use Rattle.prefix_lines.specs.Listing.{listing_bytes}
use Rattle.record.specs.Record.{RecordView, Outcome, Ready, Ended, Refused, next_record}
use Rattle.steps.specs.Steps.{program_options, ProgressView, stepped, page_row, page_step, listing_checks, listing_row, listing_step, on_record}
use Rattle.steps.specs.Files.{Running, step_on, after_step, written_by, reads_of, step_by_step, page_of, listing_of, listing_room}
use Rattle.steps.proofs.FilePages.{over-long}
use Rattle.steps.proofs.Room.{listing-has-room}
use Rattle.history.specs.Account.{Call, Row, Waiting, nobody}
use Rattle.history.specs.Demand3.{Above, nothing_above, Each, KeepsEveryLine}
use Rattle.history.specs.Follows.{leaves, verdicts}
use Rattle.history.specs.Ours.{TextArguments, Item, call_of, text_on, is_refusal, refuses, after, shape_of, head_line, foot_line, ours}
use Rattle.history.specs.Programs.{Program, page_program, listing_program, is_ready, row_read, started, steps_taken, comes_to_call, rows_of, items_from, step_shape, program, AreCalls}
use Rattle.history.specs.Bytes.{LinesInBytes}
use Rattle.history.proofs.Alike.{Alike, AllAlike, alike-keeps}
use Rattle.history.proofs.AsRow.{refused-view, row-refused}
use Rattle.history.proofs.Keeps.{keeps-every-line}
use Rattle.history.proofs.ListBytes.{alike-bytes}

-- ---- a step that comes to its call is that call
record IsCall (P : Program) (s : Running) (piece : List ℕ) : Type 0 where
  view : (step_on P.step s piece).after.view ≡ after s.progress.view (P.item s (next_record piece).view)
  verdict : not (step_on P.step s piece).goes_on ≡ refuses s.progress.view (P.item s (next_record piece).view)

ready : (o : Outcome) (b : Bool) → (is_ready o && b) ≡ true → (o ≡ Ready) × (b ≡ true)
ready Ready b h = (refl, h)
ready Ended b h = absurd (false≢true h)
ready (Refused n) b h = absurd (false≢true h)

-- what a step leaves, and whether it goes on, by the number of its refusal
step-view : (k : ℕ) (p : ProgressView) (out bytes : List ℕ) (v : View) (t : TextView) → ((n : ℕ) → k ≡ suc n → v ≡ p.view) → (stepped k p out bytes v t).after.view ≡ v
step-view zero p out bytes v t h = refl
step-view (suc k) p out bytes v t h = sym (h k refl)

step-verdict : (k : ℕ) (p : ProgressView) (out bytes : List ℕ) (v : View) (t : TextView) → not (stepped k p out bytes v t).goes_on ≡ is_refusal k
step-verdict zero p out bytes v t = refl
step-verdict (suc k) p out bytes v t = refl

page-is-call : (s : Running) (piece : List ℕ) → comes_to_call page_program piece ≡ true → IsCall page_program s piece
page-is-call s piece h =
    let e : (next_record piece).outcome ≡ Ready = (ready (next_record piece).outcome true h).0 in
    record {
      view = rw e (step-view T.refusal p s.output (take T.length T.output) T.view T.text (refused-view p.view t r.id r.entries));
      verdict = rw e (step-verdict T.refusal p s.output (take T.length T.output) T.view T.text);
    }
  where
    r : RecordView
    r = (next_record piece).view

    p : ProgressView
    p = s.progress

    t : TextArguments
    t = record { state = p.text; renderer = Curved; mark = r.mark; message = r.message; output = s.output }

    T : TextReply
    T = text_on p.view t r.id r.entries

listing-is-call : (s : Running) (piece : List ℕ) → listing_room ≤ length s.output → comes_to_call listing_program piece ≡ true → IsCall listing_program s piece
listing-is-call s piece room h =
    let e = ready (next_record piece).outcome (is_mark r.mark) h in
    record {
      view = rw (e.0, number e.1) (step-view R.refusal p s.output bytes R.view p.text (row-refused p.view r.id r.entries));
      verdict = rw (e.0, number e.1) (step-verdict R.refusal p s.output bytes R.view p.text);
    }
  where
    r : RecordView
    r = (next_record piece).view

    p : ProgressView
    p = s.progress

    R : RowReply
    R = row p.view r.id r.entries

    bytes : List ℕ
    bytes = listing_bytes R.shape r.mark

    number : is_mark r.mark ≡ true → refusal (listing_checks r.mark R bytes s.output) ≡ R.refusal
    number m = rw m (go (eqb R.refusal not_refused) refl)
      where
        go : (b : Bool) → eqb R.refusal not_refused ≡ b
            → cond (not b) R.refusal (cond (ltb (length s.output) (length bytes)) output_shorter_than_lines not_refused) ≡ R.refusal
        go false e = refl
        go true e =
            let z : R.refusal ≡ 0 = eqb-true R.refusal 0 e in
            rw (listing-has-room R.shape r.mark s.output (row_fits p.view r.id r.entries z) room) (sym z)

-- a step that comes to no call does not go on
pub page-stops : (s : Running) (piece : List ℕ) → comes_to_call page_program piece ≡ false → (step_on page_step s piece).goes_on ≡ false
page-stops s piece h = go (next_record piece).outcome h
  where
    go : (o : Outcome) → (is_ready o && true) ≡ false → (on_record page_row s.progress s.output o (next_record piece).view).goes_on ≡ false
    go Ready z = absurd (false≢true (sym z))
    go Ended z = refl
    go (Refused n) z = refl

pub listing-stops : (s : Running) (piece : List ℕ) → comes_to_call listing_program piece ≡ false → (step_on listing_step s piece).goes_on ≡ false
listing-stops s piece h = go (next_record piece).outcome h
  where
    go : (o : Outcome) → (is_ready o && is_mark (next_record piece).view.mark) ≡ false → (on_record listing_row s.progress s.output o (next_record piece).view).goes_on ≡ false
    go Ready z = rw z refl
    go Ended z = refl
    go (Refused n) z = refl

-- ---- a program whose steps are calls
module _ (P : Program) (q : Renderer)
    (counts : (s : Running) (r : RecordView) → call_of (P.item s r) ≡ Row r.id r.entries)
    (is_call : (s : Running) (piece : List ℕ) → P.room ≤ length s.output → comes_to_call P piece ≡ true → IsCall P s piece)
    (stops : (s : Running) (piece : List ℕ) → comes_to_call P piece ≡ false → (step_on P.step s piece).goes_on ≡ false) where
  -- the call of a step
  abbrev made : Running → List ℕ → Item
  made s piece = P.item s (next_record piece).view

  -- the rows among the steps from a state on
  abbrev rows_from : Running → List (List ℕ) → List (List ℕ)
  rows_from s reads = keep (comes_to_call P) (steps_taken P s reads)

  alike : (s : Running) (piece : List ℕ) → IsCall P s piece → Alike (program P q) (ours q) s s.progress.view piece (made s piece)
  alike s piece c =
      let e : row_read piece ≡ call_of (made s piece) = sym (counts s (next_record piece).view) in
      record {
        columns = refl;
        call = e;
        verdict = c.verdict;
        after = ap (λ (v : View). v.columns) c.view;
        origins = ap (λ (v : View). v.origins) c.view;
        query = ap origin c.view;
        node = ap (λ (k : Call). (shape_of s.progress.view k).node_column) e;
        head = ap (λ (k : Call). head_line q (shape_of s.progress.view k)) e;
        foot = ap (λ (k : Call). foot_line q (shape_of s.progress.view k)) e;
      }

  -- each row's step, from a state on, is its call on the shaper as the step before left it
  record Calls (s : Running) (ks : List (List ℕ)) : Type 0 where
    all_alike : AllAlike (program P q) (ours q) s s.progress.view ks (items_from P s ks)
    are-calls : AreCalls P q s ks
    in_bytes : (w : Waiting) (a : Above) → Each (program P q) (LinesInBytes (program P q) (step_shape P) q) s w a ks

  none : (s : Running) → Calls s []
  none s = record { all_alike = tt; are-calls = record { left = refl; refusals = refl }; in_bytes = λ w a. tt }

  more : (s : Running) (piece : List ℕ) (ks : List (List ℕ)) → IsCall P s piece → Calls (after_step P.step s piece) ks → Calls s (piece ∷ ks)
  more s piece ks c C =
      let items : List Item = items_from P (after_step P.step s piece) ks in
      record {
        all_alike = (alike s piece c, rw (← c.view) C.all_alike);
        are-calls =
            record {
              left = C.are-calls.left ∙ ap (λ (v : View). leaves (ours q) v items) c.view;
              refusals = ap₂ ◌∷◌ c.verdict (C.are-calls.refusals ∙ ap (λ (v : View). verdicts (ours q) v items) c.view);
            };
        in_bytes = λ w a. (
          alike-bytes (program P q) (step_shape P) q s s.progress.view w a piece (made s piece) (alike s piece c)
              (ap (shape_of s.progress.view) (sym (counts s (next_record piece).view))),
          C.in_bytes _ _,
        );
      }

  calls : (s : Running) (reads : List (List ℕ)) → P.room ≤ length s.output → Calls s (rows_from s reads)
  calls s [] room = none s
  calls s (piece ∷ rest) room =
      go (comes_to_call P piece) refl (step_on P.step s piece).goes_on refl (calls (after_step P.step s piece) rest (omega (arith, room, over-long (step_on P.step s piece).written s.output)))
    where
      behind : Bool → List (List ℕ)
      behind g = keep (comes_to_call P) (cond g (steps_taken P (after_step P.step s piece) rest) [])

      go : (b : Bool) → comes_to_call P piece ≡ b → (g : Bool) → (step_on P.step s piece).goes_on ≡ g → Calls (after_step P.step s piece) (rows_from (after_step P.step s piece) rest)
          → Calls s (cond b (piece ∷ behind g) (behind g))
      go true b true g C = more s piece (rows_from (after_step P.step s piece) rest) (is_call s piece room b) C
      go true b false g C = more s piece [] (is_call s piece room b) (none (after_step P.step s piece))
      go false b true g C = absurd (false≢true (sym (stops s piece b) ∙ g))
      go false b false g C = none s

  from_start : (reads : List (List ℕ)) → Calls (started P) (rows_of P reads)
  from_start reads = calls (started P) reads (omega (arith, length-replicate {A = ℕ} P.room 0))

  rows-keep : (reads : List (List ℕ)) → KeepsEveryLine (program P q) (started P) (rows_of P reads)
  rows-keep reads =
      let K = keeps-every-line q program_options (items_from P (started P) (rows_of P reads)) in
      record {
        fresh = K.fresh;
        calls =
            alike-keeps (program P q) (ours q) (started P) (new_shaper program_options).view (rows_of P reads) (items_from P (started P) (rows_of P reads)) nobody nothing_above
            (from_start reads).all_alike K.calls;
      }

-- what the steps write is what the program writes
written_is : (P : Program) (s : Running) (reads : List (List ℕ)) → step_by_step P.step s.progress s.output reads ≡ written_by P.step s (steps_taken P s reads)
written_is P s [] = refl
written_is P s (piece ∷ rest) = go (step_on P.step s piece).goes_on (written_is P (after_step P.step s piece) rest)
  where
    go : (g : Bool) → step_by_step P.step (after_step P.step s piece).progress (after_step P.step s piece).output rest ≡ written_by P.step (after_step P.step s piece) (steps_taken P (after_step P.step s piece) rest)
        → (step_on P.step s piece).written ++ cond g (step_by_step P.step (after_step P.step s piece).progress (after_step P.step s piece).output rest) []
        ≡ (step_on P.step s piece).written ++ written_by P.step (after_step P.step s piece) (cond g (steps_taken P (after_step P.step s piece) rest) [])
    go true e = ap (λ (x : List ℕ). (step_on P.step s piece).written ++ x) e
    go false e = refl

-- ---- the two programs, on the bytes of any file

-- the steps that come to a row are text calls, for the listing row calls, on one shaper
pub pages-are-text-calls : (q : Renderer) (file : List ℕ) → AreCalls page_program q (started page_program) (rows_of page_program (reads_of file))
pages-are-text-calls q file = (from_start page_program q (λ s r. refl) (λ s piece room. page-is-call s piece) page-stops (reads_of file)).are-calls

pub listings-are-row-calls : (q : Renderer) (file : List ℕ) → AreCalls listing_program q (started listing_program) (rows_of listing_program (reads_of file))
listings-are-row-calls q file = (from_start listing_program q (λ s r. refl) listing-is-call listing-stops (reads_of file)).are-calls

-- the shaper is fresh at the start
pub starts-fresh : (P : Program) → (started P).progress.view ≡ (new_shaper program_options).view
starts-fresh P = refl

-- a drawn history keeps every line
pub pages-keep : (q : Renderer) (file : List ℕ) → KeepsEveryLine (program page_program q) (started page_program) (rows_of page_program (reads_of file))
pages-keep q file = rows-keep page_program q (λ s r. refl) (λ s piece room. page-is-call s piece) page-stops (reads_of file)

pub listings-keep : (q : Renderer) (file : List ℕ) → KeepsEveryLine (program listing_program q) (started listing_program) (rows_of listing_program (reads_of file))
listings-keep q file = rows-keep listing_program q (λ s r. refl) listing-is-call listing-stops (reads_of file)

-- the lines of each row that is drawn are in the bytes of a renderer call of its shape
pub pages-in-bytes : (q : Renderer) (file : List ℕ)
    → Each (program page_program q) (LinesInBytes (program page_program q) (step_shape page_program) q) (started page_program) nobody nothing_above (rows_of page_program (reads_of file))
pages-in-bytes q file = (from_start page_program q (λ s r. refl) (λ s piece room. page-is-call s piece) page-stops (reads_of file)).in_bytes nobody nothing_above

pub listings-in-bytes : (q : Renderer) (file : List ℕ)
    → Each (program listing_program q) (LinesInBytes (program listing_program q) (step_shape listing_program) q) (started listing_program) nobody nothing_above (rows_of listing_program (reads_of file))
listings-in-bytes q file = (from_start listing_program q (λ s r. refl) listing-is-call listing-stops (reads_of file)).in_bytes nobody nothing_above

-- these steps write what the programs write
pub page-written : (file : List ℕ) → page_of file ≡ written_by page_step (started page_program) (steps_taken page_program (started page_program) (reads_of file))
page-written file = written_is page_program (started page_program) (reads_of file)

pub listing-written : (file : List ℕ) → listing_of file ≡ written_by listing_step (started listing_program) (steps_taken listing_program (started listing_program) (reads_of file))
listing-written file = written_is listing_program (started listing_program) (reads_of file)
