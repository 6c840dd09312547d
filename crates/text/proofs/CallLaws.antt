-- Laws of the text call: its answers, one for each way out.
use mathlib.Core.Path.{◌≡◌, refl, sym, ap, ap₂, ◌∙◌}
use mathlib.Core.Bool.{true, false, cond}
use mathlib.Core.List.{List}
use Prim.Native.Nat.{ℕ, zero, suc, ◌<◌, ◌≤◌}
use native.Mathlib.Omega.{arith}
use borrow.Author.Tests.{lt-ltb, le-ltb, ne_eqb}
use lib.Dec.{ltb}
use lib.ListN.{length}
use Rattle.column.specs.Columns.{column_limit}
use Rattle.render.specs.declared.render.Entries.{Entries}
use Rattle.render.specs.declared.types.RowShape.{RowShape}
use Rattle.render.specs.Entries.{listed}
use Rattle.render.specs.Mark.{is_mark}
use Rattle.render.specs.Refusals.{not_refused, mark_outside_span, message_too_long, message_byte_not_writable, output_shorter_than_lines, refusal, number as number_of}
use Rattle.render.specs.declared.refusals.Refusal.{Refusal}
use Rattle.shaper.specs.declared.Shaper.{Shaper}
use Rattle.row_shape.specs.Promises.{RowAnswer}
use Rattle.shaper.specs.Shaper.{View, view_of}
use Rattle.row_shape.specs.Row.{RowReply, row}
use Rattle.row_shape.specs.Promises.{row_reply_of, Rows}
use Rattle.row_shape.proofs.RowFits.{row_fits}
use Rattle.glyphs.specs.declared.Renderer.{Renderer}
use Rattle.glyphs.specs.Cells.{glyphs_of}
use Rattle.message.specs.Message.{message_limit, is_writable, all_of, lines_of}
use Rattle.output.specs.declared.TextState.{TextState}
use Rattle.output.specs.Output.{finish, text_of, TextView, text_view_of}
use Rattle.std.specs.Prelude.{Result, Ok, Err}
use Rattle.std.specs.Result.{IsErrAnd}
use Rattle.text.specs.declared.graph_text_renderer.NextText.{NextText}
use Rattle.text.specs.Text.{text_lines, text_after, text_checks, text_answer, text_with}
use Rattle.text.specs.Promises.{TextAnswer, text_answer_from, text_reply_of, Texts}
use Rattle.text.specs.Inner.{RowText, RowTexts}

-- an accepted row has at most 64 cells
pub accepted-width : (s : Shaper) (n : ℕ) (es : Entries) (g : RowAnswer) → Rows s n es g → g.refusal ≡ 0 → g.shape.width ≤ column_limit
accepted-width s n es g u z =
    let e : row_reply_of g ≡ row (view_of s) n (listed es) = u.reply in
    rw (ap (λ (r : RowReply). r.shape.width) e) (row_fits (view_of s) n (listed es) (sym (ap (λ (r : RowReply). r.refusal) e) ∙ z))

module _ (s : Shaper) (t : TextState) (q : Renderer) (n : ℕ) (es : Entries) (mark : ℕ) (message out : List ℕ) where
  abbrev called : RowReply
  called = row (view_of s) n (listed es)

  abbrev lines : List (List ℕ)
  lines = text_lines finish (glyphs_of q) (text_view_of t) q called.shape mark (lines_of message) (view_of s).height

  abbrev number : ℕ
  number = refusal (text_checks mark message called (text_of lines) out)

  -- a refusal leaves everything as it was
  refusing : (k : ℕ) (r : TextAnswer) → number ≡ suc k → r ≡ record { refusal = suc k; length = 0; measure = 0; shaper = s; state = t }
      → Texts s t q n es mark message out out r
  unfolding text_with
  refusing k r e f =
      rw f (record {
        reply = rw e refl;
        refused = λ z. (refl, refl);
        fits = λ z. absurd (omega (arith, z));
        options = refl;
        queue = λ z. absurd (omega (arith, z));
        rest = λ z. absurd (omega (arith, z));
      })

  abbrev refused_with : ℕ → TextAnswer
  refused_with k = record { refusal = k; length = 0; measure = 0; shaper = s; state = t }

  -- what `?` hands on is the refusal itself
  pub handed-on : (r : Result NextText Refusal) (e : Refusal) → IsErrAnd r (λ x. x ≡ e) → text_answer_from s t r ≡ refused_with (number_of e)
  handed-on (Ok x) e h = absurd h
  handed-on (Err x) e h = ap (λ (y : Refusal). refused_with (number_of y)) h

  pub mark-refused : (r : TextAnswer) → is_mark mark ≡ false → r ≡ refused_with mark_outside_span → Texts s t q n es mark message out out r
  mark-refused r b e = refusing 4 r (rw b refl) e

  module _ (b : is_mark mark ≡ true) where
    pub long-refused : (r : TextAnswer) → message_limit < length message → r ≡ refused_with message_too_long → Texts s t q n es mark message out out r
    long-refused r h e = refusing 5 r (rw (b, lt-ltb message_limit (length message) h) refl) e

    module _ (h : length message ≤ message_limit) where
      pub byte-refused : (r : TextAnswer) → all_of is_writable message ≡ false → r ≡ refused_with message_byte_not_writable → Texts s t q n es mark message out out r
      byte-refused r w e = refusing 6 r (rw (b, le-ltb message_limit (length message) h, w) refl) e

      module _ (w : all_of is_writable message ≡ true) (g : RowAnswer) (u : Rows s n es g) where
        refusal-same : called.refusal ≡ g.refusal
        refusal-same = ap (λ (x : RowReply). x.refusal) (sym u.reply)

        pub row-refused : (r : TextAnswer) → (g.refusal ≡ 0 → ⊥) → r ≡ refused_with g.refusal → Texts s t q n es mark message out out r
        row-refused r z e = go g.refusal refl z
          where
            go : (k : ℕ) → g.refusal ≡ k → (k ≡ 0 → ⊥) → Texts s t q n es mark message out out r
            go zero f z = absurd (z refl)
            go (suc k) f z =
                refusing k r
                (rw (b, le-ltb message_limit (length message) h, w, refusal-same, f, ne_eqb (suc k) 0 z) refl)
                (e ∙ ap refused_with f)

        -- the row is accepted: what was written, or not
        module _ (z : g.refusal ≡ 0) (k : ℕ) (v : k ≡ (view_of s).height) (after : List ℕ) (x : RowText)
            (y : RowTexts (text_view_of t) q g.shape mark message k out after x) where
          shape_same : g.shape ≡ called.shape
          shape_same = ap (λ (p : RowReply). p.shape) u.reply

          abbrev drawn : List (List ℕ)
          drawn = text_lines finish (glyphs_of q) (text_view_of t) q g.shape mark (lines_of message) k

          drawn-same : drawn ≡ lines
          drawn-same =
              ap₂ (λ (h : RowShape) (j : ℕ). text_lines finish (glyphs_of q) (text_view_of t) q h mark (lines_of message) j) shape_same v

          number_same : number ≡ x.refusal
          number_same =
              rw (b, le-ltb message_limit (length message) h, w, refusal-same, z) (ap (λ (l : List (List ℕ)). cond (ltb (length out) (length (text_of l))) output_shorter_than_lines not_refused) (sym drawn-same))
              ∙ sym y.refusal

          pub room-refused : (r : TextAnswer) → (x.refusal ≡ 0 → ⊥) → r ≡ refused_with x.refusal → Texts s t q n es mark message out after r
          room-refused r f e = rw (y.kept f) (go x.refusal refl f)
            where
              go : (c : ℕ) → x.refusal ≡ c → (c ≡ 0 → ⊥) → Texts s t q n es mark message out out r
              go zero d f = absurd (f refl)
              go (suc c) d f = refusing c r (number_same ∙ d) (e ∙ ap refused_with d)

          abbrev given : TextAnswer
          given = record { refusal = 0; length = x.length; measure = x.measure; shaper = g.shaper; state = x.state }

          said : x.refusal ≡ 0 → (ls : List (List ℕ)) (a : View) (c : TextView) → drawn ≡ ls → view_of g.shaper ≡ a → text_after (glyphs_of q) q g.shape mark (lines_of message) k ≡ c
              → text_reply_of given after ≡ text_answer 0 ls out (view_of s) a (text_view_of t) c
          said f ls a c d e i = let o = y.written f in rw (← d, ← e, ← i, o.0, o.1, o.2, o.3) refl

          pub accepted : (r : TextAnswer) → x.refusal ≡ 0 → r ≡ given → Texts s t q n es mark message out after r
          unfolding text_with
          accepted r f e =
              let end : TextView = text_after (glyphs_of q) q called.shape mark (lines_of message) (view_of s).height in
              rw e (record {
                reply =
                    said f lines called.view end drawn-same (ap (λ (p : RowReply). p.view) u.reply)
                    (ap₂ (λ (h : RowShape) (j : ℕ). text_after (glyphs_of q) q h mark (lines_of message) j) shape_same v)
                    ∙ ap (λ (c : ℕ). text_answer c lines out (view_of s) called.view (text_view_of t) end) (sym (number_same ∙ f));
                refused = λ d. absurd (d refl);
                fits = λ d. u.fits z;
                options = u.options;
                queue = λ d. (y.written f).4;
                rest = λ d. u.rest z;
              })
