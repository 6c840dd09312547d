-- What the by-value calls promise of the copy of a list, said of the list itself.
use mathlib.Core.Path.{◌≡◌, refl, ◌∙◌, ap}
use Prim.Native.Nat.{ℕ, zero, suc}
use mathlib.Core.Bool.{Bool, true, false, cond}
use mathlib.Core.List.{List}
use Rattle.std.specs.Prelude.{Option}
use Rattle.render.specs.declared.render.Ancestor.{Ancestor}
use Rattle.render.specs.declared.render.Entry.{Entry}
use Rattle.render.specs.declared.render.Entries.{Entries}
use Rattle.render.specs.Entries.{is_too_many, overlong, listed, capped}
use Rattle.render.specs.Refusals.{refusal}
use Rattle.message.specs.Message.{lines_of}
use Rattle.shaper.specs.declared.Shaper.{Shaper}
use Rattle.shaper.specs.Shaper.{View, view_of}
use Rattle.row_shape.specs.Row.{RowReply, row}
use Rattle.row_shape.specs.Promises.{Rows, RowAnswer}
use Rattle.preview.specs.Preview.{preview, preview_of}
use Rattle.preview.specs.Promises.{Previews, PreviewAnswer}
use Rattle.width.specs.Width.{width, WidthAnswer}
use Rattle.width.specs.Promises.{Widths}
use Rattle.glyphs.specs.declared.Renderer.{Renderer}
use Rattle.glyphs.specs.Cells.{glyphs_of}
use Rattle.output.specs.declared.TextState.{TextState}
use Rattle.output.specs.Output.{finish, TextView, text_view_of, text_of}
use Rattle.text.specs.Text.{TextReply, text_answer, text_lines, text_checks, text_after, text_with, text}
use Rattle.text.specs.Promises.{Texts, TextAnswer}
use Rattle.lineage.specs.Promises.{ancestors, Copies, LentRows, LentPreview, LentWidth, LentTexts}

-- whatever is the same for all lists that are too long is the same for a list and the one that its copy stands for
capped_same : {A : Type 0} (f : List Ancestor → A) → ((a b : List Ancestor) → is_too_many a ≡ true → is_too_many b ≡ true → f a ≡ f b)
    → (es : List Ancestor) → f (capped es) ≡ f es
capped_same f same es = go (is_too_many es) refl
  where
    go : (t : Bool) → is_too_many es ≡ t → f (cond t overlong es) ≡ f es
    go true h = same overlong es refl h
    go false h = refl

-- ---- row
row-many : (v : View) (n : ℕ) (a b : List Ancestor) → is_too_many a ≡ true → is_too_many b ≡ true → row v n a ≡ row v n b
unfolding row
row-many v n a b h k = rw (h, k)

pub row-capped : (v : View) (n : ℕ) (es : List Ancestor) → row v n (capped es) ≡ row v n es
row-capped v n = capped_same (row v n) (row-many v n)

pub rowed : (s : Shaper) (n : ℕ) (l : List Entry) (es : Entries) (r : RowAnswer) → Copies l es → Rows s n es r → LentRows s n l r.shaper (record { refusal = r.refusal; shape = r.shape })
rowed s n l es r c h =
    record {
      reply = h.reply ∙ ap (row (view_of s) n) c ∙ row-capped (view_of s) n (ancestors l);
      refused = h.refused;
      fits = h.fits;
      options = h.options;
      rest = h.rest;
    }

-- ---- preview
pub previewed : (s : Shaper) (n : ℕ) (l : List Entry) (es : Entries) (r : PreviewAnswer) → Copies l es → Previews s n (listed es) r → LentPreview s n l r
previewed s n l es r c h =
    record {
      reply = h.reply ∙ ap (preview (view_of s) n) c ∙ ap preview_of (row-capped (view_of s) n (ancestors l));
      refused = h.refused;
      fits = h.fits;
      rest = h.rest;
    }

-- ---- width
width-many : (v : View) (n : Option ℕ) (a b : List Ancestor) → is_too_many a ≡ true → is_too_many b ≡ true → width v n a ≡ width v n b
unfolding width
width-many v n a b h k = rw (h, k)

pub width-capped : (v : View) (n : Option ℕ) (es : List Ancestor) → width v n (capped es) ≡ width v n es
width-capped v n = capped_same (width v n) (width-many v n)

pub measured : (s : Shaper) (n : Option ℕ) (l : List Entry) (es : Entries) (r : WidthAnswer) → Copies l es → Widths s n es r → LentWidth s n l r
measured s n l es r c h = h.reply ∙ ap (width (view_of s) n) c ∙ width-capped (view_of s) n (ancestors l)

-- ---- text
pub text-capped : (v : View) (t : TextView) (q : Renderer) (n : ℕ) (es : List Ancestor) (mark : ℕ) (message out : List ℕ)
    → text v t q n (capped es) mark message out ≡ text v t q n es mark message out
unfolding text_with
text-capped v t q n es mark message out =
    let ms : List (List ℕ) = lines_of message in
    ap
    (λ (r : RowReply).
    let ls : List (List ℕ) = text_lines finish (glyphs_of q) t q r.shape mark ms v.height in
    text_answer (refusal (text_checks mark message r (text_of ls) out)) ls out v r.view t (text_after (glyphs_of q) q r.shape mark ms v.height))
    (row-capped v n es)

-- a refused answer leaves the output as it was
answer-kept : (k : ℕ) (ls : List (List ℕ)) (out : List ℕ) (v w : View) (t u : TextView) → ((text_answer k ls out v w t u).refusal ≡ 0 → ⊥) → (text_answer k ls out v w t u).output ≡ out
answer-kept zero ls out v w t u h = absurd (h refl)
answer-kept (suc k) ls out v w t u h = refl

text-kept : (v : View) (t : TextView) (q : Renderer) (n : ℕ) (es : List Ancestor) (mark : ℕ) (message out : List ℕ)
    → ((text v t q n es mark message out).refusal ≡ 0 → ⊥) → (text v t q n es mark message out).output ≡ out
unfolding text_with
text-kept v t q n es mark message out h =
    let r : RowReply = row v n es in
    let ms : List (List ℕ) = lines_of message in
    let ls : List (List ℕ) = text_lines finish (glyphs_of q) t q r.shape mark ms v.height in
    answer-kept (refusal (text_checks mark message r (text_of ls) out)) ls out v r.view t (text_after (glyphs_of q) q r.shape mark ms v.height) h

pub written : (s : Shaper) (t : TextState) (q : Renderer) (n : ℕ) (l : List Entry) (es : Entries) (mark : ℕ) (message out out' : List ℕ) (r : TextAnswer)
    → Copies l es → Texts s t q n es mark message out out' r
    → LentTexts s t q n l mark message out r.shaper r.state out' (record { refusal = r.refusal; length = r.length; measure = r.measure })
written s t q n l es mark message out out' r c h =
    record {
      reply =
          h.reply
          ∙ ap (λ (a : List Ancestor). text (view_of s) (text_view_of t) q n a mark message out) c
          ∙ text-capped (view_of s) (text_view_of t) q n (ancestors l) mark message out;
      refused = λ k. (
        (h.refused k).0,
        (h.refused k).1,
        ap (λ (a : TextReply). a.output) h.reply
            ∙ text-kept (view_of s) (text_view_of t) q n (listed es) mark message out (λ z. k (ap (λ (a : TextReply). a.refusal) h.reply ∙ z)),
      );
      fits = h.fits;
      options = h.options;
      queue = h.queue;
      rest = h.rest;
    }
