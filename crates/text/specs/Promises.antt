-- What the text call promises.
use Rattle.std.specs.Prelude.{ℕ, ◌≤◌, ◌≡◌, false, List, Result, Ok, Err}
use Rattle.column.specs.Columns.{column_limit, SpareEmpty}
use Rattle.render.specs.declared.render.Entries.{Entries}
use Rattle.render.specs.Entries.{listed}
use Rattle.render.specs.declared.refusals.Refusal.{Refusal}
use Rattle.render.specs.Refusals.{not_refused, number}
use Rattle.shaper.specs.declared.Shaper.{Shaper}
use Rattle.shaper.specs.Shaper.{view_of}
use Rattle.glyphs.specs.declared.Renderer.{Renderer}
use Rattle.output.specs.declared.TextState.{TextState}
use Rattle.output.specs.Output.{queue_limit, text_view_of}
use Rattle.text.specs.declared.graph_text_renderer.NextText.{NextText}
use Rattle.text.specs.Text.{TextReply, text}

-- what the text call gives beside the output: the refusal's number, 0 for none, the count of bytes written, the line measure, and both states after it
pub record TextAnswer : Type 0 where
  pub refusal : ℕ
  pub length : ℕ
  pub measure : ℕ
  pub shaper : Shaper
  pub state : TextState

-- the result of a text call, as the answer: "A refusal gives its number, length 0, .. and changes no state" (01, "Where a call turns back")
abbrev pub text_answer_from : Shaper → TextState → Result NextText Refusal → TextAnswer
text_answer_from s t (Ok r) = record { refusal = not_refused; length = r.length; measure = r.measure; shaper = r.shaper; state = r.state }
text_answer_from s t (Err e) = record { refusal = number e; length = 0; measure = 0; shaper = s; state = t }

-- what the call gave, as the definition says it
abbrev pub text_reply_of : TextAnswer → List ℕ → TextReply
text_reply_of r out =
    record {
      refusal = r.refusal;
      length = r.length;
      measure = r.measure;
      output = out;
      view = view_of r.shaper;
      text = text_view_of r.state;
    }

-- what the definition says; a refusal leaves the structs themselves as they were; else the raw count is at most 64, the slots past it are Empty, the
-- raw queued length is at most 512, and 0 where nothing is queued; the options stay
pub record Texts (s : Shaper) (t : TextState) (q : Renderer) (n : ℕ) (es : Entries) (mark : ℕ) (message before after : List ℕ) (r : TextAnswer) : Type 0 where
  pub reply : text_reply_of r after ≡ text (view_of s) (text_view_of t) q n (listed es) mark message before
  pub refused : (r.refusal ≡ 0 → ⊥) → (r.shaper ≡ s) × (r.state ≡ t)
  pub fits : r.refusal ≡ 0 → r.shaper.count ≤ column_limit
  pub options : r.shaper.options ≡ s.options
  pub queue : r.refusal ≡ 0 → (r.state.queued_length ≤ queue_limit) × (r.state.is_queued ≡ false → r.state.queued_length ≡ 0)
  pub rest : r.refusal ≡ 0 → SpareEmpty r.shaper.count r.shaper.slots
