-- Queued lines that text calls leave: the condition of each claim that compares or counts lines (02, R-2).
use Rattle.std.specs.Prelude.{ℕ, ◌≡◌, List, [], ◌⊎◌}
use Rattle.shaper.specs.Shaper.{View}
use Rattle.glyphs.specs.declared.Renderer.{Renderer}
use Rattle.output.specs.Output.{TextView}
use Rattle.text.specs.Text.{TextCall, TextReply, text_with}

-- what a text call gives with these glyphs
abbrev pub reply_of : (ℕ → List ℕ) → Renderer → View → TextView → TextCall → List ℕ → TextReply
reply_of glyphs q v t c out = text_with glyphs v t q c.node c.entries c.mark c.message out

-- an accepted text call with these glyphs left the line, whatever its states, its arguments and its output were
pub record LeftByCall (glyphs : ℕ → List ℕ) (q : Renderer) (t : TextView) : Type 0 where
  pub view : View
  pub before : TextView
  pub call : TextCall
  pub output : List ℕ
  pub accepted : (reply_of glyphs q view before call output).refusal ≡ 0
  pub queued : t.queued ≡ (reply_of glyphs q view before call output).text.queued

-- "a queued line that a text call with the same renderer and glyphs left" (02, R-2), or none
abbrev pub LeftQueue : (ℕ → List ℕ) → Renderer → TextView → Type 0
LeftQueue glyphs q t = (t.queued ≡ []) ⊎ LeftByCall glyphs q t
