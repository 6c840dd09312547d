-- What the lent calls promise: the same definitions as the by-value calls, at the lent list itself.
use Rattle.std.specs.Prelude.{ℕ, ◌≤◌, ◌≡◌, false, List, map, Option, Result, Ok, Err}
use Rattle.column.specs.declared.Started.{Started}
use Rattle.column.specs.Columns.{column_limit, SpareEmpty}
use Rattle.render.specs.declared.render.Ancestor.{Ancestor}
use Rattle.render.specs.declared.render.Entry.{Entry}
use Rattle.render.specs.declared.render.Entries.{Entries}
use Rattle.render.specs.Entries.{listed, capped}
use Rattle.shaper.specs.declared.Shaper.{Shaper}
use Rattle.shaper.specs.Shaper.{view_of, origin, Reserves}
use Rattle.render.specs.declared.types.RowShape.{RowShape}
use Rattle.render.specs.declared.refusals.Refusal.{Refusal}
use Rattle.render.specs.Refusals.{not_refused, number}
use Rattle.row_shape.specs.Row.{RowReply, row, no_shape}
use Rattle.preview.specs.Promises.{PreviewAnswer, Previews}
use Rattle.width.specs.Width.{WidthAnswer, width}
use Rattle.glyphs.specs.declared.Renderer.{Renderer}
use Rattle.output.specs.declared.TextState.{TextState}
use Rattle.output.specs.Output.{queue_limit, text_view_of}
use Rattle.text.specs.Text.{TextReply, text}
use Rattle.lineage.specs.declared.TextLength.{TextLength}

-- ---- a lent list

-- the entries of a list of any length
abbrev pub ancestors : List Entry → List Ancestor
ancestors l = map (λ (e : Entry). e.ancestor) l

-- the copy stands for the list itself, or for one longer than the limit where the list is too long
abbrev pub Copies : List Entry → Entries → Type 0
Copies l r = listed r ≡ capped (ancestors l)

-- ---- what the calls give beside what was lent: a result, as document 01's answer

-- the refusal's number, 0 for none
abbrev pub refusal_from : {A : Type 0} → Result A Refusal → ℕ
refusal_from (Ok a) = not_refused
refusal_from (Err e) = number e

-- what the row call gives: the refusal's number and the shape
pub record ShapeAnswer : Type 0 where
  pub refusal : ℕ
  pub shape : RowShape

-- the result of a row call, as the answer
abbrev pub shape_answer_from : Result RowShape Refusal → ShapeAnswer
shape_answer_from (Ok g) = record { refusal = not_refused; shape = g }
shape_answer_from (Err e) = record { refusal = number e; shape = no_shape }

-- what the text call gives: the refusal's number, the count of bytes written and the line measure
pub record LengthAnswer : Type 0 where
  pub refusal : ℕ
  pub length : ℕ
  pub measure : ℕ

-- the result of a text call, as the answer
abbrev pub length_answer_from : Result TextLength Refusal → LengthAnswer
length_answer_from (Ok r) = record { refusal = not_refused; length = r.length; measure = r.measure }
length_answer_from (Err e) = record { refusal = number e; length = 0; measure = 0 }

-- ---- the calls, where s is the shaper at entry and s' at exit

-- the reserving call: what the by-value call promises, of the shaper at exit
abbrev pub LentReserves : Shaper → ℕ → Shaper → ℕ → Type 0
LentReserves s n s' r = Reserves s n (record { refusal = r; shaper = s' })

-- the row call gives what the definition says at the list itself; a refusal leaves the struct itself as it was; else the raw count is at
-- most 64 and the slots past it are Empty; the options stay
pub record LentRows (s : Shaper) (n : ℕ) (l : List Entry) (s' : Shaper) (r : ShapeAnswer) : Type 0 where
  pub reply : ◌≡◌ {A = RowReply} (record { refusal = r.refusal; shape = r.shape; view = view_of s' }) (row (view_of s) n (ancestors l))
  pub refused : (r.refusal ≡ 0 → ⊥) → s' ≡ s
  pub fits : r.refusal ≡ 0 → s'.count ≤ column_limit
  pub options : s'.options ≡ s.options
  pub rest : r.refusal ≡ 0 → SpareEmpty s'.count s'.slots

-- the preview: what the by-value one promises, at the list itself
abbrev pub LentPreview : Shaper → ℕ → List Entry → PreviewAnswer → Type 0
LentPreview s n l r = Previews s n (ancestors l) r

-- the width call gives what the definition says at the list itself
abbrev pub LentWidth : Shaper → Option ℕ → List Entry → WidthAnswer → Type 0
LentWidth s n l r = r ≡ width (view_of s) n (ancestors l)

-- the query gives what the definition says
abbrev pub LentOrigin : Shaper → ℕ → Started → Type 0
LentOrigin s n r = r ≡ origin (view_of s) n

-- the text call gives what the definition says at the list itself, t the text state at entry and t' at exit, out the output at entry and
-- out' at exit; a refusal leaves both structs and every output byte as they were; else the raw count is at most 64, the slots past it are
-- Empty, the raw queued length is at most 512, and 0 where nothing is queued; the options stay
pub record LentTexts (s : Shaper) (t : TextState) (q : Renderer) (n : ℕ) (l : List Entry) (mark : ℕ) (message out : List ℕ) (s' : Shaper) (t' : TextState) (out' : List ℕ) (r : LengthAnswer) : Type 0 where
  pub reply : ◌≡◌ {A = TextReply}
      (record { refusal = r.refusal; length = r.length; measure = r.measure; output = out'; view = view_of s'; text = text_view_of t' })
      (text (view_of s) (text_view_of t) q n (ancestors l) mark message out)
  pub refused : (r.refusal ≡ 0 → ⊥) → (s' ≡ s) × (t' ≡ t) × (out' ≡ out)
  pub fits : r.refusal ≡ 0 → s'.count ≤ column_limit
  pub options : s'.options ≡ s.options
  pub queue : r.refusal ≡ 0 → (t'.queued_length ≤ queue_limit) × (t'.is_queued ≡ false → t'.queued_length ≡ 0)
  pub rest : r.refusal ≡ 0 → SpareEmpty s'.count s'.slots
