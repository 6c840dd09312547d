-- The promise of the preview.
use Rattle.std.specs.Prelude.{ℕ, ◌≤◌, ◌≡◌, List, Result, Ok, Err}
use Rattle.column.specs.Columns.{column_limit, live, origins, SpareEmpty}
use Rattle.render.specs.declared.render.Ancestor.{Ancestor as Entry}
use Rattle.column.specs.declared.Slot.{Slot}
use Rattle.render.specs.declared.refusals.Refusal.{Refusal}
use Rattle.render.specs.Refusals.{not_refused, number}
use Rattle.shaper.specs.declared.Shaper.{Shaper}
use Rattle.shaper.specs.Shaper.{view_of}
use Rattle.preview.specs.declared.RowPreview.{RowPreview}
use Rattle.preview.specs.Preview.{PreviewReply, preview}

-- what the preview gives: the refusal's number, 0 for none, the node's column, the width of the node line, and the columns after the row
pub record PreviewAnswer : Type 0 where
  pub refusal : ℕ
  pub node_column : ℕ
  pub width : ℕ
  pub slots : List Slot
  pub count : ℕ

-- the result of a preview, as the answer: a refused one gives column 0, width 0, and the shaper's own columns
abbrev pub preview_answer_from : Shaper → Result RowPreview Refusal → PreviewAnswer
preview_answer_from s (Ok r) = record { refusal = not_refused; node_column = r.node_column; width = r.width; slots = r.slots; count = r.count }
preview_answer_from s (Err e) = record { refusal = number e; node_column = 0; width = 0; slots = s.slots; count = s.count }

-- what the preview gave, in the definition's words
abbrev pub preview_reply_of : PreviewAnswer → PreviewReply
preview_reply_of r = record { refusal = r.refusal; column = r.node_column; width = r.width; columns = live r.count r.slots; origins = origins r.count r.slots }

-- what the preview of a row with these entries promises: what the definition says; a refused one gives the shaper's own slots and count;
-- else the raw count is at most 64 and the slots past it are Empty
pub record Previews (s : Shaper) (n : ℕ) (es : List Entry) (r : PreviewAnswer) : Type 0 where
  pub reply : preview_reply_of r ≡ preview (view_of s) n es
  pub refused : (r.refusal ≡ 0 → ⊥) → (r.slots ≡ s.slots) × (r.count ≡ s.count)
  pub fits : r.refusal ≡ 0 → r.count ≤ column_limit
  pub rest : r.refusal ≡ 0 → SpareEmpty r.count r.slots
