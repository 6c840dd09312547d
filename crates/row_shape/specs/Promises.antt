-- The promise of the row call.
use Rattle.std.specs.Prelude.{ℕ, ◌≤◌, ◌≡◌, Result, Ok, Err}
use Rattle.column.specs.Columns.{column_limit, SpareEmpty}
use Rattle.render.specs.declared.render.Entries.{Entries}
use Rattle.render.specs.Entries.{listed}
use Rattle.render.specs.declared.types.RowShape.{RowShape}
use Rattle.render.specs.declared.refusals.Refusal.{Refusal}
use Rattle.render.specs.Refusals.{not_refused, number}
use Rattle.shaper.specs.declared.Shaper.{Shaper}
use Rattle.row_shape.specs.declared.NextRow.{NextRow}
use Rattle.shaper.specs.Shaper.{view_of}
use Rattle.row_shape.specs.Row.{RowReply, row, no_shape}

-- what the row call gives: the refusal's number, 0 for none, the shape, and the shaper after it
pub record RowAnswer : Type 0 where
  pub refusal : ℕ
  pub shape : RowShape
  pub shaper : Shaper

-- the result of a row call, as the answer: "A refusal gives its number, .. a shape without cells .., and changes no state" (01, "Where a call turns back")
abbrev pub row_answer_from : Shaper → Result NextRow Refusal → RowAnswer
row_answer_from s (Ok r) = record { refusal = not_refused; shape = r.shape; shaper = r.shaper }
row_answer_from s (Err e) = record { refusal = number e; shape = no_shape; shaper = s }

-- what the row call gave, in the definition's words
abbrev pub row_reply_of : RowAnswer → RowReply
row_reply_of r = record { refusal = r.refusal; shape = r.shape; view = view_of r.shaper }

-- what the row call promises: what the definition says; a refusal leaves the struct itself as it was; else the raw count is at most 64
-- and the slots past it are Empty; the options stay
pub record Rows (s : Shaper) (n : ℕ) (es : Entries) (r : RowAnswer) : Type 0 where
  pub reply : row_reply_of r ≡ row (view_of s) n (listed es)
  pub refused : (r.refusal ≡ 0 → ⊥) → r.shaper ≡ s
  pub fits : r.refusal ≡ 0 → r.shaper.count ≤ column_limit
  pub options : r.shaper.options ≡ s.options
  pub rest : r.refusal ≡ 0 → SpareEmpty r.shaper.count r.shaper.slots
