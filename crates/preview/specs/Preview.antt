-- The preview of a row (02, R-1): what the row call gives on a copy.
use Rattle.std.specs.Prelude.{ℕ, List}
use Rattle.column.specs.declared.Column.{Column}
use Rattle.render.specs.declared.render.Ancestor.{Ancestor as Entry}
use Rattle.shaper.specs.Shaper.{View}
use Rattle.row_shape.specs.Row.{RowReply, row}

-- "it gives node column, node line width, columns afterwards and refusal" (02, R-1)
pub record PreviewReply : Type 0 where
  pub refusal : ℕ
  pub column : ℕ
  pub width : ℕ
  pub columns : List Column
  -- what they carry (02, R-3)
  pub origins : List ℕ

-- these four of a row call's answer; of a refused one column 0, width 0 and the columns as they were
abbrev pub preview_of : RowReply → PreviewReply
preview_of r = record { refusal = r.refusal; column = r.shape.node_column; width = r.shape.width; columns = r.view.columns; origins = r.view.origins }

-- "It equals the row call made on a copy" (02, R-1)
abbrev pub preview : View → ℕ → List Entry → PreviewReply
preview v n es = preview_of (row v n es)
