-- What a preview says of the row call that comes next.
use Prim.Native.Nat.{ℕ}
use mathlib.Core.Path.{◌≡◌, ◌∙◌, sym, ap}
use mathlib.Core.List.{List}
use Rattle.render.specs.declared.render.Entry.{Entry}
use Rattle.shaper.specs.declared.Shaper.{Shaper}
use Rattle.shaper.specs.Shaper.{view_of}
use Rattle.preview.specs.Preview.{preview_of}
use Rattle.preview.specs.Promises.{preview_reply_of, PreviewAnswer}
use Rattle.lineage.specs.Promises.{LentPreview, LentRows, ShapeAnswer}

-- "It equals the row call made on a copy" (02, R-1): the row call made next, on the shaper that was previewed and is as it was, gives the
-- refusal, node column and width that the preview p gave, and leaves the columns that it showed, with what they carry
pub preview-then-row : (s s' : Shaper) (n : ℕ) (l : List Entry) (p : PreviewAnswer) (r : ShapeAnswer)
    → LentPreview s n l p → LentRows s n l s' r
    → preview_reply_of p ≡ record { refusal = r.refusal; column = r.shape.node_column; width = r.shape.width; columns = (view_of s').columns; origins = (view_of s').origins }
preview-then-row s s' n l p r h k = h.reply ∙ sym (ap preview_of k.reply)
