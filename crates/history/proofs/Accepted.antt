-- The renderer call accepts the shape of every accepted row, given room and a good mark.
use Prim.Native.Nat.{ℕ, ◌≤◌}
use mathlib.Core.Path.{◌≡◌}
use mathlib.Core.Bool.{true}
use mathlib.Core.List.{List}
use lib.ListN.{length}
use borrow.Author.Tests.{le-ltb}
use Rattle.column.specs.Columns.{column_limit}
use Rattle.render.specs.declared.render.Ancestor.{Ancestor as Entry}
use Rattle.render.specs.Mark.{is_mark}
use Rattle.shaper.specs.Shaper.{View}
use Rattle.row_shape.specs.Row.{row}
use Rattle.row_shape.proofs.RowFits.{row_fits}
use Rattle.glyphs.specs.declared.Renderer.{Renderer}
use Rattle.glyphs.specs.Cells.{glyphs_of}
use Rattle.prefix_lines.specs.PrefixLines.{lines_bytes, next_prefix_lines}

pub renderer-accepts : (v : View) (n : ℕ) (es : List Entry) (q : Renderer) (mark : ℕ) (out : List ℕ)
    → (row v n es).refusal ≡ 0 → is_mark mark ≡ true
    → length (lines_bytes (glyphs_of q) q (row v n es).shape mark) ≤ length out
    → (next_prefix_lines (row v n es).shape q mark out).refusal ≡ 0
renderer-accepts v n es q mark out h good room =
    rw (good, le-ltb column_limit (row v n es).shape.width (row_fits v n es h), le-ltb (length out) (length (lines_bytes (glyphs_of q) q (row v n es).shape mark)) room)
