-- Laws of a row's lines.
use mathlib.Core.Path.{◌≡◌, refl}
use Rattle.glyphs.specs.declared.row.TheConstants.{LINES}
use Rattle.glyphs.specs.Cells.{all_lines}

-- the lines that the code goes through are the definition's, in its order
pub lines-are : LINES ≡ all_lines
lines-are = refl
