-- What the inner functions give: the numbers of cells, and bytes that are written within a line.
use Rattle.std.specs.Prelude.{ℕ, ◌≡◌, Bool, true, false, List, length, take, drop}
use Rattle.render.specs.declared.types.Cell.{Cell}
use Rattle.render.specs.declared.types.DashStyle.{DashStyle}
use Rattle.render.specs.Link.{no_marks}
use Rattle.glyphs.specs.declared.Renderer.{Renderer}
use Rattle.glyphs.specs.declared.types.Choice.{Choice}
use Rattle.glyphs.specs.declared.types.Choice.TheVariants.{Space, Solid, Dashed, Mark, End, Two, Three, Glyph}
use Rattle.glyphs.specs.declared.types.Line.{Line}
use Rattle.glyphs.specs.declared.types.Line.TheVariants.{PreNode, Node, PostNode, Link, SecondLink, Term, SecondTerm, Ancestry, PostAncestry}
use Rattle.glyphs.specs.declared.types.Place.{Place}
use Rattle.glyphs.specs.declared.types.PlainNumbers.{PlainNumbers}
use Rattle.glyphs.specs.declared.types.Row.{Row}
use Rattle.glyphs.specs.BoxDrawing.{Facts}
use Rattle.glyphs.specs.Cells.{link_choice, second_link_choice}
use Rattle.glyphs.specs.Choices.{choice_with, no_choice}
use Rattle.glyphs.specs.Tables.{number_of}

-- the numbers of a cell that is given no link
pub record Plain (q : Renderer) (d : DashStyle) (i : ℕ) (r : PlainNumbers) : Type 0 where
  pub space : r.space ≡ number_of q d i Space
  pub solid : r.solid ≡ number_of q d i Solid
  pub dashed : r.dashed ≡ number_of q d i Dashed
  pub mark : r.mark ≡ number_of q d i Mark
  pub end : r.end ≡ number_of q d i End

-- the number of a choice among them, 0 of a link
abbrev pub plain_number : PlainNumbers → Choice → ℕ
plain_number r Space = r.space
plain_number r Solid = r.solid
plain_number r Dashed = r.dashed
plain_number r Mark = r.mark
plain_number r End = r.end
plain_number r (Two a b) = 0
plain_number r (Three a b c) = 0
plain_number r (Glyph n) = 0

-- the box drawing glyph's number that a choice holds, 0 of another
abbrev pub glyph_of : Choice → ℕ
glyph_of Space = 0
glyph_of Solid = 0
glyph_of Dashed = 0
glyph_of Mark = 0
glyph_of End = 0
glyph_of (Two a b) = 0
glyph_of (Three a b c) = 0
glyph_of (Glyph n) = n

-- whether a line is a link line
abbrev pub is_link : Line → Bool
is_link PreNode = false
is_link Node = false
is_link PostNode = false
is_link Link = true
is_link SecondLink = true
is_link Term = false
is_link SecondTerm = false
is_link Ancestry = false
is_link PostAncestry = false

-- what a cell is given in a line that is no link line
abbrev pub plain_choice : Row → Line → Cell → Choice
plain_choice r l c = choice_with no_choice no_choice r l (record { index = 0; cell = c; next = no_marks })

-- what a cell is given in a link line, a blank in another
abbrev pub link_line_choice : (Facts → ℕ) → Renderer → Row → Line → Place → Choice
link_line_choice named q r PreNode p = Space
link_line_choice named q r Node p = Space
link_line_choice named q r PostNode p = Space
link_line_choice named q r Link p = link_choice named q r p
link_line_choice named q r SecondLink p = second_link_choice q r p
link_line_choice named q r Term p = Space
link_line_choice named q r SecondTerm p = Space
link_line_choice named q r Ancestry p = Space
link_line_choice named q r PostAncestry p = Space

-- bytes written at the start of a line that has `end` bytes: their count, that they stand there, and that nothing behind the line's end is touched
pub record WritesWithin (bs : List ℕ) (end : ℕ) (before after : List ℕ) (r : ℕ) : Type 0 where
  pub count : r ≡ length bs
  pub bytes : take r after ≡ bs
  pub behind : drop end after ≡ drop end before
