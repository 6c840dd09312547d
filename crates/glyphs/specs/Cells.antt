-- Which lines a row has, what each cell of a line is given, and the bytes of that, in the five renderers.
use Rattle.std.specs.Prelude.{ℕ, suc, Bool, true, false, cond, ◌&&◌, List, [], ◌∷◌, ◌++◌, map, get_or}
use Rattle.render.specs.declared.types.Cell.{Cell}
use Rattle.render.specs.declared.types.DashStyle.{DashStyle}
use Rattle.render.specs.declared.types.RowShape.{RowShape}
use Rattle.render.specs.Lines.{cells_of}
use Rattle.glyphs.specs.declared.Renderer.{Renderer}
use Rattle.glyphs.specs.declared.Renderer.TheVariants.{Ascii, AsciiLarge, Square, Curved, Dec}
use Rattle.glyphs.specs.declared.types.Choice.{Choice}
use Rattle.glyphs.specs.declared.types.Line.{Line}
use Rattle.glyphs.specs.declared.types.Line.TheVariants.{PreNode, Node, PostNode, Link, SecondLink, Term, SecondTerm, Ancestry, PostAncestry}
use Rattle.glyphs.specs.declared.types.Place.{Place}
use Rattle.glyphs.specs.declared.types.Row.{Row}
use Rattle.glyphs.specs.Ascii as ascii
use Rattle.glyphs.specs.AsciiLarge as large
use Rattle.glyphs.specs.BoxDrawing as box
use Rattle.glyphs.specs.Choices.{choice_with, no_choice}
use Rattle.glyphs.specs.GlyphSets.{no_glyphs, square, curved, dec}
use Rattle.glyphs.specs.Row.{row_of, places}

-- the lines that a row can have, in the order of the Rust
abbrev pub all_lines : List Line
all_lines = PreNode ∷ Node ∷ PostNode ∷ Link ∷ SecondLink ∷ Term ∷ SecondTerm ∷ Ancestry ∷ PostAncestry ∷ []

-- large ASCII alone draws a second link line
abbrev pub is_large : Renderer → Bool
is_large Ascii = false
is_large AsciiLarge = true
is_large Square = false
is_large Curved = false
is_large Dec = false

-- whether the row has the line
abbrev pub is_present : Renderer → Row → Line → Bool
is_present q r PreNode = true
is_present q r Node = true
is_present q r PostNode = true
is_present q r Link = r.link_line
is_present q r SecondLink = r.link_line && is_large q
is_present q r Term = r.term_line
is_present q r SecondTerm = r.term_line
is_present q r Ancestry = r.has_indirect_ancestor
is_present q r PostAncestry = true

-- the elements that pass the test
abbrev pub keep : {A : Type 0} → (A → Bool) → List A → List A
keep t [] = []
keep t (x ∷ xs) = cond (t x) (x ∷ keep t xs) (keep t xs)

-- a link cell's choice, where a box drawing renderer's glyphs are named by the argument
abbrev pub link_choice : (box.Facts → ℕ) → Renderer → Row → Place → Choice
link_choice named Ascii = ascii.link
link_choice named AsciiLarge = large.link
link_choice named Square = box.link named
link_choice named Curved = box.link named
link_choice named Dec = box.link named

-- a cell's choice in the second link line, which large ASCII alone has
abbrev pub second_link_choice : Renderer → Row → Place → Choice
second_link_choice Ascii = no_choice
second_link_choice AsciiLarge = large.second_link
second_link_choice Square = no_choice
second_link_choice Curved = no_choice
second_link_choice Dec = no_choice

-- what a cell is given, for any names of link glyphs
abbrev pub choice_by : (box.Facts → ℕ) → Renderer → Row → Line → Place → Choice
choice_by named q r l p = choice_with (link_choice named q) (second_link_choice q) r l p

-- what a cell is given: box drawing's link glyphs are those that box_drawing.rs chooses
unfoldable pub choice_of : Renderer → Row → Line → Place → Choice
choice_of q r l p = choice_by box.box_link q r l p

-- what each cell of a line is given
abbrev pub choices_of : Renderer → Row → List Cell → Line → List Choice
choices_of q r cells l = map (choice_of q r l) (places 0 cells)

-- a prefix line: its kind, and what each cell is given
pub record PrefixLine : Type 0 where
  pub kind : Line
  pub choices : List Choice

-- a line of a shape
abbrev pub line_of : Renderer → RowShape → Line → PrefixLine
line_of q g l = record { kind = l; choices = choices_of q (row_of g) (cells_of g) l }

-- the lines of a shape that are there, in their order
abbrev pub lines : Renderer → RowShape → List PrefixLine
lines q g = map (line_of q g) (keep (is_present q (row_of g)) all_lines)

-- the glyphs of a renderer; the ASCII ones have none
abbrev pub set_of : Renderer → List (List ℕ)
set_of Ascii = no_glyphs
set_of AsciiLarge = no_glyphs
set_of Square = square
set_of Curved = curved
set_of Dec = dec

-- the glyph with the number n
unfoldable pub glyphs_of : Renderer → ℕ → List ℕ
glyphs_of q n = get_or (set_of q) n []

-- the bytes of what cell i was given
unfoldable pub bytes_of : (ℕ → List ℕ) → Renderer → DashStyle → ℕ → ℕ → Choice → List ℕ
bytes_of glyphs Ascii d mark i x = ascii.bytes d mark x
bytes_of glyphs AsciiLarge d mark i x = large.bytes d mark i x
bytes_of glyphs Square d mark i x = box.bytes glyphs d mark x
bytes_of glyphs Curved d mark i x = box.bytes glyphs d mark x
bytes_of glyphs Dec d mark i x = box.bytes glyphs d mark x

-- the bytes of cells from i on, each by its index
abbrev pub joins_from : (ℕ → Choice → List ℕ) → ℕ → List Choice → List ℕ
joins_from b i [] = []
joins_from b i (x ∷ xs) = b i x ++ joins_from b (suc i) xs

-- a line's bytes with the mark in place, for any glyphs (`render_prefix_line`, `next_prefix_lines`)
abbrev pub line_bytes : (ℕ → List ℕ) → Renderer → DashStyle → ℕ → List Choice → List ℕ
line_bytes glyphs q d mark xs = joins_from (bytes_of glyphs q d mark) 0 xs
