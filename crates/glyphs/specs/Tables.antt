-- A table of glyphs, as it is lent to the writers: the glyphs that it holds, and the numbers by which a renderer's cells are drawn from it.
use Rattle.std.specs.Prelude.{ℕ, suc, ◌+◌, ◌*◌, ◌<◌, ◌≤◌, min, ◌≡◌, cond, List, [], ◌∷◌, ◌++◌, map, ltb, leb, eqb, length, get_or, take, drop}
use Rattle.column.specs.Columns.{column_limit}
use Rattle.render.specs.declared.types.DashStyle.{DashStyle}
use Rattle.glyphs.specs.declared.Renderer.{Renderer}
use Rattle.glyphs.specs.declared.Renderer.TheVariants.{Ascii, AsciiLarge, Square, Curved, Dec}
use Rattle.glyphs.specs.declared.types.Choice.{Choice}
use Rattle.glyphs.specs.declared.types.Choice.TheVariants as choice
use Rattle.glyphs.specs.declared.types.Drawing.{Drawing}
use Rattle.glyphs.specs.declared.types.Line.{Line}
use Rattle.glyphs.specs.declared.types.Place.{Place}
use Rattle.glyphs.specs.declared.types.Row.{Row}
use Rattle.glyphs.specs.Ascii as ascii
use Rattle.glyphs.specs.BoxDrawing as box
use Rattle.glyphs.specs.Cells.{link_choice, choice_by, choices_of, line_bytes}
use Rattle.glyphs.specs.GlyphSets.{SPACE, PARENT, TERMINATION}
use Rattle.glyphs.specs.LinkTable.{Names, entry_at, named}
use Rattle.glyphs.specs.Row.{places}
use Rattle.slices.specs.Characters.{blank, bar, dot, colon, plus, minus, quote, tilde, backslash, slash, underscore}
use Rattle.slices.specs.Joins.{joins}

-- ---- the glyphs of a table

-- nine bytes for a glyph: a count, read as at most 8, and eight places ("const byte tables with lengths", 01, "Each place and its form")
abbrev pub placed : List ℕ → ℕ → List ℕ
placed table n = take (min (get_or table (n * 9) 0) 8) (map (λ (j : ℕ). get_or table (n * 9 + j) 0) (1 ∷ 2 ∷ 3 ∷ 4 ∷ 5 ∷ 6 ∷ 7 ∷ 8 ∷ []))

-- glyph n of a table; none past the last whole one
unfoldable pub glyph_at : List ℕ → ℕ → List ℕ
glyph_at table n = cond (leb (n * 9 + 9) (length table)) (placed table n) []

-- ---- what a renderer's table holds

-- each of the first with each of the second
abbrev pub paired : {A B C : Type 0} → (A → B → C) → List A → List B → List C
paired f [] bs = []
paired f (a ∷ rest) bs = map (f a) bs ++ paired f rest bs

-- an ASCII cell's first character: an upright, or another that a line can have there (ascii.rs)
abbrev pub uprights : List ℕ
uprights = blank ∷ bar ∷ dot ∷ colon ∷ plus ∷ minus ∷ quote ∷ tilde ∷ []

-- its second, the connecting one (ascii.rs)
abbrev pub connections : List ℕ
connections = blank ∷ minus ∷ backslash ∷ slash ∷ []

-- a large ASCII cell's left character (ascii_large.rs)
abbrev pub lefts : List ℕ
lefts = blank ∷ slash ∷ dot ∷ underscore ∷ backslash ∷ []

-- its center
abbrev pub centers : List ℕ
centers = blank ∷ bar ∷ dot ∷ colon ∷ underscore ∷ tilde ∷ []

-- its right character
abbrev pub rights : List ℕ
rights = blank ∷ backslash ∷ dot ∷ underscore ∷ slash ∷ []

-- two characters
abbrev pub two : ℕ → ℕ → List ℕ
two a b = a ∷ b ∷ []

-- the glyphs of the ASCII renderer's table: a cell's two characters, and the mark
abbrev pub ascii_table : ℕ → List (List ℕ)
ascii_table mark = paired two uprights connections ++ (two mark blank ∷ [])

-- of the large one's: a cell's three characters, the first cell's two, and the mark in either
abbrev pub large_table : ℕ → List (List ℕ)
large_table mark =
    paired (λ (a : ℕ) (bs : List ℕ). a ∷ bs) lefts (paired two centers rights)
    ++ (paired two centers rights ++ ((blank ∷ two mark blank) ∷ two mark blank ∷ []))

-- of a box drawing renderer's: the fifteen glyphs of a set, and the mark
abbrev pub box_table : (ℕ → List ℕ) → ℕ → List (List ℕ)
box_table glyphs mark = map glyphs (0 ∷ 1 ∷ 2 ∷ 3 ∷ 4 ∷ 5 ∷ 6 ∷ 7 ∷ 8 ∷ 9 ∷ 10 ∷ 11 ∷ 12 ∷ 13 ∷ 14 ∷ []) ++ (two mark blank ∷ [])

-- a box drawing renderer's table: its glyphs and the mark, and the entries that name its link glyphs
pub record BoxTables (table : List ℕ) (glyphs : ℕ → List ℕ) (mark : ℕ) : Type 0 where
  pub holds : (n : ℕ) → n < 16 → glyph_at table n ≡ get_or (box_table glyphs mark) n []
  pub names : Names (entry_at table)

-- what a renderer's table holds, for any glyphs
abbrev pub table_of : (ℕ → List ℕ) → Renderer → ℕ → List (List ℕ)
table_of glyphs Ascii mark = ascii_table mark
table_of glyphs AsciiLarge mark = large_table mark
table_of glyphs Square mark = box_table glyphs mark
table_of glyphs Curved mark = box_table glyphs mark
table_of glyphs Dec mark = box_table glyphs mark

-- a table that holds them
abbrev pub Holds : List ℕ → (ℕ → List ℕ) → Renderer → ℕ → Type 0
Holds table glyphs q mark = (n : ℕ) → n < length (table_of glyphs q mark) → glyph_at table n ≡ get_or (table_of glyphs q mark) n []

-- a renderer's own table: it holds the glyphs, and its entries give each link cell the choice of the Rust
pub record Tables (table : List ℕ) (glyphs : ℕ → List ℕ) (q : Renderer) (mark : ℕ) : Type 0 where
  pub holds : Holds table glyphs q mark
  pub names : (r : Row) (p : Place) → link_choice (named table) q r p ≡ link_choice box.box_link q r p

-- ---- the number by which a cell is drawn

-- a character's place in a list, the list's length where it is not in it
abbrev pub place_in : List ℕ → ℕ → ℕ
place_in [] c = 0
place_in (x ∷ xs) c = cond (eqb c x) 0 (suc (place_in xs c))

-- the number of two characters in the ASCII renderer's table
abbrev pub pair_number : ℕ → ℕ → ℕ
pair_number a b = 4 * place_in uprights a + place_in connections b

-- the number of what a cell of the ASCII renderer was given, past the last glyph where it draws none
abbrev pub ascii_number : DashStyle → Choice → ℕ
ascii_number d choice.Space = pair_number blank blank
ascii_number d choice.Solid = pair_number bar blank
ascii_number d choice.Dashed = pair_number (ascii.ancestor d) blank
ascii_number d choice.Mark = 32
ascii_number d choice.End = pair_number tilde blank
ascii_number d (choice.Two a b) = pair_number a b
ascii_number d (choice.Three a b c) = 33
ascii_number d (choice.Glyph n) = 33

-- the number of the first cell's two characters in the large one's
abbrev pub first_number : ℕ → ℕ → ℕ
first_number b c = 150 + (5 * place_in centers b + place_in rights c)

-- and of three
abbrev pub three_number : ℕ → ℕ → ℕ → ℕ
three_number a b c = 30 * place_in lefts a + (5 * place_in centers b + place_in rights c)

-- a character and a blank, with a blank before them in each cell but the first
abbrev pub apart_number : ℕ → ℕ → ℕ
apart_number i c = cond (ltb 0 i) (three_number blank c blank) (first_number c blank)

-- the number of what cell i of the large one was given
abbrev pub large_number : DashStyle → ℕ → Choice → ℕ
large_number d i choice.Space = apart_number i blank
large_number d i choice.Solid = apart_number i bar
large_number d i choice.Dashed = apart_number i (ascii.ancestor d)
large_number d i choice.Mark = cond (ltb 0 i) 180 181
large_number d i choice.End = apart_number i tilde
large_number d i (choice.Two b c) = first_number b c
large_number d i (choice.Three a b c) = three_number a b c
large_number d i (choice.Glyph n) = 182

-- the number of a glyph of a set; the mark stands behind them
abbrev pub box_number : DashStyle → Choice → ℕ
box_number d choice.Space = SPACE
box_number d choice.Solid = PARENT
box_number d choice.Dashed = box.ancestor d
box_number d choice.Mark = 15
box_number d choice.End = TERMINATION
box_number d (choice.Two a b) = 16
box_number d (choice.Three a b c) = 16
box_number d (choice.Glyph n) = box.styled d n

-- the number by which a renderer draws what cell i was given
unfoldable pub number_of : Renderer → DashStyle → ℕ → Choice → ℕ
number_of Ascii d i x = ascii_number d x
number_of AsciiLarge d i x = large_number d i x
number_of Square d i x = box_number d x
number_of Curved d i x = box_number d x
number_of Dec d i x = box_number d x

-- the numbers of cells from i on
abbrev pub numbers_from : Renderer → DashStyle → ℕ → List Choice → List ℕ
numbers_from q d i [] = []
numbers_from q d i (x ∷ xs) = number_of q d i x ∷ numbers_from q d (suc i) xs

-- ---- what the writers are given

-- the numbers of a drawing's line, each link cell by its entry in a table
abbrev pub numbers_in : List ℕ → Drawing → Line → List ℕ
numbers_in table d l =
    numbers_from d.renderer d.row.dash_style 0 (map (choice_by (named table) d.renderer d.row l) (places 0 (take d.width d.cells)))

-- a line of a drawing with the mark in place, for any glyphs
abbrev pub line_in : (ℕ → List ℕ) → Drawing → Line → List ℕ
line_in glyphs d l =
    line_bytes glyphs d.renderer d.row.dash_style d.mark (choices_of d.renderer d.row (take d.width d.cells) l)

-- the bytes of cells that are drawn by these numbers from a table
abbrev pub cells_text : List ℕ → List ℕ → List ℕ
cells_text table numbers = joins (glyph_at table) numbers

-- cells written at the start of a line that has so many bytes behind them, where the output has room for both: their count, that they stand there,
-- and that nothing behind the line's end is touched; else nothing is written
pub record WritesCells (text : List ℕ) (behind : ℕ) (before after : List ℕ) (r : ℕ) : Type 0 where
  pub count : r ≡ cond (leb (length text + behind) (length before)) (length text) 0
  pub bytes : take r after ≡ cond (leb (length text + behind) (length before)) text []
  pub rest : drop (cond (leb (length text + behind) (length before)) (length text + behind) 0) after
      ≡ drop (cond (leb (length text + behind) (length before)) (length text + behind) 0) before

-- the first of some numbers, at most as many as a row has cells
abbrev pub first_cells : ℕ → List ℕ → List ℕ
first_cells width numbers = take (min width column_limit) numbers

-- the numbers of a line's cells chosen into an array, as many as it has room for
pub record Chooses (numbers before after : List ℕ) (r : ℕ) : Type 0 where
  pub count : r ≡ min (length numbers) (length before)
  pub chosen : first_cells r after ≡ take (length before) numbers
  pub few : length numbers ≤ column_limit
