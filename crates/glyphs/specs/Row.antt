-- What a renderer looks at: the row's facts, and each cell with its index and the next cell's link (types.rs).
use Rattle.std.specs.Prelude.{ℕ, suc, Bool, true, false, List, [], ◌∷◌}
use Rattle.render.specs.declared.render.LinkLine.{LinkLine}
use Rattle.render.specs.declared.render.PadLine.{PadLine}
use Rattle.render.specs.declared.render.PadLine.TheVariants.{Blank, Ancestor, Parent}
use Rattle.render.specs.declared.types.Cell.{Cell}
use Rattle.render.specs.declared.types.RowShape.{RowShape}
use Rattle.std.specs.List.{list_any}
use Rattle.render.specs.Lines.{cells_of}
use Rattle.render.specs.Link.{meets, no_marks}
use Rattle.glyphs.specs.declared.Renderer.{Renderer}
use Rattle.glyphs.specs.declared.types.Drawing.{Drawing}
use Rattle.glyphs.specs.declared.types.Place.{Place}
use Rattle.glyphs.specs.declared.types.Row.{Row}
use Rattle.glyphs.specs.Marks.{horizontal}

-- the test of `any_horizontal`
abbrev pub is_horizontal : Cell → Bool
is_horizontal c = meets c.link horizontal

-- whether a pad cell is an ancestor's
abbrev pub is_ancestor : PadLine → Bool
is_ancestor Blank = false
is_ancestor Ancestor = true
is_ancestor Parent = false

-- the test of `has_indirect_ancestor`
abbrev pub is_indirect : Cell → Bool
is_indirect c = is_ancestor c.ancestry

-- the facts of a shape: its flags, whether some link cell is horizontal, `has_indirect_ancestor`
abbrev pub row_of : RowShape → Row
row_of g =
    record {
      is_head = g.is_head;
      is_root = g.is_root;
      merge = g.merge;
      dash_style = g.style.dash_style;
      link_line = g.link_line;
      term_line = g.term_line;
      any_horizontal = list_any is_horizontal (cells_of g);
      has_indirect_ancestor = list_any is_indirect (cells_of g);
    }

-- what the lines of a shape are drawn from
abbrev pub drawing_of : RowShape → Renderer → ℕ → Drawing
drawing_of g q mark = record { renderer = q; row = row_of g; mark = mark; cells = g.cells; width = g.width }

-- "an index and the next cell, empty past the end" (01, "Rust forms and their stand-ins")
abbrev pub first_link : List Cell → LinkLine
first_link [] = no_marks
first_link (c ∷ cs) = c.link

-- each cell with its index and the next one's link, from index i on
abbrev pub places : ℕ → List Cell → List Place
places i [] = []
places i (c ∷ cs) = record { index = i; cell = c; next = first_link cs } ∷ places (suc i) cs
