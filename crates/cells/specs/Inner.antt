-- What the inner functions give for a row's cells.
use Rattle.std.specs.Prelude.{ℕ, Bool, false, cond, not, ◌&&◌, eqb}
use Rattle.column.specs.declared.Column.{Column}
use Rattle.render.specs.declared.render.LinkLine.{LinkLine}
use Rattle.render.specs.declared.types.Cell.{Cell}
use Rattle.render.specs.Link.{joined, strokes, unmarked}
use Rattle.links.specs.declared.Drawn.{Drawn}
use Rattle.links.specs.declared.AncestorColumnBounds.{AncestorColumnBounds}
use Rattle.links.specs.declared.Swap.{Swap}
use Rattle.links.specs.Links.{is_drawn, is_at, passes_solid, passes_dashed, with_uprights}
use Rattle.cells.specs.Cells.{beside_node, pad_of, link_cell, cell_of}

-- the cell of a column that nothing of the row reaches
abbrev pub plain_cell : Bool → Column → Cell
plain_cell need c =
    record {
      node = beside_node c;
      link = link_cell need (with_uprights false c unmarked);
      link_from_node = link_cell need unmarked;
      term = false;
      ancestry = pad_of c;
      parent = false;
    }

-- a plain cell with the strokes that pass it
abbrev pub passed_by : Cell → LinkLine → Cell
passed_by c own =
    record { node = c.node; link = joined c.link own; link_from_node = own; term = c.term; ancestry = c.ancestry; parent = c.parent }

-- the cell of column i: the plain one with the strokes that pass it, where nothing of the row ends in it
abbrev pub cell_with : Bool → AncestorColumnBounds → Swap → ℕ → Drawn → Column → Column → Cell → Cell
cell_with need r w i d b s plain =
    cond (not (eqb i r.target) && (not (is_drawn d) && not (is_at w.given_up i)))
    (passed_by plain (link_cell need (strokes (passes_solid r w i) (passes_dashed r w i))))
    (cell_of need r w i d b s)
