-- The cells of a row shape (`column_to_node_line`, `column_to_pad_line` and the lines of `next_row_shape` in graph_to_row_shape.rs).
use Rattle.std.specs.Prelude.{ℕ, zero, suc, Bool, cond, List, [], ◌∷◌, eqb}
use Rattle.column.specs.declared.Column.{Column}
use Rattle.column.specs.Columns.{is_parent, is_ancestor}
use Rattle.render.specs.declared.render.NodeLine.{NodeLine}
use Rattle.render.specs.declared.render.NodeLine.TheVariants as node
use Rattle.render.specs.declared.render.PadLine.{PadLine}
use Rattle.render.specs.declared.render.PadLine.TheVariants as pad
use Rattle.render.specs.declared.render.LinkLine.{LinkLine}
use Rattle.render.specs.declared.render.Marks.{Marks}
use Rattle.render.specs.declared.types.Cell.{Cell}
use Rattle.render.specs.Link.{no_marks, link_of}
use Rattle.links.specs.declared.Drawn.{Drawn}
use Rattle.links.specs.declared.AncestorColumnBounds.{AncestorColumnBounds}
use Rattle.links.specs.declared.Swap.{Swap}
use Rattle.links.specs.Links.{is_drawn, is_anonymously_drawn, is_at, from_node, with_uprights}

-- what a column shows beside the node (`column_to_node_line`)
abbrev pub beside_node : Column → NodeLine
beside_node c = cond (is_parent c) node.Parent (cond (is_ancestor c) node.Ancestor node.Blank)

-- what a column shows in a pad line (`column_to_pad_line`)
abbrev pub pad_of : Column → PadLine
pad_of c = cond (is_parent c) pad.Parent (cond (is_ancestor c) pad.Ancestor pad.Blank)

-- the node line's cell of column i, where c is the node's and b the column before the entries (`next_row_shape`)
abbrev pub node_cell : ℕ → ℕ → Column → NodeLine
node_cell i c b = cond (eqb i c) node.Node (beside_node b)

-- a link line's cell; those of an absent link line have no mark
abbrev pub link_cell : Bool → Marks → LinkLine
link_cell need m = cond need (link_of m) no_marks

-- one column of the shape (`next_row_shape`), where d draws: need says whether there is a link line, b and s are the column before the entries and after the swap
abbrev pub cell_of : Bool → AncestorColumnBounds → Swap → ℕ → Drawn → Column → Column → Cell
cell_of need r w i d b s =
    record {
      node = node_cell i r.target b;
      link = link_cell need (with_uprights (is_at w.given_up i) b (from_node r w i d));
      link_from_node = link_cell need (from_node r w i d);
      term = is_anonymously_drawn d;
      ancestry = pad_of s;
      parent = is_drawn d;
    }

-- f of each place from i on, n of them: "one cell per column, walked upward"
abbrev pub cells_from {ℓ} : {A : Type ℓ} → (ℕ → A) → ℕ → ℕ → List A
cells_from f i zero = []
cells_from f i (suc n) = f i ∷ cells_from f (suc i) n
