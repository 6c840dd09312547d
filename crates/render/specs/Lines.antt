-- The cells of a row shape, and the pad lines that renderers derive from them (types.rs; row_shape_to_prefix_lines.rs).
use Rattle.std.specs.Prelude.{Bool, true, false, List, map, take}
use Rattle.render.specs.declared.render.NodeLine.{NodeLine}
use Rattle.render.specs.declared.render.NodeLine.TheVariants as node
use Rattle.render.specs.declared.render.PadLine.{PadLine}
use Rattle.render.specs.declared.render.PadLine.TheVariants as pad
use Rattle.render.specs.declared.types.DashStyle.{DashStyle}
use Rattle.render.specs.declared.types.DashStyle.TheVariants.{Persistent, Once}
use Rattle.render.specs.declared.types.Cell.{Cell}
use Rattle.render.specs.declared.types.RowShape.{RowShape}
use Rattle.render.specs.Link.{no_marks}

-- a cell past the width, and each of a shape without cells
abbrev pub blank_cell : Cell
blank_cell =
    record {
      node = node.Blank;
      link = no_marks;
      link_from_node = no_marks;
      term = false;
      ancestry = pad.Blank;
      parent = false;
    }

-- the cells of a shape's lines
abbrev pub cells_of : RowShape → List Cell
cells_of g = take g.width g.cells

-- `node_to_pad_line` in types.rs: the node's own cell is blank or solid
abbrev pub node_to_pad : Bool → NodeLine → PadLine
node_to_pad b node.Blank = pad.Blank
node_to_pad b node.Ancestor = pad.Ancestor
node_to_pad b node.Parent = pad.Parent
node_to_pad true node.Node = pad.Blank
node_to_pad false node.Node = pad.Parent

-- `pre_node_line` in types.rs
abbrev pub pre_node_line : RowShape → List PadLine
pre_node_line g = map (λ (c : Cell). node_to_pad g.is_head c.node) (cells_of g)

-- `post_node_line` in types.rs
abbrev pub post_node_line : RowShape → List PadLine
post_node_line g = map (λ (c : Cell). node_to_pad g.is_root c.node) (cells_of g)

-- "With Once dashes, .. its foot line already shows them solid." (01; `ancestry_lines` in row_shape_to_prefix_lines.rs)
abbrev pub foot_pad : DashStyle → PadLine → PadLine
foot_pad d pad.Blank = pad.Blank
foot_pad Persistent pad.Ancestor = pad.Ancestor
foot_pad Once pad.Ancestor = pad.Parent
foot_pad d pad.Parent = pad.Parent

-- the ancestry line (types.rs)
abbrev pub ancestry_line : RowShape → List PadLine
ancestry_line g = map (λ (c : Cell). c.ancestry) (cells_of g)

-- the line below the ancestry line, the foot line (`ancestry_lines` in row_shape_to_prefix_lines.rs)
abbrev pub post_ancestry_line : RowShape → List PadLine
post_ancestry_line g = map (λ (c : Cell). foot_pad g.style.dash_style c.ancestry) (cells_of g)
