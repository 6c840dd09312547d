-- What a cell of a line is given, said once for the three Rust files, which differ in a link cell's choice alone.
use Rattle.std.specs.Prelude.{cond}
use Rattle.render.specs.declared.render.NodeLine.{NodeLine}
use Rattle.render.specs.declared.render.NodeLine.TheVariants as node
use Rattle.render.specs.declared.render.PadLine.{PadLine}
use Rattle.render.specs.declared.render.PadLine.TheVariants as pad
use Rattle.render.specs.declared.types.Cell.{Cell}
use Rattle.render.specs.Lines.{node_to_pad, foot_pad}
use Rattle.glyphs.specs.declared.types.Choice.{Choice}
use Rattle.glyphs.specs.declared.types.Choice.TheVariants.{Space, Solid, Dashed, Mark, End}
use Rattle.glyphs.specs.declared.types.Line.{Line}
use Rattle.glyphs.specs.declared.types.Line.TheVariants.{PreNode, Node, PostNode, Link, SecondLink, Term, SecondTerm, Ancestry, PostAncestry}
use Rattle.glyphs.specs.declared.types.Place.{Place}
use Rattle.glyphs.specs.declared.types.Row.{Row}

-- a pad line's cell (`render_pad_text` in ascii.rs and ascii_large.rs, `pad_line_to_glyph` in box_drawing.rs)
abbrev pub pad_choice : PadLine → Choice
pad_choice pad.Parent = Solid
pad_choice pad.Ancestor = Dashed
pad_choice pad.Blank = Space

-- the node line's cell (`node_line` in each of the three)
abbrev pub node_choice : NodeLine → Choice
node_choice node.Node = Mark
node_choice node.Parent = Solid
node_choice node.Ancestor = Dashed
node_choice node.Blank = Space

-- a term line's cell: the line's own choice at an end, else the ancestry line's (`term_line` in each of the three)
abbrev pub term_choice : Choice → Cell → Choice
term_choice x c = cond c.term x (pad_choice c.ancestry)

-- what a cell is given in a line, where the choices of a link cell and of a second link line's cell are given
abbrev pub choice_with : (Row → Place → Choice) → (Row → Place → Choice) → Row → Line → Place → Choice
choice_with link second r PreNode p = pad_choice (node_to_pad r.is_head p.cell.node)
choice_with link second r Node p = node_choice p.cell.node
choice_with link second r PostNode p = pad_choice (node_to_pad r.is_root p.cell.node)
choice_with link second r Link p = link r p
choice_with link second r SecondLink p = second r p
choice_with link second r Term p = term_choice Solid p.cell
choice_with link second r SecondTerm p = term_choice End p.cell
choice_with link second r Ancestry p = pad_choice p.cell.ancestry
choice_with link second r PostAncestry p = pad_choice (foot_pad r.dash_style p.cell.ancestry)

-- where there is no second link line
abbrev pub no_choice : Row → Place → Choice
no_choice r p = Space
