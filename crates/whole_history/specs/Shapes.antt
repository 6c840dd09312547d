-- The bytes of a row shape and of a preview, as bench compares them: of a shape 12 of the row, then 8 of each cell; of a preview 3.
use Rattle.std.specs.Prelude.{ℕ, ◌/◌, ◌%◌, ◌<◌, ◌≤◌, ◌≡◌, Bool, cond, List, [], ◌∷◌, ◌++◌, length, take, drop, Option, Some, None}
use Rattle.render.specs.declared.render.NodeLine.{NodeLine}
use Rattle.render.specs.declared.render.NodeLine.TheVariants.{Blank as NodeBlank, Ancestor as NodeAncestor, Parent as NodeParent, Node}
use Rattle.render.specs.declared.render.PadLine.{PadLine}
use Rattle.render.specs.declared.render.PadLine.TheVariants.{Blank, Ancestor, Parent}
use Rattle.render.specs.declared.types.Cell.{Cell}
use Rattle.render.specs.declared.types.RowShape.{RowShape}
use Rattle.slices.specs.Joins.{joins, over}

-- 1 where it holds
abbrev pub flag : Bool → ℕ
flag b = cond b 1 0

-- a number's two low bytes, the lowest first
abbrev pub two_bytes : ℕ → List ℕ
two_bytes n = n % 0x100 ∷ n / 0x100 % 0x100 ∷ []

-- a node line's cell
abbrev pub node_number : NodeLine → ℕ
node_number NodeBlank = 0
node_number NodeAncestor = 1
node_number NodeParent = 2
node_number Node = 3

-- an ancestry line's cell
abbrev pub pad_number : PadLine → ℕ
pad_number Blank = 0
pad_number Ancestor = 1
pad_number Parent = 2

-- a cell: node, link, link from node, term, ancestry, parent
unfoldable pub cell_bytes : Cell → List ℕ
cell_bytes c =
    (node_number c.node ∷ two_bytes c.link.bits) ++ (two_bytes c.link_from_node.bits ++ (flag c.term ∷ pad_number c.ancestry ∷ flag c.parent ∷ []))

-- what a shape says of its row: the node's id, the node, and the lines
unfoldable pub head_bytes : RowShape → List ℕ
head_bytes g =
    (two_bytes g.node ++ two_bytes (g.node / 0x10000))
    ++ (flag g.is_head ∷ flag g.is_root ∷ flag g.merge ∷ g.node_column % 0x100 ∷ g.width % 0x100 ∷ flag g.separator_line ∷ flag g.link_line ∷ flag g.term_line ∷ [])

-- a shape
abbrev pub shape_bytes : RowShape → List ℕ
shape_bytes g = head_bytes g ++ joins cell_bytes (take g.width g.cells)

-- the cell of its node alone
abbrev pub node_bytes : RowShape → List ℕ
node_bytes g = joins cell_bytes (take 1 (drop g.node_column g.cells))

-- a shape if the rows are kept, else the cell of its node alone
abbrev pub row_bytes : Bool → RowShape → List ℕ
row_bytes kept g = cond kept (shape_bytes g) (node_bytes g)

-- a preview: the node's column, the width of its line, and the count of columns afterwards
abbrev pub preview_bytes : ℕ → ℕ → ℕ → List ℕ
preview_bytes column width count = column % 0x100 ∷ width % 0x100 ∷ count % 0x100 ∷ []

-- what a writer of a row's bytes promises: where they fit, their count, and that they are written over the start of the output; else nothing, and
-- the output as it was
abbrev pub Puts : List ℕ → List ℕ → List ℕ → Option ℕ → Type 0
Puts bytes out out' (Some n) = (length bytes ≤ length out) × (n ≡ length bytes) × (out' ≡ over bytes out)
Puts bytes out out' None = (length out < length bytes) × (out' ≡ out)
