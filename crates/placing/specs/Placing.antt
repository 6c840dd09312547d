-- How a row finds its columns (01, the section of that name; `next_row_shape` in graph_to_row_shape.rs).
use Rattle.std.specs.Prelude.{ℕ, cond, List, [], ◌∷◌, map, ltb, eqb, length, Some, None, unwrap_or}
use Rattle.column.specs.declared.Column.{Column}
use Rattle.column.specs.declared.Column.TheVariants.{Empty, Blocked, Ancestor, Parent}
use Rattle.column.specs.Found.{Found}
use Rattle.column.specs.Columns.{is_named, find, find_empty, merge, direct, at, put, counted, origin_at}
use Rattle.render.specs.declared.render.Ancestor.{Ancestor as Entry}
use Rattle.render.specs.declared.render.Ancestor.TheVariants.{Ancestor as Indirect, Parent as Direct, Anonymous}
use Rattle.render.specs.declared.types.DashStyle.{DashStyle}
use Rattle.render.specs.declared.types.DashStyle.TheVariants.{Persistent, Once}
use Rattle.shaper.specs.Shaper.{View}
use Rattle.shaper.specs.NodeColumn.{node_column}
use Rattle.links.specs.declared.Drawn.{Drawn}
use Rattle.links.specs.declared.Drawn.TheVariants as drawn
use Rattle.links.specs.Links.{drawn_by}

-- ---- the entries

-- the column that an entry merges as: Anonymous "merges as Blocked" (01, point 2; `ancestor_to_column`)
abbrev pub column_of : Entry → Column
column_of (Indirect n) = Ancestor n
column_of (Direct n) = Parent n
column_of Anonymous = Blocked

-- the column that holds an entry's id; "Anonymous (no id"
abbrev pub held_by : Entry → List Column → Found
held_by (Indirect n) cs = find n cs
held_by (Direct n) cs = find n cs
held_by Anonymous cs = None

-- "a held id merges into its column; any other entry merges into `find_empty` of the node's column, else takes a new last column"
abbrev pub column_of_parent : ℕ → Entry → List Column → ℕ
column_of_parent c e cs = unwrap_or (held_by e cs) (unwrap_or (find_empty c cs) (length cs))

-- the columns after an entry "merges into its column", its id's or another
abbrev pub enter : ℕ → Entry → List Column → List Column
enter c e cs = put cs (column_of_parent c e cs) (merge (at cs (column_of_parent c e cs)) (column_of e))

-- "entries go in order"
abbrev pub walk : ℕ → List Entry → List Column → List Column
walk c [] cs = cs
walk c (e ∷ es) cs = walk c es (enter c e cs)

-- two columns change places (`swap` in `next_row_shape`)
abbrev pub swap : ℕ → ℕ → List Column → List Column
swap i j cs = put (put cs i (at cs j)) j (at cs i)

-- the column that a single entry gives up: "A single entry whose column lies right of the node swaps columns with it."
abbrev pub gave_up : ℕ → List Entry → List Column → Found
gave_up c [] cs = None
gave_up c (e ∷ []) cs = cond (ltb c (column_of_parent c e cs)) (Some (column_of_parent c e cs)) None
gave_up c (e ∷ f ∷ es) cs = None

-- the columns after the swap: "swaps columns with it"
abbrev pub swapped : Found → ℕ → List Column → List Column
swapped None c cs = cs
swapped (Some p) c cs = swap c p cs

-- ---- a row's columns

-- the node's column; the columns with that one Empty, after the entries, and after the swap; the column given up
pub record Placed : Type 0 where
  pub column : ℕ
  pub bare : List Column
  pub walked : List Column
  pub up : Found
  pub settled : List Column

-- "The node's column becomes Empty. Then entries go in order"
abbrev pub place_at : ℕ → List Entry → List Column → Placed
place_at c es cs = record { column = c; bare = cs; walked = walk c es cs; up = gave_up c es cs; settled = swapped (gave_up c es cs) c (walk c es cs) }

-- the columns of a row: "The node takes its id's column"
unfoldable pub place : View → ℕ → List Entry → Placed
place v n es = place_at (node_column v n) es (put v.columns (node_column v n) Empty)

-- ---- after the row

-- "With Once dashes, Ancestor columns turn Parent after the row"
abbrev pub solid_once : DashStyle → List Column → List Column
solid_once Persistent cs = cs
solid_once Once cs = map direct cs

-- ---- who draws in a column

-- who draws: the last entry that met the column, or nobody
pub data Met : Type 0 where
  Nobody : Met
  By : Entry → Met

-- the kind of who draws, which is all that the cells show of it
abbrev pub kind_of : Met → Drawn
kind_of Nobody = drawn.Nobody
kind_of (By e) = drawn_by e

-- the last entry that meets column i, else m: "For a column met twice the later entry draws the link."
abbrev pub met_by : ℕ → ℕ → List Entry → List Column → Met → Met
met_by i c [] cs m = m
met_by i c (e ∷ es) cs m = met_by i c es (enter c e cs) (cond (eqb i (column_of_parent c e cs)) (By e) m)

-- who draws in column i: after a swap the entry that met the column given up draws in the node's (`next_row_shape`)
abbrev pub draws_at : Found → ℕ → List Entry → List Column → ℕ → Met
draws_at None c es cs i = met_by i c es cs Nobody
draws_at (Some p) c es cs i = cond (eqb i c) (met_by p c es cs Nobody) Nobody

-- ---- who started a line (02, R-3)

-- the column that the line in column i comes from, where the node's is c: "The id's move to another column carries it along." (02, R-3)
abbrev pub source : Found → ℕ → ℕ → ℕ
source None c i = i
source (Some p) c i = cond (eqb i c) p i

-- the node "in whose accepted row its id was first named" (02, R-3), for a line that comes from column j of the columns cs before the
-- entries of a row of n: what the column carried, if it was Ancestor or Parent, else n
abbrev pub line_origin : ℕ → List Column → List ℕ → ℕ → ℕ
line_origin n cs os j = cond (is_named (at cs j)) (origin_at os j) n

-- what column i carries after a row of n that was placed so, where the columns carried os: "since, or in, that id's last accepted own row"
-- (02, R-3), since the node's own column is Empty before the entries
abbrev pub origin_after : ℕ → Placed → List ℕ → ℕ → ℕ
origin_after n p os i = counted (at p.settled i) (line_origin n p.bare os (source p.up p.column i))
