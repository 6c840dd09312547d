-- The column of each of a row's entries, as the definition of the row call places them, and R-9 of one accepted row on any shaper, hand-made ones too.
use Rattle.std.specs.Prelude.{ℕ, ◌≡◌, Bool, true, false, cond, List, [], ◌∷◌, ◌++◌, map, eqb, get_or, Some, None}
use Rattle.std.specs.List.{list_any}
use Rattle.std.proofs.Math.Option.{some}
use Rattle.column.specs.declared.Column.{Column}
use Rattle.column.specs.Found.{Found}
use Rattle.render.specs.declared.render.Ancestor.{Ancestor as Entry}
use Rattle.render.specs.declared.render.LinkLine.{LinkLine}
use Rattle.render.specs.declared.types.Cell.{Cell}
use Rattle.render.specs.declared.types.RowShape.{RowShape}
use Rattle.render.specs.Entries.{entry_id, is_anonymous}
use Rattle.render.specs.Link.{no_marks}
use Rattle.render.specs.Lines.{cells_of}
use Rattle.placing.specs.Placing.{Placed, column_of_parent, enter}
use Rattle.history.specs.Demand3.{Holds}
use Rattle.no_gap.specs.NoGap.{NoGap, Unlinked, count_of, is_set}

-- ---- where the entries go

-- the column that each entry merges into, in order: "a held id merges into its column; any other entry merges into `find_empty` of the node's column, else takes a new last column" (01)
abbrev pub merged_into : ℕ → List Entry → List Column → List ℕ
merged_into c [] cs = []
merged_into c (e ∷ es) cs = column_of_parent c e cs ∷ merged_into c es (enter c e cs)

-- the entries' columns, "(the node's after a swap)"
abbrev pub swapped_to : Found → ℕ → List ℕ → List ℕ
swapped_to None c ps = ps
swapped_to (Some p) c ps = map (λ (q : ℕ). c) ps

-- the column of each entry of a row that was placed so, in order
abbrev pub entry_columns : Placed → List Entry → List ℕ
entry_columns p es = swapped_to p.up p.column (merged_into p.column es p.bare)

-- those of the Anonymous ones among entries with these columns
abbrev pub anonymous_in : List Entry → List ℕ → List ℕ
anonymous_in [] ps = []
anonymous_in (e ∷ es) [] = []
anonymous_in (e ∷ es) (p ∷ ps) = cond (is_anonymous e) (p ∷ anonymous_in es ps) (anonymous_in es ps)

-- "the column given up in a swap", if there is one
abbrev pub given_up : Found → List ℕ
given_up None = []
given_up (Some p) = p ∷ []

-- "its entries' columns, an Anonymous one's and the column given up in a swap included"
abbrev pub reached_columns : Placed → List Entry → List ℕ
reached_columns p es = entry_columns p es ++ given_up p.up

-- whether a column is one of a list
abbrev pub is_in : ℕ → List ℕ → Bool
is_in t ts = list_any (eqb t) ts

-- a column is one of a list
abbrev pub In : List ℕ → ℕ → Type 0
In ts t = is_in t ts ≡ true

-- ---- one row

-- "the marks that come from the node" (`link_line_from_node` in types.rs), of each cell of a shape
abbrev pub marks_from_node : RowShape → List LinkLine
marks_from_node g = map (λ (c : Cell). c.link_from_node) (cells_of g)

-- the term cells of a shape (`term_line` in types.rs)
abbrev pub term_cells : RowShape → List Bool
term_cells g = map (λ (c : Cell). c.term) (cells_of g)

-- "a named parent waits right after the row in its entry's column": each entry has a column, and its id, if it has one, is in that
abbrev pub WaitIn : List Column → List Entry → List ℕ → Type 0
WaitIn cs [] [] = Unit {0}
WaitIn cs [] (p ∷ ps) = ⊥
WaitIn cs (e ∷ es) [] = ⊥
WaitIn cs (e ∷ es) (p ∷ ps) = ((x : ℕ) → entry_id e ≡ some x → Holds cs p x) × WaitIn cs es ps

-- what holds of a row with these entries, placed so, with this shape, that leaves these columns
pub record RowLed (p : Placed) (es : List Entry) (g : RowShape) (cs : List Column) : Type 0 where
  pub whole : NoGap (λ i. get_or (marks_from_node g) i no_marks) g.node_column (In (reached_columns p es))
  pub unlinked : g.link_line ≡ false → Unlinked (λ i. get_or (marks_from_node g) i no_marks) g.node_column (In (reached_columns p es))
  -- the Anonymous entries' columns are the term cells, one for each
  pub terms : (i : ℕ) → get_or (term_cells g) i false ≡ is_in i (anonymous_in es (entry_columns p es))
  pub count : count_of is_set (term_cells g) ≡ count_of is_anonymous es
  pub waits : WaitIn cs es (entry_columns p es)
