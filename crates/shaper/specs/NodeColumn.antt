-- The node's column (01, "How a row finds its columns"; `find_column_for_unallocated_node` and `next_row_shape` in graph_to_row_shape.rs).
use Rattle.std.specs.Prelude.{ℕ, suc, Bool, true, cond, ◌&&◌, ◌≡◌, List, [], ◌∷◌, ltb, leb, eqb, length, set, Some, None, unwrap_or}
use Rattle.column.specs.declared.Column.{Column}
use Rattle.column.specs.declared.Column.TheVariants.{Blocked}
use Rattle.column.specs.Found.{Found}
use Rattle.column.specs.Columns.{column_limit, is_empty, is_reserved, first, find, vacant, at}
use Rattle.render.specs.Refusals.{not_refused, node_line_too_wide, ◌when◌, refusal}
use Rattle.shaper.specs.Shaper.{View}

-- "Staggering counts only with `min_row_height` at most 1"
abbrev pub dense : View → Bool
dense v = v.stagger && leb v.height 1

-- "the previous node's column is then skipped, and if nothing else is Empty and that column equals the column count, an Empty placeholder is added first"
abbrev pub staggered : Found → List Column → ℕ
staggered None cs = vacant cs
staggered (Some p) cs = unwrap_or (first is_empty (set cs p Blocked)) (cond (eqb p (length cs)) (suc (length cs)) (length cs))

-- the column of an id that no column holds (`find_column_for_unallocated_node`)
abbrev pub unallocated : View → ℕ
unallocated v = cond (dense v) (staggered v.previous v.columns) (vacant v.columns)

-- "The node takes its id's column; without one, the first Empty, else a new last column."
abbrev pub node_column : View → ℕ → ℕ
node_column v n = unwrap_or (find n v.columns) (unallocated v)

-- "Head: no column held, or a Reserved one.", where h stands in the node's column
abbrev pub head_at : Found → Column → Bool
head_at None h = true
head_at (Some i) h = is_reserved h

-- the same, by the columns before the row
abbrev pub head : Found → List Column → Bool
head f cs = head_at f (at cs (unwrap_or f 0))

-- ---- the lookup's answer

-- the node's column, where the node line has room for it
abbrev pub fitting : ℕ → Found
fitting c = cond (ltb c column_limit) (Some c) None

-- the number of the answer: Nothing is 4, "node line would have more than 64 cells" (01, the table's row for row, text)
abbrev pub lookup_refusal : Found → ℕ
lookup_refusal (Some i) = not_refused
lookup_refusal None = node_line_too_wide

-- what the lookup of the node's column gives
pub record Finds (c : ℕ) (r : Found) : Type 0 where
  pub column : r ≡ fitting c
  pub number : lookup_refusal r ≡ refusal ((node_line_too_wide when leb column_limit c) ∷ [])
