-- The row call: the shape that it gives, cell by cell, and the shaper after it.
use Rattle.std.specs.Prelude.{ℕ, zero, suc, ◌-◌, Bool, false, not, ◌&&◌, List, [], ◌∷◌, ◌++◌, ltb, leb, eqb, length, replicate, Some, unwrap_or}
use Rattle.std.specs.List.{list_any}
use Rattle.column.specs.declared.Column.{Column}
use Rattle.column.specs.Found.{Found}
use Rattle.column.specs.Columns.{column_limit, is_parent, find, at, reset}
use Rattle.render.specs.declared.render.Ancestor.{Ancestor as Entry}
use Rattle.render.specs.declared.types.RowShape.{RowShape}
use Rattle.render.specs.Entries.{is_anonymous, is_too_many}
use Rattle.render.specs.Lines.{blank_cell}
use Rattle.links.specs.declared.Drawn.{Drawn}
use Rattle.links.specs.declared.AncestorColumnBounds.{AncestorColumnBounds}
use Rattle.links.specs.declared.Swap.{Swap}
use Rattle.render.specs.Refusals.{too_many_entries, node_line_too_wide, Check, ◌when◌, refusal}
use Rattle.shaper.specs.Shaper.{View, view_after, is_nothing, refused_options}
use Rattle.shaper.specs.NodeColumn.{head}
use Rattle.cells.specs.Cells.{cell_of, cells_from}
use Rattle.placing.specs.Placing.{solid_once, Placed, place, kind_of, draws_at, origin_after}
use Rattle.links.specs.Links.{bounds_of, is_at, linked}

-- "The separator flag: no column held before, height at most 1, no staggering, same column as the previous node, no Anonymous entry."
abbrev pub separator : View → Found → ℕ → Bool → Bool
separator v existing c terms = is_nothing existing && (leb v.height 1 && (not v.stagger && (is_at v.previous c && not terms)))

-- "A shape has one width for all its lines." "Root: no parents. Merge: more than one entry, repeats counted." "Its swap strokes are solid exactly if that column was Parent before this row." Cells past the width are blank.
abbrev pub shape_at : View → ℕ → List Entry → Placed → RowShape
shape_at v n es p =
    let c : ℕ = p.column in
    let w : ℕ = length p.walked in
    let draws : ℕ → Drawn = λ i. kind_of (draws_at p.up c es p.bare i) in
    let r : AncestorColumnBounds = bounds_of (cells_from draws 0 w) c in
    let s : Swap = record { given_up = p.up; was_direct = is_parent (at p.bare (unwrap_or p.up c)) } in
    record {
      node = n;
      merge = ltb 1 (length es);
      separator_line = separator v (find n v.columns) c (list_any is_anonymous es);
      style = v.style;
      is_head = head (find n v.columns) v.columns;
      is_root = eqb (length es) 0;
      node_column = c;
      width = w;
      link_line = linked r s;
      term_line = list_any is_anonymous es;
      cells = cells_from (λ i. cell_of (linked r s) r s i (draws i) (at p.bare i) (at p.settled i)) 0 w ++ replicate (column_limit - w) blank_cell;
    }

-- "a shape without cells (its numbers 0, flags no, optional lines absent, style Persistent and Top)"
abbrev pub no_shape : RowShape
no_shape =
    record {
      node = 0;
      merge = false;
      separator_line = false;
      style = refused_options.graph_row_shape_style;
      is_head = false;
      is_root = false;
      node_column = 0;
      width = 0;
      link_line = false;
      term_line = false;
      cells = replicate column_limit blank_cell;
    }

-- ---- the call

-- what the row call gives: the refusal's number, 0 for none, the shape, and the shaper after it
pub record RowReply : Type 0 where
  pub refusal : ℕ
  pub shape : RowShape
  pub view : View

-- the table's rows for row: 3 "more than 32 entries" (with R-5 of 02 more than 8), 4 "node line would have more than 64 cells"
abbrev pub row_checks : List Entry → Placed → List Check
row_checks es p = (too_many_entries when is_too_many es) ∷ (node_line_too_wide when ltb column_limit (length p.walked)) ∷ []

-- the columns after a row: "`reset` ends every row."
abbrev pub columns_after : View → Placed → List Column
columns_after v p = reset (solid_once v.style.dash_style p.settled)

-- the shaper after a row of the node n: "Every occupied column now also carries the node" (02, R-3)
abbrev pub row_after : View → ℕ → Placed → View
row_after v n p = view_after v (columns_after v p) (cells_from (origin_after n p v.origins) 0 (length (columns_after v p))) (Some p.column)

-- "A refusal gives its number, .. a shape without cells .., and changes no state"
abbrev pub row_answer : ℕ → View → ℕ → List Entry → Placed → RowReply
row_answer zero v n es p = record { refusal = 0; shape = shape_at v n es p; view = row_after v n p }
row_answer (suc k) v n es p = record { refusal = suc k; shape = no_shape; view = v }

-- the row call (`next_row_shape`) on a list of any length
unfoldable pub row : View → ℕ → List Entry → RowReply
row v n es = row_answer (refusal (row_checks es (place v n es))) v n es (place v n es)
