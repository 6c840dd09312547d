-- What R-9 looks at in our calls: the marks, the link line and the term cells of the shape that a row call gives, by the definitions and as the lent calls gave it; and that the columns which
-- R-9 reads off the calls of a list are the definition's own.
use Rattle.std.specs.Prelude.{ℕ, ◌≡◌, ◌↔◌, true, List}
use Rattle.render.specs.declared.types.RowShape.{RowShape}
use Rattle.shaper.specs.Shaper.{View}
use Rattle.glyphs.specs.declared.Renderer.{Renderer}
use Rattle.placing.specs.Placing.{place}
use Rattle.history.specs.Account.{Call, call_id}
use Rattle.history.specs.Demand3.{Machine, Clause, draws}
use Rattle.history.specs.Ours.{call_of, item_shape, ours}
use Rattle.history.specs.LentCalls.{lent_shape, lent}
use Rattle.no_gap.specs.NoGap.{Links, entries_of, Reached}
use Rattle.no_gap.specs.EntryColumns.{reached_columns, In, marks_from_node, term_cells}

-- of a machine whose rows have these shapes
abbrev pub links_by : (M : Machine) → (M.State → M.Item → RowShape) → Links M
links_by M shape_at = record { marks = λ s k. marks_from_node (shape_at s k); linked = λ s k. (shape_at s k).link_line; terms = λ s k. term_cells (shape_at s k) }

-- of our machine
abbrev pub our_links : (q : Renderer) → Links (ours q)
our_links q = links_by (ours q) item_shape

-- of lent calls that have run
abbrev pub lent_links : (q : Renderer) → Links (lent q)
lent_links q = links_by (lent q) lent_shape

-- the definition's own columns of a row: its entries', and the one given up
abbrev pub own_columns : View → Call → List ℕ
own_columns v k = reached_columns (place v (call_id k) (entries_of k)) (entries_of k)

-- the columns that are reached, by where ids wait and by the term cells, are the definition's own
abbrev pub ReachedOwn : (q : Renderer) → Clause (ours q)
ReachedOwn q v w a k = draws (ours q) v k ≡ true → (t : ℕ) → Reached (ours q) (our_links q) v k t ↔ In (own_columns v (call_of k)) t
