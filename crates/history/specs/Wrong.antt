-- Machines that demand 3 must rule out: ours with one thing wrong. Each breaks the clause named with it; where one is named, no other fails at the first call at
-- which anything does. They run in `oracle/demand3`, `far_from_own` as `far_from_own`. Where columns, the node's column or lines are wrong, each
-- column carries what the true machine does for its id, and the query is the true machine's.
use Rattle.std.specs.Prelude.{ℕ, ◌+◌, ◌-◌, cond, ◌&&◌, List, [], ◌∷◌, ◌++◌, map, reverse, eqb, ltb, length, Some, None}
use Rattle.std.proofs.Math.Option.{Option, none, some}
use Rattle.slices.specs.Lists.{put_with}
use Rattle.column.specs.declared.Column.{Column}
use Rattle.column.specs.declared.Column.TheVariants.{Empty, Blocked, Reserved, Ancestor, Parent}
use Rattle.column.specs.declared.Started.{Started}
use Rattle.column.specs.declared.Started.TheVariants.{NotWaiting, Unnamed, By}
use Rattle.column.specs.Found.{Found}
use Rattle.column.specs.Columns.{id_of, is_empty, first, find, unblock, trim, reset, at, put, origin_at}
use Rattle.render.specs.declared.render.Ancestor.{Ancestor as Entry}
use Rattle.shaper.specs.Shaper.{View, is_nothing, with_columns, origin}
use Rattle.placing.specs.Placing.{solid_once, Placed, place}
use Rattle.cells.specs.Cells.{cells_from}
use Rattle.glyphs.specs.declared.Renderer.TheVariants.{Curved}
use Rattle.history.specs.Account.{Call, Reserve, Row, is_drawn, nobody, named}
use Rattle.history.specs.Demand3.{Stroke, Blank, Dashed, Solid, Other, cell, over_node, Machine, nothing_above, Clause, Each}
use Rattle.history.specs.Ours.{Item, Plain, Text, refuses_call, after_call, after, shape_of, head_line, foot_line, leaving}

-- a clause fails of a machine on a list of calls, from the state s on
abbrev pub Fails : (M : Machine) → Clause M → M.State → List M.Item → Type 0
Fails M P s ks = Each M P s nobody nothing_above ks → ⊥

-- `fresh`: a shaper that holds an id from the start
abbrev pub stale : View → View
stale v = with_columns v (Parent 77 ∷ []) v.origins

-- ---- ours in parts, with lists of reserving and row calls alone

-- the columns after a call
abbrev pub true_columns : View → Call → List Column
true_columns v k = (after_call v k).columns

-- the node's column of a row
abbrev pub true_node : View → Call → ℕ
true_node v k = (shape_of v k).node_column

-- the head line of a row
abbrev pub true_head : View → Call → List Stroke
true_head v k = head_line Curved (shape_of v k)

-- the foot line of a row
abbrev pub true_foot : View → Call → List Stroke
true_foot v k = foot_line Curved (shape_of v k)

-- the node that a query gave, else another
abbrev pub node_or : Started → ℕ → ℕ
node_or NotWaiting o = o
node_or Unnamed o = o
node_or (By m) o = m

-- what a column carries whose id carries what it does in the view v
abbrev pub carried_by : View → Option ℕ → ℕ
carried_by v none = 0
carried_by v (some x) = node_or (origin v x) 0

-- ours with other columns after accepted calls, another node's column, another head line and another foot line; the states have the true view too
abbrev pub with_parts : (View → Call → List Column) → (View → Call → ℕ) → (View → Call → List Stroke) → (View → Call → List Stroke) → Machine
with_parts columns node head foot =
    record {
      State = View × View;
      columns = λ s. s.0.columns;
      origins = λ s. map (λ c. carried_by s.1 (id_of c)) s.0.columns;
      query = λ s. origin s.1;
      Item = Call;
      call = λ k. k;
      refuses = λ s k. refuses_call s.0 k;
      after = λ s k. cond (refuses_call s.0 k) s (with_columns (after_call s.0 k) (columns s.0 k) s.0.origins, after_call s.1 k);
      node = λ s k. node s.0 k;
      head = λ s k. head s.0 k;
      foot = λ s k. foot s.0 k;
    }

-- the columns alone
abbrev pub with_columns_after : (View → Call → List Column) → Machine
with_columns_after columns = with_parts columns true_node true_head true_foot

-- the head line alone
abbrev pub with_head : (View → Call → List Stroke) → Machine
with_head head = with_parts true_columns true_node head true_foot

-- the foot line alone
abbrev pub with_foot : (View → Call → List Stroke) → Machine
with_foot foot = with_parts true_columns true_node true_head foot

-- a column's stroke
abbrev pub column_stroke : Column → Stroke
column_stroke Empty = Blank
column_stroke Blocked = Blank
column_stroke (Reserved n) = Blank
column_stroke (Ancestor n) = Dashed
column_stroke (Parent n) = Solid

-- the columns, and the foot line drawn from them
abbrev pub with_columns_drawn : (View → Call → List Column) → Machine
with_columns_drawn columns = with_parts columns true_node true_head (λ v k. map column_stroke (columns v k))

-- other columns after a row
abbrev pub after_rows : (View → ℕ → List Entry → List Column) → View → Call → List Column
after_rows f v (Reserve n) = true_columns v (Reserve n)
after_rows f v (Row n es) = f v n es

-- what is put into the columns only where no column held the id
abbrev pub if_new : Found → List Column → List Column → List Column
if_new (Some i) new old = old
if_new None new old = new

-- other columns after a reservation of an id that no column held
abbrev pub after_reservations : (View → ℕ → List Column) → View → Call → List Column
after_reservations f v (Reserve n) = if_new (find n v.columns) (f v n) v.columns
after_reservations f v (Row n es) = true_columns v (Row n es)

-- "With Once dashes, Ancestor columns turn Parent after the row"
abbrev pub solid_after : View → List Column → List Column
solid_after v cs = solid_once v.style.dash_style cs

-- ---- the ids that wait

-- `held`: a reservation is accepted and nothing stored
abbrev pub forgetting : Machine
forgetting = with_columns_after (after_reservations (λ v n. v.columns))

-- the node's id n in its column c, as reserved, where the columns after the row are Empty there and do not hold it
abbrev pub kept_node : ℕ → ℕ → List Column → List Column
kept_node n c cs = cond (is_nothing (find n cs) && is_empty (at cs c)) (put cs c (Reserved n)) cs

-- `waits`: the node's id is kept after its row
abbrev pub keeping : Machine
keeping = with_columns_after (after_rows (λ v n es. kept_node n (true_node v (Row n es)) (true_columns v (Row n es))))

-- `one`: a reserved id is held twice
abbrev pub doubling : Machine
doubling = with_columns_after (after_reservations (λ v n. true_columns v (Reserve n) ++ (Reserved n ∷ [])))

-- ---- the columns after a call

-- `unblocked`: a Blocked column is left
abbrev pub blocking : Machine
blocking = with_columns_after (after_rows (λ v n es. trim (solid_after v (place v n es).settled)))

-- `full`: an Empty last column is left
abbrev pub untrimmed : Machine
untrimmed = with_columns_after (after_rows (λ v n es. map unblock (solid_after v (place v n es).settled)))

-- ---- the ids that move

-- `changes`: a reservation puts the columns into reverse order
abbrev pub reversing : Machine
reversing = with_columns_after (after_reservations (λ v n. trim (reverse (true_columns v (Reserve n)))))

-- the columns of a row before its end, the id that swapped in a new last one
abbrev pub pulled_behind : Placed → Found → List Column
pulled_behind p None = p.settled
pulled_behind p (Some i) = put (put p.settled p.column Empty) (length p.settled) (at p.settled p.column)

-- `to`: the id of a single entry to the right goes to a new last column
abbrev pub pulling : Machine
pulling = with_columns_drawn (after_rows (λ v n es. reset (solid_after v (pulled_behind (place v n es) (place v n es).up))))

-- the columns after a row that does not swap
abbrev pub unswapped : View → Call → List Column
unswapped = after_rows (λ v n es. reset (solid_after v (place v n es).walked))

-- `changes` and `to`: the id of a single entry to the right stays where it is
abbrev pub unswapping : Machine
unswapping = with_columns_drawn unswapped

-- ---- the node's column

-- ours with another column reported for some rows, by the lookup of the id and the true column; those rows do not swap, and the lines are drawn for that column
abbrev pub misplacing : (View → Found → ℕ → ℕ) → Machine
misplacing f = with_parts columns node head (λ v k. map column_stroke (columns v k))
  where
    node : View → Call → ℕ
    node v (Reserve n) = 0
    node v (Row n es) = f v (find n v.columns) (true_node v (Row n es))

    columns : View → Call → List Column
    columns v k = cond (eqb (node v k) (true_node v k)) (true_columns v k) (unswapped v k)

    head : View → Call → List Stroke
    head v k = cells_from (λ i. over_node (node v k) i (cell (map column_stroke v.columns) i)) 0 (length v.columns)

-- a column far to the right
abbrev pub far : View → ℕ
far v = length v.columns + 7

-- that column where the id is held
abbrev pub far_if_held : View → Found → ℕ → ℕ
far_if_held v (Some i) c = far v
far_if_held v None c = c

-- `own`: a node whose id waits is reported far to the right
abbrev pub far_from_own : Machine
far_from_own = misplacing far_if_held

-- the last column where the id is not held and no column is Empty
abbrev pub last_if_full : View → Found → ℕ → ℕ
last_if_full v (Some i) c = c
last_if_full v None c = cond (is_nothing (first is_empty v.columns) && ltb 0 (length v.columns)) (length v.columns - 1) c

-- `empty`: a node that no column holds, where none is Empty, is reported in the last column
abbrev pub on_another : Machine
on_another = misplacing last_if_full

-- the column far to the right where the id is not held
abbrev pub far_if_new : View → Found → ℕ → ℕ
far_if_new v (Some i) c = c
far_if_new v None c = far v

-- `first`: a node that no column holds is reported far to the right
abbrev pub far_right : Machine
far_right = misplacing far_if_new

-- ---- the lines

-- the foot line of the first row alone
abbrev pub first_foot : View → Call → List Stroke
first_foot v k = cond (is_nothing v.previous) (true_foot v k) []

-- `strokes`: foot lines after the first are blank
abbrev pub blank_feet : Machine
blank_feet = with_foot first_foot

-- a stroke for a reserved id too
abbrev pub held_stroke : Column → Stroke
held_stroke Empty = Blank
held_stroke Blocked = Blank
held_stroke (Reserved n) = Solid
held_stroke (Ancestor n) = Dashed
held_stroke (Parent n) = Solid

-- `strokes`: a foot line draws reserved ids
abbrev pub reserved_drawn : Machine
reserved_drawn = with_foot (λ v k. map held_stroke (true_columns v k))

-- another glyph for a blank
abbrev pub garbled : Stroke → Stroke
garbled Blank = Other
garbled Dashed = Dashed
garbled Solid = Solid
garbled Other = Other

-- the foot line with another glyph in every blank cell
abbrev pub garbled_foot : View → Call → List Stroke
garbled_foot v k = map garbled (true_foot v k)

-- `kinds`: every blank cell of a foot line is another glyph, and the next head line repeats it; the states have the foot line of the accepted row before
abbrev pub garbling : Machine
garbling =
    record {
      State = View × List Stroke;
      columns = λ s. s.0.columns;
      origins = λ s. s.0.origins;
      query = λ s. origin s.0;
      Item = Call;
      call = λ k. k;
      refuses = λ s k. refuses_call s.0 k;
      after = λ s k. (after_call s.0 k, cond (is_drawn k (refuses_call s.0 k)) (garbled_foot s.0 k) s.1);
      node = λ s k. true_node s.0 k;
      head = λ s k. cells_from (λ i. over_node (true_node s.0 k) i (cell s.1 i)) 0 (length s.1);
      foot = λ s k. garbled_foot s.0 k;
    }

-- `meets`: every head line is blank
abbrev pub blank_heads : Machine
blank_heads = with_head (λ v k. [])

-- `meets`: a dashed stroke over the node stays dashed
abbrev pub dashed_over_node : Machine
dashed_over_node = with_head (λ v k. map column_stroke v.columns)

-- ---- who started a line (02, R-3)

-- ours with other origins after accepted rows, showing what the columns carry, and with another query
abbrev pub with_origins : (View → ℕ → List Entry → List ℕ) → (View → List ℕ) → (View → ℕ → Started) → Machine
with_origins left shown query =
    record {
      State = View;
      columns = λ v. v.columns;
      origins = shown;
      query = query;
      Item = Call;
      call = λ k. k;
      refuses = refuses_call;
      after = λ v k. cond (refuses_call v k) v (with_columns (after_call v k) (true_columns v k) (origins_left left v k));
      node = true_node;
      head = true_head;
      foot = true_foot;
    }
  where
    origins_left : (View → ℕ → List Entry → List ℕ) → View → Call → List ℕ
    origins_left f v (Reserve n) = (after_call v (Reserve n)).origins
    origins_left f v (Row n es) = f v n es

-- what a query by id gives, and what the columns carry, as they are
abbrev pub with_origins_after : (View → ℕ → List Entry → List ℕ) → Machine
with_origins_after left = with_origins left (λ v. v.origins) origin

-- what the columns after a row carry, but another node for some ids, by the id and the node that it has
abbrev pub origins_by : (ℕ → ℕ → ℕ) → View → List ℕ
origins_by f v = cells_from (λ i. at_id (id_of (at v.columns i)) (origin_at v.origins i)) 0 (length v.columns)
  where
    at_id : Option ℕ → ℕ → ℕ
    at_id none o = o
    at_id (some x) o = f x o

-- `waits` and `answers`: the latest row that names an id counts as its first
abbrev pub latest_namer : Machine
latest_namer = with_origins_after (λ v n es. origins_by (λ x o. cond (named x es) n o) (after_call v (Row n es)))

-- `waits` and `answers`: an id named in its own row keeps the node from before that row (as run, one named after it does, too)
abbrev pub kept_over_own_row : Machine
kept_over_own_row = with_origins_after (λ v n es. origins_by (λ x o. cond (eqb x n) (node_or (origin v n) o) o) (after_call v (Row n es)))

-- what the columns carry after a row, but that in a swap the node's column c keeps what it carried
abbrev pub kept_in_swap : Found → ℕ → List ℕ → List ℕ → List ℕ
kept_in_swap None c os after = after
kept_in_swap (Some p) c os after = put_with 0 after c (origin_at os c)

-- `waits` and `answers`: in a swap the id leaves its origin behind
abbrev pub left_behind : Machine
left_behind = with_origins_after (λ v n es. kept_in_swap (place v n es).up (place v n es).column v.origins (after_call v (Row n es)).origins)

-- who started a line, but nobody where the id started it itself
abbrev pub unless_itself : ℕ → Started → Started
unless_itself x NotWaiting = NotWaiting
unless_itself x Unnamed = Unnamed
unless_itself x (By m) = cond (eqb x m) Unnamed (By m)

-- `answers`: a query for an id that its own row named first gives none
abbrev pub unnamed_by_itself : Machine
unnamed_by_itself = with_origins (λ v n es. (after_call v (Row n es)).origins) (λ v. v.origins) (λ v x. unless_itself x (origin v x))

-- `waits`: the columns carry no node
abbrev pub unkept : Machine
unkept = with_origins (λ v n es. (after_call v (Row n es)).origins) (λ v. []) origin

-- ---- document 01's own, and a text call that counts for nothing

-- `held` and others: "a row that leaves the columns untouched"
abbrev pub untouched : Machine
untouched = with_columns_after (after_rows (λ v n es. v.columns))

-- `strokes` and `meets`: "a first row drawn truly, then blanks"
abbrev pub blank_later : Machine
blank_later = with_parts true_columns true_node (λ v k. cond (is_nothing v.previous) (true_head v k) []) first_foot

-- the view after a call, but that a text call leaves the columns as they were
abbrev pub after_unless_text : View → Item → View
after_unless_text v (Plain k) = after_call v k
after_unless_text v (Text a n es) = with_columns (after v (Text a n es)) v.columns v.origins

-- `held` and others: an accepted text call leaves the columns as they were
abbrev pub text_ignored : Machine
text_ignored = leaving after_unless_text Curved
