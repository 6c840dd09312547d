-- Demand 3: a drawn history keeps every line. One statement about a whole list of calls on one shaper, refused ones included, over an arbitrary machine.
use Rattle.std.specs.Prelude.{ℕ, suc, ◌<◌, ◌≡◌, ◌≢◌, ◌↔◌, Bool, true, false, cond, List, [], ◌∷◌, eqb, length, get_or, Some, None}
use Rattle.std.proofs.Math.Option.{some}
use Rattle.column.specs.declared.Column.{Column}
use Rattle.column.specs.declared.Column.TheVariants.{Empty, Blocked, Reserved, Ancestor, Parent}
use Rattle.column.specs.declared.Started.{Started}
use Rattle.column.specs.Found.{Found}
use Rattle.column.specs.Columns.{at, id_of, origin_at}
use Rattle.render.specs.declared.render.Ancestor.{Ancestor as Entry}
use Rattle.render.specs.Entries.{entry_id}
use Rattle.history.specs.Account.{Call, Reserve, Row, Wait, Idle, AsReserved, AsNamed, Waiting, call_id, is_drawn, nobody, account, Named, answer_of}

-- a cell of a head line or foot line: "solid, dashed or blank", or a glyph that is none of these
pub data Stroke : Type 0 where
  Blank : Stroke
  Dashed : Stroke
  Solid : Stroke
  Other : Stroke

-- a machine: its states, their columns, what these carry and whom a query by id gives (02, R-3); the items of its lists, and the call as which an item counts ("A text call .. counts there as the row call with
-- its node and entries"); whether it refuses an item, the state after it; and of an accepted row the node's column and the "head line" and "foot line" that are drawn
pub record Machine : Type 1 where
  pub State : Type 0
  pub columns : State → List Column
  pub origins : State → List ℕ
  pub query : State → ℕ → Started
  pub Item : Type 0
  pub call : Item → Call
  pub refuses : State → Item → Bool
  pub after : State → Item → State
  pub node : State → Item → ℕ
  pub head : State → Item → List Stroke
  pub foot : State → Item → List Stroke

-- column i holds the id x
abbrev pub Holds : List Column → ℕ → ℕ → Type 0
Holds cs i x = id_of (at cs i) ≡ some x

-- how the id waits that a column holds, and that carries o: "carries the node .., or a mark for none if only reserved" (02, R-3)
abbrev pub wait_of : Column → ℕ → Wait
wait_of Empty o = Idle
wait_of Blocked o = Idle
wait_of (Reserved n) o = AsReserved
wait_of (Ancestor n) o = AsNamed o
wait_of (Parent n) o = AsNamed o

-- "with that id as its one parent entry"
abbrev pub OneEntry : ℕ → List Entry → Type 0
OneEntry x [] = ⊥
OneEntry x (e ∷ []) = entry_id e ≡ some x
OneEntry x (e ∷ f ∷ es) = ⊥

-- a line's cell i, "missing cells being blank"
abbrev pub cell : List Stroke → ℕ → Stroke
cell l i = get_or l i Blank

-- a cell that has a stroke
abbrev pub is_stroke : Stroke → Type 0
is_stroke Blank = ⊥
is_stroke Dashed = Unit {0}
is_stroke Solid = Unit {0}
is_stroke Other = ⊥

-- "except that a dashed stroke over the node becomes solid"
abbrev pub solid : Stroke → Stroke
solid Blank = Blank
solid Dashed = Solid
solid Solid = Solid
solid Other = Other

-- a stroke over the node: "a dashed stroke over the node becomes solid"
abbrev pub over_node : ℕ → ℕ → Stroke → Stroke
over_node c i x = cond (eqb i c) (solid x) x

-- "the call is an accepted row with that id as its one parent entry and the id waited to the right of the node": x in column i, the node in column c
abbrev pub Pulls : Call → Bool → ℕ → ℕ → ℕ → Type 0
Pulls (Reserve n) refused x i c = ⊥
Pulls (Row n es) refused x i c = (refused ≡ false) × OneEntry x es × (c < i)

-- what the accepted row before leaves to the next one: its foot line, and its node's column
pub record Above : Type 0 where
  pub foot : List Stroke
  pub node : Found

-- the line above the first row counts as blank
abbrev pub nothing_above : Above
nothing_above = record { foot = []; node = None }

module _ (M : Machine) where
  -- the columns after a call
  abbrev pub columns_after : M.State → M.Item → List Column
  columns_after s k = M.columns (M.after s k)

  -- what they carry
  abbrev pub origins_after : M.State → M.Item → List ℕ
  origins_after s k = M.origins (M.after s k)

  -- the account of the ids that wait, fed the call as which the item counts and whether the item was refused
  abbrev pub waiting_after : M.State → M.Item → Waiting → Waiting
  waiting_after s k w = account (M.call k) (M.refuses s k) w

  -- whether a call is an accepted row
  abbrev pub draws : M.State → M.Item → Bool
  draws s k = is_drawn (M.call k) (M.refuses s k)

  -- what the accepted row before left, a, stays where nothing is drawn
  abbrev pub above_after : M.State → M.Item → Above → Above
  above_after s k a = cond (draws s k) (record { foot = M.foot s k; node = Some (M.node s k) }) a

  -- a clause: what is claimed of the call k in the state s, where w are the ids that wait before it and a is what the accepted row before left
  abbrev pub Clause : Type 1
  Clause = M.State → Waiting → Above → M.Item → Type 0

  -- "the ids in the columns are exactly those that wait by document 01's account": each that waits is in a column,
  abbrev pub Held : Clause
  Held s w a k = (x : ℕ) → waiting_after s k w x ≢ Idle → (i : ℕ) × Holds (columns_after s k) i x

  -- and each in a column waits, as the column and what it carries say,
  abbrev pub Waits : Clause
  Waits s w a k = (i x : ℕ) → Holds (columns_after s k) i x → waiting_after s k w x ≡ wait_of (at (columns_after s k) i) (origin_at (origins_after s k) i)

  -- "one column each"
  abbrev pub One : Clause
  One s w a k = (i j x : ℕ) → Holds (columns_after s k) i x → Holds (columns_after s k) j x → i ≡ j

  -- "A query by id gives that node, none, or not waiting.", as "The history account of waiting ids" says (02, R-3)
  abbrev pub Answers : Clause
  Answers s w a k = (x : ℕ) → M.query (M.after s k) x ≡ answer_of (waiting_after s k w x)

  -- "no column is blocked"
  abbrev pub Unblocked : Clause
  Unblocked s w a k = (i : ℕ) → at (columns_after s k) i ≢ Blocked

  -- "and the last, if any, isn't empty"
  abbrev pub Full : Clause
  Full s w a k = (n : ℕ) → suc n ≡ length (columns_after s k) → at (columns_after s k) n ≢ Empty

  -- "An id waiting before and after a call, other than an accepted row's own node": x, in column i before the call and in column j after it
  abbrev pub Moving : (ℕ → ℕ → ℕ → Type 0) → Clause
  Moving R s w a k = (x i j : ℕ) → w x ≢ Idle → waiting_after s k w x ≢ Idle → Holds (M.columns s) i x → Holds (columns_after s k) j x
      → (draws s k ≡ true → x ≢ call_id (M.call k)) → R x i j

  -- "changes column exactly when the call is an accepted row with that id as its one parent entry and the id waited to the right of the node";
  abbrev pub Changes : Clause
  Changes s w a k = Moving (λ x i j. j ≢ i ↔ Pulls (M.call k) (M.refuses s k) x i (M.node s k)) s w a k

  -- "it moves to the node's column"
  abbrev pub To : Clause
  To s w a k = Moving (λ x i j. Pulls (M.call k) (M.refuses s k) x i (M.node s k) → j ≡ M.node s k) s w a k

  -- "The node takes its id's column;"
  abbrev pub OwnColumn : Clause
  OwnColumn s w a k = draws s k ≡ true → w (call_id (M.call k)) ≢ Idle → Holds (M.columns s) (M.node s k) (call_id (M.call k))

  -- "without one, the first Empty, else a new last column.": it was Empty, or past the last one,
  abbrev pub EmptyColumn : Clause
  EmptyColumn s w a k = draws s k ≡ true → w (call_id (M.call k)) ≡ Idle → at (M.columns s) (M.node s k) ≡ Empty

  -- "the first": none left of it was Empty, but that "the previous node's column is then skipped" by staggering
  abbrev pub FirstColumn : Clause
  FirstColumn s w a k = draws s k ≡ true → w (call_id (M.call k)) ≡ Idle → (i : ℕ) → i < M.node s k → at (M.columns s) i ≡ Empty → a.node ≡ Some i

  -- an accepted row's foot line "has a stroke exactly in the columns of the ids that wait as named right after that row",
  abbrev pub Strokes : Clause
  Strokes s w a k = draws s k ≡ true → (i : ℕ) → is_stroke (cell (M.foot s k) i) ↔ ((x : ℕ) × Holds (columns_after s k) i x × Named (waiting_after s k w x))

  -- its cells are "solid, dashed or blank",
  abbrev pub Kinds : Clause
  Kinds s w a k = draws s k ≡ true → (i : ℕ) → cell (M.foot s k) i ≢ Other

  -- and it "equals the next accepted row's head line", "missing cells being blank", "except that a dashed stroke over the node becomes solid"
  abbrev pub Meets : Clause
  Meets s w a k = draws s k ≡ true → (i : ℕ) → cell (M.head s k) i ≡ over_node (M.node s k) i (cell a.foot i)

  -- what holds of a call
  pub record Kept (s : M.State) (w : Waiting) (a : Above) (k : M.Item) : Type 0 where
    pub held : Held s w a k
    pub waits : Waits s w a k
    pub one : One s w a k
    pub answers : Answers s w a k
    pub unblocked : Unblocked s w a k
    pub full : Full s w a k
    pub changes : Changes s w a k
    pub to : To s w a k
    pub own : OwnColumn s w a k
    pub empty : EmptyColumn s w a k
    pub first : FirstColumn s w a k
    pub strokes : Strokes s w a k
    pub kinds : Kinds s w a k
    pub meets : Meets s w a k

  -- a clause of each call of a list, "Each call .. gets the shaper as the call before left it"
  abbrev pub Each : Clause → M.State → Waiting → Above → List M.Item → Type 0
  Each P s w a [] = Unit {0}
  Each P s w a (k ∷ ks) = P s w a k × Each P (M.after s k) (waiting_after s k w) (above_after s k a) ks

  -- demand 3 from the state s on
  pub record KeepsEveryLine (s : M.State) (ks : List M.Item) : Type 0 where
    -- "At first no id waits.": there are no columns
    pub fresh : M.columns s ≡ []
    -- "after each call"; the line above the first row counts as blank
    pub calls : Each Kept s nobody nothing_above ks
