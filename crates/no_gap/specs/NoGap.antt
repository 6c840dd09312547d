-- No gap on the way to a parent (02, R-9): the marks of an accepted row that come from its node, and where a named parent waits. First the marks of one row; then one
-- statement about a whole list of calls, refused ones included, over an arbitrary machine whose rows have marks and term cells.
use Rattle.std.specs.Prelude.{ℕ, ◌+◌, ◌<◌, ◌≡◌, ◌↔◌, ◌⊎◌, Bool, true, false, cond, List, [], ◌∷◌, get_or}
use Rattle.column.specs.declared.Column.{Column}
use Rattle.render.specs.declared.render.Ancestor.{Ancestor as Entry}
use Rattle.render.specs.declared.render.LinkLine.{LinkLine}
use Rattle.render.specs.Entries.{is_anonymous}
use Rattle.render.specs.Link.{meets, no_marks}
use Rattle.glyphs.specs.Marks.{horizontal, left_fork_parent, left_fork_ancestor, left_merge_parent, left_merge_ancestor, right_fork_parent, right_fork_ancestor, right_merge_parent, right_merge_ancestor}
use Rattle.history.specs.Account.{Call, Reserve, Row, call_id, named}
use Rattle.history.specs.Demand3.{Machine, Holds, Pulls, draws, columns_after}

-- ---- the marks of one row

-- the forks and merges that face left
abbrev pub facing_left : List LinkLine
facing_left = left_fork_parent ∷ left_fork_ancestor ∷ left_merge_parent ∷ left_merge_ancestor ∷ []

-- the forks and merges that face right
abbrev pub facing_right : List LinkLine
facing_right = right_fork_parent ∷ right_fork_ancestor ∷ right_merge_parent ∷ right_merge_ancestor ∷ []

-- how many of a list pass a test
abbrev pub count_of {ℓ} : {A : Type ℓ} → (A → Bool) → List A → ℕ
count_of t [] = 0
count_of t (a ∷ l) = cond (t a) 1 0 + count_of t l

-- how many of some marks a cell has
abbrev pub marks_in : LinkLine → List LinkLine → ℕ
marks_in m = count_of (meets m)

-- cell i "lies strictly between the node and" column t, where the node's is c
abbrev pub Between : ℕ → ℕ → ℕ → Type 0
Between c i t = ((c < i) × (i < t)) ⊎ ((t < i) × (i < c))

-- a link leads from the node in column c to each column that is reached; i is one of its two ends, and j the other
abbrev pub Ends : ℕ → (ℕ → Type 0) → ℕ → ℕ → Type 0
Ends c Reached i j = (Reached i × (j ≡ c)) ⊎ ((i ≡ c) × Reached j)

-- what holds of "the marks that come from the node", which stands in column c, where the columns that are reached are "its entries' columns, an Anonymous one's and the column given
-- up in a swap included"
pub record NoGap (marks : ℕ → LinkLine) (c : ℕ) (Reached : ℕ → Type 0) : Type 0 where
  -- "a cell is HORIZONTAL exactly if it lies strictly between the node and one of its entries' columns"
  pub across : (i : ℕ) → meets (marks i) horizontal ≡ true ↔ ((t : ℕ) × Reached t × Between c i t)
  -- "For each such column other than the node's own, its cell has a fork or merge facing the node, and the node's cell has one facing that side": exactly one
  pub left : (i j : ℕ) → Ends c Reached i j → j < i → marks_in (marks i) facing_left ≡ 1
  pub right : (i j : ℕ) → Ends c Reached i j → i < j → marks_in (marks i) facing_right ≡ 1
  -- "no cell has a fork or merge beyond these"
  pub no_left : (i : ℕ) → ((j : ℕ) → Ends c Reached i j → j < i → ⊥) → marks_in (marks i) facing_left ≡ 0
  pub no_right : (i : ℕ) → ((j : ℕ) → Ends c Reached i j → i < j → ⊥) → marks_in (marks i) facing_right ≡ 0

-- a row without a link line has no marks, and no column that is reached lies beside the node's
pub record Unlinked (marks : ℕ → LinkLine) (c : ℕ) (Reached : ℕ → Type 0) : Type 0 where
  pub unmarked : (i : ℕ) → marks i ≡ no_marks
  pub straight : (t : ℕ) → Reached t → t ≡ c

-- ---- a whole list

-- the call's entries; a reserving call has none
abbrev pub entries_of : Call → List Entry
entries_of (Reserve n) = []
entries_of (Row n es) = es

module _ (M : Machine) where
  -- a named entry's column is where its id waits right after the row
  abbrev pub NamedIn : M.State → M.Item → ℕ → Type 0
  NamedIn s k t = (x : ℕ) × (named x (entries_of (M.call k)) ≡ true) × Holds (columns_after M s k) t x

  -- "the column given up in a swap": the one where an id waited before that moves to the node's column (01, demand 3)
  abbrev pub GivenUp : M.State → M.Item → ℕ → Type 0
  GivenUp s k t = (x : ℕ) × Holds (M.columns s) t x × Pulls (M.call k) (M.refuses s k) x t (M.node s k)

  -- whether a call is the "own .. accepted row" of x
  abbrev pub Own : M.State → M.Item → ℕ → Type 0
  Own s k x = (draws M s k ≡ true) × (call_id (M.call k) ≡ x)

  -- "its own next accepted row, if that comes, has its node in the column where it waited until then": of the id x and the calls ks from the state s on, where cs are the columns
  -- in which it waits right before them
  abbrev pub Arrives : ℕ → M.State → List Column → List M.Item → Type 0
  Arrives x s cs [] = Unit {0}
  Arrives x s cs (k ∷ ks) = (Own s k x → Holds cs (M.node s k) x) × ((Own s k x → ⊥) → Arrives x (M.after s k) (columns_after M s k) ks)

  -- "With demand 3": of each id x that an accepted row names, where ks are the calls behind the row
  pub record Followed (s : M.State) (k : M.Item) (ks : List M.Item) (x : ℕ) : Type 0 where
    -- "a named parent waits right after the row in its entry's column (the node's after a swap)"
    pub waits : (t : ℕ) × Holds (columns_after M s k) t x × ((i : ℕ) → Holds (M.columns s) i x → Pulls (M.call k) (M.refuses s k) x i (M.node s k) → t ≡ M.node s k)
    -- "and its own next accepted row, if that comes, has its node in the column where it waited until then"
    pub arrives : Arrives x (M.after s k) (columns_after M s k) ks

  -- of a call
  abbrev pub ParentsFollowed : M.State → M.Item → List M.Item → Type 0
  ParentsFollowed s k ks = draws M s k ≡ true → (x : ℕ) → named x (entries_of (M.call k)) ≡ true → Followed s k ks x

  -- of each call of a list, from the state s on
  abbrev pub AllFollowed : M.State → List M.Item → Type 0
  AllFollowed s [] = Unit {0}
  AllFollowed s (k ∷ ks) = ParentsFollowed s k ks × AllFollowed (M.after s k) ks

-- what R-9 looks at beside a machine's states: of an accepted row the marks that come from the node (`link_line_from_node` in types.rs), whether there is a link line, and the term
-- cells (`term_line` in types.rs)
pub record Links (M : Machine) : Type 0 where
  pub marks : M.State → M.Item → List LinkLine
  pub linked : M.State → M.Item → Bool
  pub terms : M.State → M.Item → List Bool

-- whether a flag is set
abbrev pub is_set : Bool → Bool
is_set b = b

module _ (M : Machine) (L : Links M) where
  -- the marks of cell i; a missing cell has none
  abbrev pub mark_at : M.State → M.Item → ℕ → LinkLine
  mark_at s k i = get_or (L.marks s k) i no_marks

  -- an Anonymous entry's column is a term cell
  abbrev pub TermIn : M.State → M.Item → ℕ → Type 0
  TermIn s k t = get_or (L.terms s k) t false ≡ true

  -- "one of its entries' columns, an Anonymous one's and the column given up in a swap included"
  abbrev pub Reached : M.State → M.Item → ℕ → Type 0
  Reached s k t = NamedIn M s k t ⊎ (TermIn s k t ⊎ GivenUp M s k t)

  -- what holds of a call, where ks are the calls behind it
  pub record Led (s : M.State) (k : M.Item) (ks : List M.Item) : Type 0 where
    pub whole : draws M s k ≡ true → NoGap (mark_at s k) (M.node s k) (Reached s k)
    pub unlinked : draws M s k ≡ true → L.linked s k ≡ false → Unlinked (mark_at s k) (M.node s k) (Reached s k)
    -- there is one term cell for each Anonymous entry
    pub terms : draws M s k ≡ true → count_of is_set (L.terms s k) ≡ count_of is_anonymous (entries_of (M.call k))
    pub parents : ParentsFollowed M s k ks

  -- "Show for every accepted row": R-9 of a list of calls from the state s on
  abbrev pub Leads : M.State → List M.Item → Type 0
  Leads s [] = Unit {0}
  Leads s (k ∷ ks) = Led s k ks × Leads (M.after s k) ks
