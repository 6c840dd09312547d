-- What a list of calls leaves of any machine, and what follows of one that keeps every line.
use Rattle.std.specs.Prelude.{ℕ, suc, ◌≤◌, ◌≡◌, ◌≢◌, Bool, true, List, [], ◌∷◌, length}
use Rattle.column.specs.Columns.{origin_at}
use Rattle.history.specs.Account.{Named}
use Rattle.history.specs.Demand3.{Other, cell, Machine, Clause, Moving, origins_after, draws}

module _ (M : Machine) where
  -- the state in which a list of calls leaves a machine
  abbrev pub leaves : M.State → List M.Item → M.State
  leaves s [] = s
  leaves s (k ∷ ks) = leaves (M.after s k) ks

  -- which of the calls a machine refuses
  abbrev pub verdicts : M.State → List M.Item → List Bool
  verdicts s [] = []
  verdicts s (k ∷ ks) = M.refuses s k ∷ verdicts (M.after s k) ks

  -- "Two such lines are equal if each cell is of the same kind in both: solid, dashed or blank.": so are the cells of an accepted row's head line
  abbrev pub HeadKinds : Clause M
  HeadKinds s w a k = draws M s k ≡ true → (i : ℕ) → cell (M.head s k) i ≢ Other

  -- "The id's move to another column carries it along." (02, R-3): whether it moves or stays, an id that waits as named carries what it did
  abbrev pub Carried : Clause M
  Carried s w a k = Moving M (λ x i j. Named (w x) → origin_at (origins_after M s k) j ≡ origin_at (M.origins s) i) s w a k

  -- an accepted row's node is at most one past the count of columns: "an Empty placeholder is added first"
  abbrev pub NodeNear : Clause M
  NodeNear s w a k = draws M s k ≡ true → M.node s k ≤ suc (length (M.columns s))
