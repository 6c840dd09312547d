-- A machine that gives at each call what another machine gives keeps every line where that one does.
use mathlib.Core.Path.{◌≡◌}
use mathlib.Core.List.{List, [], ◌∷◌}
use Rattle.history.specs.Account.{Waiting}
use Rattle.history.specs.Demand3.{Machine, Above, Kept, Each}

module _ (M N : Machine) where
  -- a call k on the one machine, in the state s, gives what a call l on the other gives, in the state t
  pub record Alike (s : M.State) (t : N.State) (k : M.Item) (l : N.Item) : Type 0 where
    pub columns : M.columns s ≡ N.columns t
    pub call : M.call k ≡ N.call l
    pub verdict : M.refuses s k ≡ N.refuses t l
    pub after : M.columns (M.after s k) ≡ N.columns (N.after t l)
    pub origins : M.origins (M.after s k) ≡ N.origins (N.after t l)
    pub query : M.query (M.after s k) ≡ N.query (N.after t l)
    pub node : M.node s k ≡ N.node t l
    pub head : M.head s k ≡ N.head t l
    pub foot : M.foot s k ≡ N.foot t l

  -- so does each call of a list
  abbrev pub AllAlike : M.State → N.State → List M.Item → List N.Item → Type 0
  AllAlike s t [] [] = Unit {0}
  AllAlike s t [] (l ∷ ls) = ⊥
  AllAlike s t (k ∷ ks) [] = ⊥
  AllAlike s t (k ∷ ks) (l ∷ ls) = Alike s t k l × AllAlike (M.after s k) (N.after t l) ks ls

  kept : (s : M.State) (t : N.State) (k : M.Item) (l : N.Item) (w : Waiting) (a : Above) → Alike s t k l → Kept N t w a l → Kept M s w a k
  kept s t k l w a e K =
      record {
        held = rw (e.after, e.call, e.verdict) K.held;
        waits = rw (e.after, e.origins, e.call, e.verdict) K.waits;
        one = rw e.after K.one;
        answers = rw (e.query, e.call, e.verdict) K.answers;
        unblocked = rw e.after K.unblocked;
        full = rw e.after K.full;
        changes = rw (e.columns, e.after, e.call, e.verdict, e.node) K.changes;
        to = rw (e.columns, e.after, e.call, e.verdict, e.node) K.to;
        own = rw (e.columns, e.call, e.verdict, e.node) K.own;
        empty = rw (e.columns, e.call, e.verdict, e.node) K.empty;
        first = rw (e.columns, e.call, e.verdict, e.node) K.first;
        strokes = rw (e.after, e.call, e.verdict, e.foot) K.strokes;
        kinds = rw (e.call, e.verdict, e.foot) K.kinds;
        meets = rw (e.call, e.verdict, e.node, e.head) K.meets;
      }

  pub alike-keeps : (s : M.State) (t : N.State) (ks : List M.Item) (ls : List N.Item) (w : Waiting) (a : Above)
      → AllAlike s t ks ls → Each N (Kept N) t w a ls → Each M (Kept M) s w a ks
  alike-keeps s t [] [] w a e K = tt
  alike-keeps s t [] (l ∷ ls) w a e K = tt
  alike-keeps s t (k ∷ ks) [] w a e K = absurd e
  alike-keeps s t (k ∷ ks) (l ∷ ls) w a e K =
      let f = e.0 in
      (kept s t k l w a f K.0, alike-keeps (M.after s k) (N.after t l) ks ls _ _ e.1 (rw (f.call, f.verdict, f.node, f.foot) K.1))
