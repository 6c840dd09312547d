-- The greatest figure of the width call, on at most 64 columns.
use Prim.Native.Nat.{ℕ, suc, ◌+◌, ◌≤◌}
use mathlib.Core.Path.{◌≡◌, refl, ap}
use mathlib.Core.Logic.{◌≢◌}
use mathlib.Core.Bool.{Bool, true, false}
use mathlib.Core.List.{List}
use native.Mathlib.Omega.{arith}
use lib.Dec.{ltb, eqb}
use lib.ListN.{length, get_or}
use borrow.Author.Tests.{ltb-true, ltb-false, eqb-true}
use Rattle.column.specs.declared.Column.{Column}
use Rattle.column.specs.declared.Column.TheVariants.{Blocked}
use Rattle.std.specs.Prelude.{Option, Some, None}
use Rattle.column.specs.Found.{Found}
use Rattle.column.specs.Columns.{is_empty, find}
use Rattle.render.specs.declared.render.Ancestor.{Ancestor as Entry}
use Rattle.render.specs.Entries.{entry_limit, is_too_many}
use Rattle.shaper.specs.Shaper.{View, is_nothing}
use Rattle.shaper.specs.NodeColumn.{dense}
use Rattle.width.specs.declared.Room.{Room}
use Rattle.std.specs.List.{count_by}
use Rattle.std.proofs.lemmas.List.Sums.{count_by-le-length}
use Rattle.width.specs.Width.{apart, take_one, for_node, unheld, width}

-- ---- a node takes at most one column, and at most one more that it is kept out of

take-wide : (r : Room) → (take_one r).wide ≤ suc r.wide
take-wide r = go (eqb r.free 0) refl
  where
    go : (b : Bool) → eqb r.free 0 ≡ b → (take_one r).wide ≤ suc r.wide
    go true q = rw q (omega arith)
    go false q = rw q (omega arith)

apart-wide : (f : Found) (cs : List Column) (r : Room) → (apart f cs r).wide ≤ suc r.wide
apart-wide None cs r = omega arith
apart-wide (Some p) cs r = go (is_empty (get_or cs p Blocked)) refl (eqb p (length cs)) refl
  where
    go : (b : Bool) → is_empty (get_or cs p Blocked) ≡ b → (d : Bool) → eqb p (length cs) ≡ d → (apart (Some p) cs r).wide ≤ suc r.wide
    go true q d e = rw q (omega arith)
    go false q true e = rw (q, e) (omega arith)
    go false q false e = rw (q, e) (omega arith)

apart-same : (f : Found) (cs : List Column) (r : Room) → f ≢ Some (length cs) → (apart f cs r).wide ≤ r.wide
apart-same None cs r h = omega arith
apart-same (Some p) cs r h = go (is_empty (get_or cs p Blocked)) refl (eqb p (length cs)) refl
  where
    go : (b : Bool) → is_empty (get_or cs p Blocked) ≡ b → (d : Bool) → eqb p (length cs) ≡ d → (apart (Some p) cs r).wide ≤ r.wide
    go true q d e = rw q (omega arith)
    go false q true e = absurd (h (ap Some (eqb-true p (length cs) e)))
    go false q false e = rw (q, e) (omega arith)

module _ (v : View) (r : Room) where
  -- what a node is given, where staggering leaves it m columns at most
  node_wide : (n m : ℕ) → r.wide ≤ m → (apart v.previous v.columns r).wide ≤ m → (for_node v (Some n) r).wide ≤ suc m
  node_wide n m h k = go (is_nothing (find n v.columns)) refl (dense v) refl
    where
      go : (b : Bool) → is_nothing (find n v.columns) ≡ b → (d : Bool) → dense v ≡ d → (for_node v (Some n) r).wide ≤ suc m
      go true q true e = rw (q, e) (omega (arith, k, take-wide (apart v.previous v.columns r)))
      go true q false e = rw (q, e) (omega (arith, h, take-wide r))
      go false q d e = rw q (omega (arith, h))

  for-wide : (n : Option ℕ) → (for_node v n r).wide ≤ suc (suc r.wide)
  for-wide None = omega arith
  for-wide (Some n) = node_wide n (suc r.wide) (omega arith) (apart-wide v.previous v.columns r)

  for-less : v.previous ≢ Some (length v.columns) → (n : Option ℕ) → (for_node v n r).wide ≤ suc r.wide
  for-less h None = omega arith
  for-less h (Some n) = node_wide n r.wide (omega arith) (apart-same v.previous v.columns r h)

-- ---- the width call

module _ (v : View) (n : Option ℕ) (es : List Entry) where
  abbrev room : Room
  room = record { wide = length v.columns; free = count_by is_empty v.columns }

  -- at most seven entries stand beyond what the node leaves
  width-within : (m : ℕ) → (for_node v n room).wide ≤ m → (width v n es).width ≤ m + 7
  unfolding width
  width-within m h = go (is_too_many es) refl
    where
      go : (b : Bool) → is_too_many es ≡ b → (width v n es).width ≤ m + 7
      go true q = rw q (omega arith)
      go false q = rw q (omega (arith, h, ltb-false entry_limit (length es) q, count_by-le-length (unheld v.columns) es))

  -- at most 73 on at most 64 columns
  pub width-most : length v.columns ≤ 64 → (width v n es).width ≤ 73
  width-most h = width-within 66 (omega (arith, h, for-wide v room n))

  -- and at most 72 where the previous node's column is not the 65th
  pub width-most-drawn : length v.columns ≤ 64 → v.previous ≢ Some 64 → (width v n es).width ≤ 72
  width-most-drawn h k = width-within 65 (go (ltb (length v.columns) 64) refl)
    where
      go : (b : Bool) → ltb (length v.columns) 64 ≡ b → (for_node v n room).wide ≤ 65
      go true q = omega (arith, ltb-true (length v.columns) 64 q, for-wide v room n)
      go false q =
          let e : length v.columns ≡ 64 = omega (arith, h, ltb-false (length v.columns) 64 q) in
          omega (arith, e, for-less v room (λ p. k (rw e at p)) n)
