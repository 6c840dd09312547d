-- Laws of the list that entries by value stand for: when it is too long, and what it is else.
use Prim.Native.Nat.{ℕ, ◌≤◌}
use mathlib.Core.Path.{◌≡◌, refl, sym, ◌∙◌}
use mathlib.Core.Bool.{Bool, true, false, cond, ◌||◌}
use native.Mathlib.Omega.{arith}
use lib.Dec.{ltb}
use lib.ListN.{length, take, length-map, length-take}
use borrow.Author.Tests.{ltb-false, le-ltb}
use Rattle.render.specs.declared.render.Entry.{Entry}
use Rattle.render.specs.declared.render.Entries.{Entries}
use Rattle.render.specs.Entries.{entry_limit, is_too_many, given, overlong, listed}

module _ (es : Entries) where
  -- what the array says of itself
  abbrev over : Bool
  over = es.too_many || ltb entry_limit es.count

  count-few : over ≡ false → es.count ≤ entry_limit
  count-few = go es.too_many
    where
      go : (b : Bool) → (b || ltb entry_limit es.count) ≡ false → es.count ≤ entry_limit
      go false e = ltb-false entry_limit es.count e
      go true e = let z : ◌≡◌ {A = ℕ} 0 1 = cc in absurd (omega arith)

  given-few : over ≡ false → length (given es) ≤ entry_limit
  given-few e = omega (arith, count-few e, length-map (take es.count es.list) (λ (x : Entry). x.ancestor), length-take es.count es.list)

  -- it says so exactly if the list is too long
  pub many-listed : over ≡ is_too_many (listed es)
  many-listed = go over refl
    where
      go : (t : Bool) → over ≡ t → t ≡ is_too_many (cond t overlong (given es))
      go true e = refl
      go false e = sym (le-ltb entry_limit (length (given es)) (given-few e))

  module _ (few : is_too_many (listed es) ≡ false) where
    -- else the count is within the limit, and the list is that of the array
    pub few-count : es.count ≤ entry_limit
    few-count = count-few (many-listed ∙ few)

    pub few-given : listed es ≡ given es
    few-given = let f : over ≡ false = many-listed ∙ few in rw f
