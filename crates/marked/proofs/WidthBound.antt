-- The greatest figure of the width call with at most eight entries (02, R-5), on at most 64 columns.
use Prim.Native.Nat.{ℕ}
use mathlib.Core.Path.{◌≡◌, refl}
use mathlib.Core.Logic.{◌≢◌}
use mathlib.Core.Bool.{Bool, true, false}
use mathlib.Core.List.{List}
use native.Mathlib.Omega.{arith}
use lib.Dec.{ltb}
use lib.ListN.{length}
use borrow.Author.Tests.{ltb-false}
use Rattle.std.specs.Prelude.{Some}
use Rattle.std.proofs.lemmas.Option.{same_Some}
use Rattle.column.specs.declared.Column.{Column}
use Rattle.column.specs.declared.Column.TheVariants.{Empty}
use Rattle.column.specs.Columns.{column_limit, put}
use Rattle.column.proofs.Positions.{length-put}
use Rattle.render.specs.declared.render.Ancestor.{Ancestor as Entry}
use Rattle.render.specs.Entries.{is_too_many}
use Rattle.shaper.specs.Shaper.{View, reserve}
use Rattle.shaper.specs.NodeColumn.{node_column}
use Rattle.placing.specs.Placing.{walk, place}
use Rattle.placing.proofs.PlacingLaws.{walk_more}
use Rattle.row_shape.specs.Row.{row}
use Rattle.width.specs.Width.{width}
use Rattle.width.proofs.WidthMost.{width-most, width-most-drawn}
use Rattle.marked.specs.EntryCounts.{GreatestWidth}

-- the node of an accepted row stands in one of 64 columns
drawn : (v : View) (n : ℕ) (es : List Entry) → (row v n es).refusal ≡ 0 → (row v n es).view.previous ≢ Some 64
unfolding row place
drawn v n es = go (is_too_many es) refl (ltb column_limit (length walked)) refl
  where
    c : ℕ
    c = node_column v n

    walked : List Column
    walked = walk c es (put v.columns c Empty)

    go : (b : Bool) → is_too_many es ≡ b → (d : Bool) → ltb column_limit (length walked) ≡ d → (row v n es).refusal ≡ 0 → (row v n es).view.previous ≢ Some 64
    go true q d e h p = let z : ◌≡◌ {A = ℕ} 3 0 = rw q at h in absurd (omega arith)
    go false q true e h p = let z : ◌≡◌ {A = ℕ} 4 0 = rw (q, e) at h in absurd (omega arith)
    go false q false e h p =
        let z : Some c ≡ Some 64 = rw (q, e) at p in
        omega (arith, same_Some c 64 z, walk_more c es (put v.columns c Empty), length-put v.columns c Empty, ltb-false column_limit (length walked) e)

-- the greatest figures, and states on which they are given
pub greatest-width : GreatestWidth
unfolding reserve width
greatest-width = record { most = width-most; reached = refl; drawn-most = width-most-drawn; drawn-reached = refl; drawn = drawn }
