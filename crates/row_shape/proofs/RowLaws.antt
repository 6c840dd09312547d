-- Laws of the small parts of a row.
use Prim.Native.Nat.{ℕ, ◌≤◌, ◌<◌, min}
use mathlib.Core.Path.{◌≡◌, refl, ◌∙◌, sym}
use mathlib.Core.Bool.{Bool, true, false, not, ◌&&◌}
use native.Mathlib.Omega.{arith}
use lib.Dec.{ltb, leb}
use borrow.Author.Tests.{le-leb, lt-leb, ltb-true, ltb-false}
use Rattle.std.specs.Prelude.{None}
use Rattle.column.specs.Found.{Found}
use Rattle.render.specs.declared.types.Options.{Options}
use Rattle.shaper.specs.Shaper.{height_limit}
use Rattle.links.specs.Links.{is_at}
use Rattle.row_shape.specs.Inner.{separator_with}

-- whether a row needs a separator is told by the raw height as by the height of the view, which is at most the limit
pub separates-done : (o : Options) (previous existing : Found) (c : ℕ) (terms at-previous : Bool) → existing ≡ None → at-previous ≡ is_at previous c
    → (leb o.min_row_height 1 && (not o.stagger_consecutive_disconnected_nodes && (at-previous && not terms))) ≡ separator_with o previous existing c terms
separates-done o previous existing c terms at-previous e f = rw (e, f, same (ltb 1 o.min_row_height) refl)
  where
    same : (t : Bool) → ltb 1 o.min_row_height ≡ t → leb o.min_row_height 1 ≡ leb (min o.min_row_height height_limit) 1
    same true q =
        let h : 1 < o.min_row_height = ltb-true _ _ q in
        lt-leb o.min_row_height 1 h ∙ sym (lt-leb (min o.min_row_height height_limit) 1 (omega arith))
    same false q =
        let h : o.min_row_height ≤ 1 = ltb-false _ _ q in
        le-leb o.min_row_height 1 h ∙ sym (le-leb (min o.min_row_height height_limit) 1 (omega arith))
