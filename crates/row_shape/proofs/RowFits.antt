-- A row that is accepted has at most 64 cells.
use Prim.Native.Nat.{ℕ, ◌≤◌}
use mathlib.Core.Path.{◌≡◌, refl}
use mathlib.Core.Bool.{Bool, true, false}
use mathlib.Core.List.{List}
use borrow.Author.Tests.{ltb-false}
use native.Mathlib.Omega.{arith}
use lib.Dec.{ltb}
use lib.ListN.{length}
use Rattle.column.specs.Columns.{column_limit}
use Rattle.render.specs.declared.render.Ancestor.{Ancestor as Entry}
use Rattle.render.specs.Entries.{is_too_many}
use Rattle.render.specs.Refusals.{refusal}
use Rattle.shaper.specs.Shaper.{View}
use Rattle.placing.specs.Placing.{Placed, place}
use Rattle.row_shape.specs.Row.{row_answer, row_checks, row}

shape-fits : (v : View) (n : ℕ) (es : List Entry) (p : Placed) (many wide : Bool) → is_too_many es ≡ many → ltb column_limit (length p.walked) ≡ wide
    → (row_answer (refusal (row_checks es p)) v n es p).refusal ≡ 0 → (row_answer (refusal (row_checks es p)) v n es p).shape.width ≤ column_limit
shape-fits v n es p true b m e h = let z : ◌≡◌ {A = ℕ} 3 0 = rw m at h in omega (arith, z)
shape-fits v n es p false true m e h = let z : ◌≡◌ {A = ℕ} 4 0 = rw (m, e) at h in omega (arith, z)
shape-fits v n es p false false m e h =
    let w : (row_answer (refusal (row_checks es p)) v n es p).shape.width ≡ length p.walked = rw (m, e) in
    let f = ltb-false column_limit (length p.walked) e in
    omega (arith, w, f)

pub row_fits : (v : View) (n : ℕ) (es : List Entry) → (row v n es).refusal ≡ 0 → (row v n es).shape.width ≤ column_limit
unfolding row
row_fits v n es h = shape-fits v n es (place v n es) (is_too_many es) (ltb column_limit (length (place v n es).walked)) refl refl h
