-- The bounds of the parents' columns, walked upward: the loop keeps `Bounding`.
use mathlib.Core.Path.{refl, ap, ◌∙◌}
use native.Mathlib.Omega.{arith}
use Rattle.links.specs.Links.{bounds_of}
use Rattle.links.proofs.LinkLaws.{bounding-start, bounding-column, bounding-end, kinds-clamp}
use Rattle.links.proofs.AncestorColumnBounds.new.Goals as goal

pub loop-i-init : goal.loop-i-init
loop-i-init c = bounding-start _ _

pub loop-i-preserved : goal.loop-i-preserved
loop-i-preserved c =
    let l = c.loop-i in
    bounding-column _ _ l.i l.bounds _ _ c.loop-i-test.true refl c.with_column-bounds.ensures l.invariant

pub returns : goal.returns
returns c =
    let a = c.args in
    bounding-end _ _ c.loop-i.i c.loop-i.bounds c.loop-i-test.false c.loop-i.invariant
    ∙ ap (λ ds. bounds_of ds a.target) (kinds-clamp c.live_count-n.result a.width a.parents (omega arith))
