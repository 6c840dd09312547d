-- The place of a link cell's entry among the 512.
use native.Mathlib.Omega.{arith}
use Rattle.glyphs.specs.LinkTable.{link_place}
use Rattle.glyphs.proofs.box_drawing.link_place.Goals as goal

pub returns : goal.returns
unfolding link_place
returns c = (
  rw (
    c.weighed.ensures.0,
    c.intersects.ensures,
    c.weighed-2.ensures.0,
    c.intersects-2.ensures,
    c.weighed-3.ensures.0,
    c.intersects-3.ensures,
    c.weighed-4.ensures.0,
    c.intersects-4.ensures,
    c.weighed-5.ensures.0,
    c.intersects-5.ensures,
    c.weighed-6.ensures.0,
    c.intersects-6.ensures,
    c.weighed-7.ensures.0,
    c.intersects-7.ensures,
    c.weighed-8.ensures.0,
    c.intersects-8.ensures,
    c.weighed-9.ensures.0,
  ),
  omega (arith, c.weighed.ensures.1, c.weighed-2.ensures.1, c.weighed-3.ensures.1, c.weighed-4.ensures.1, c.weighed-5.ensures.1, c.weighed-6.ensures.1, c.weighed-7.ensures.1, c.weighed-8.ensures.1, c.weighed-9.ensures.1),
)
