-- The entries of the table of link glyphs: counted out, they are the glyphs of their facts.
use mathlib.Core.Path.{refl}
use Rattle.glyphs.specs.BoxDrawing.{box_link}
use Rattle.glyphs.proofs.LinkLaws.{entry-names}
use Rattle.glyphs.proofs.box_drawing.link_glyphs.Goals as goal

pub returns : goal.returns
unfolding box_link
returns c = entry-names _ refl
