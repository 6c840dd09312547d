-- The numbers of a renderer's cell that is given no link.
use Rattle.glyphs.proofs.BoxLaws.{box-plain}
use Rattle.glyphs.proofs.choice.plain_numbers.Goals as goal

pub returns-in-Square : goal.returns-in-Square
returns-in-Square c =
    let a = c.args in
    box-plain _ _ a.index _ c.in-Square.is (c.plain_numbers-in-Square.ensures a.index)
