-- The table of a box drawing renderer: its glyphs, and behind them the link glyphs.
use mathlib.Core.Path.{◌≡◌}
use lib.ListN.{length}
use Rattle.glyphs.proofs.BoxLaws.{box-made}
use borrow.Author.Rules.{rules}
use Rattle.glyphs.proofs.box_drawing.box_table.Goals as goal

pub returns : goal.returns
returns c =
    let glyphs = c.marked_glyphs-glyphs.result in
    let entries = c.link_glyphs-links.result in
    let g : length glyphs ≡ 144 = search rules in
    let e : length entries ≡ 512 = search rules in
    box-made _ _ glyphs entries _ _ _ _ g e c.marked_glyphs-glyphs.ensures c.link_glyphs-links.ensures c.copy_from_slice.ensures.after c.copy_from_slice-2.ensures.after
