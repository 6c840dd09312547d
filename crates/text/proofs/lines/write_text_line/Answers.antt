-- Writes a prefix line with a message line (`push_line_with_message`): one of blanks, and one of more.
use Prim.Native.Nat.{◌+◌, ◌≤◌}
use mathlib.Core.Path.{◌≡◌}
use native.Mathlib.Omega.{arith}
use lib.ListN.{length, length-take}
use Rattle.slices.proofs.OverLaws.{part_room}
use Rattle.glyphs.specs.Tables.{cells_text, first_cells}
use Rattle.text.proofs.TextLineLaws.{none-room, none_done, some-room, some_end, some-done}
use Rattle.text.proofs.lines.write_text_line.Goals as goal

-- the finished cells leave room for the end
pub bounds-out-end : goal.bounds-out-end
bounds-out-end c =
    let a = c.args in
    let line = cells_text a.table.now (first_cells a.cells a.numbers.now) in
    omega (arith, none-room line a.part.now a.out.now a.whole _ c.trimmed_length-n.ensures.0 c.requires.part_in_bounds c.if-n-eq0.true _ c.trailing_blanks-blanks.ensures _ _ c.write_finished-end.ensures, c.write_finished-end.auto.out)

pub returns-then-n-eq0 : goal.returns-then-n-eq0
returns-then-n-eq0 c =
    let a = c.args in
    let line = cells_text a.table.now (first_cells a.cells a.numbers.now) in
    none_done line a.part.now a.out.now a.whole _ c.trimmed_length-n.ensures.0 c.requires.part_in_bounds c.if-n-eq0.true _ c.trailing_blanks-blanks.ensures _ _ c.write_finished-end.ensures _ c.saturating_sub.ensures

pub write_part-requires : goal.write_part-requires
write_part-requires c =
    let a = c.args in
    let n = c.trimmed_length-n in
    let line = cells_text a.table.now (first_cells a.cells a.numbers.now) in
    let fit : length line + (n.result + 2) ≤ length a.out.now = some-room line a.part.now a.out.now a.whole _ n.ensures.0 c.requires.part_in_bounds c.if-n-eq0.false n.ensures.1 in
    let end : c.write_cells-at.result ≡ length line = some_end line a.part.now a.out.now a.whole _ n.ensures.0 c.requires.part_in_bounds c.if-n-eq0.false n.ensures.1 _ _ c.write_cells-at.ensures in
    omega (arith, length-take n.result a.part.now, c.write_cells-at.auto.out, part_room c.write_cells-at.new.out c.write_cells-at.result)

pub returns : goal.returns
returns c =
    let a = c.args in
    let n = c.trimmed_length-n in
    let line = cells_text a.table.now (first_cells a.cells a.numbers.now) in
    some-done line a.part.now a.out.now a.whole _ n.ensures.0 c.requires.part_in_bounds c.if-n-eq0.false n.ensures.1 _ _ c.write_cells-at.ensures _ _ c.write_cells-at.auto.out c.write_part.ensures
