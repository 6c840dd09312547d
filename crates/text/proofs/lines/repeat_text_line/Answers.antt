-- Writes a prefix line once more, from `at` on, with the next message line: its first bytes are those of the output.
use Prim.Native.Nat.{◌+◌}
use native.Mathlib.Omega.{arith}
use Rattle.slices.proofs.OverLaws.{part_room}
use Rattle.text.proofs.TextLineLaws.{again-room, again-none, again-some, copied-within}
use Rattle.text.proofs.lines.repeat_text_line.Goals as goal

-- the whole line fits
pub copy_within-requires-clause-dest_in_bounds : goal.copy_within-requires-clause-dest_in_bounds
copy_within-requires-clause-dest_in_bounds c =
    let a = c.args in
    let r = c.requires.finished_in_bounds in
    omega (arith, again-room a.lengths a.at a.part.now a.out.now r.1 r.2 c.requires.part_in_bounds)

pub write_behind-count-requires : goal.write_behind-count-requires
write_behind-count-requires c =
    let a = c.args in
    let r = c.requires.finished_in_bounds in
    omega (arith, again-room a.lengths a.at a.part.now a.out.now r.1 r.2 c.requires.part_in_bounds, c.copy_within.auto.self, part_room c.copy_within.new.self (a.at + a.lengths.finished))

pub returns-then-count-eq1 : goal.returns-then-count-eq1
returns-then-count-eq1 c =
    let a = c.args in
    let r = c.requires.finished_in_bounds in
    again-none a.lengths a.at a.part.now a.out.now r.1 r.2 c.requires.part_in_bounds a.whole _ _ _ c.copy_within.auto.self (copied-within a.out.now a.lengths.finished a.at c.copy_within.ensures.after) c.write_behind-count.ensures c.if-count-eq1.true _ c.saturating_sub.ensures

pub returns : goal.returns
returns c =
    let a = c.args in
    let r = c.requires.finished_in_bounds in
    again-some a.lengths a.at a.part.now a.out.now r.1 r.2 c.requires.part_in_bounds a.whole _ _ _ c.copy_within.auto.self (copied-within a.out.now a.lengths.finished a.at c.copy_within.ensures.after) c.write_behind-count.ensures c.if-count-eq1.false
