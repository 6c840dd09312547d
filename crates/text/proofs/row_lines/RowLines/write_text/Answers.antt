-- Writes a row's text out of a table, if the output has room for it.
use mathlib.Core.Path.{refl}
use Rattle.output.specs.Output.{text_view_of}
use Rattle.text.proofs.RowTextLaws.{no_room, room, row_fits}
use Rattle.text.proofs.row_lines.RowLines.write_text.Goals as goal

pub returns-then-not-has_room : goal.returns-then-not-has_room
returns-then-not-has_room c =
    let a = c.args in
    no_room a.self.now.table.now a.self.now.drawing a.self.now.plan a.self.now.message.now (text_view_of a.state) a.separator_line a.out.now c.has_room.ensures _ _ refl c.if-not-has_room.true refl

pub write-put-requires : goal.write-put-requires
write-put-requires c =
    let a = c.args in
    let w = c.begin_row-above in
    row_fits a.self.now.table.now a.self.now.drawing a.self.now.plan a.self.now.message.now (text_view_of a.state) a.separator_line a.out.now c.has_room.ensures c.if-not-has_room.false w.new.out w.result w.ensures w.auto.out

pub returns : goal.returns
returns c =
    let a = c.args in
    let b = c.begin_row-above in
    let u = c.write-put in
    room a.self.now.table.now a.self.now.drawing a.self.now.plan a.self.now.message.now (text_view_of a.state) a.separator_line a.out.now c.has_room.ensures c.if-not-has_room.false b.new.out b.result b.ensures b.auto.out
    _ u.new.out u.result u.ensures.0 u.ensures.1 u.ensures.2 refl refl c.max.ensures c.state_after-after.ensures.0 c.state_after-after.ensures.1
