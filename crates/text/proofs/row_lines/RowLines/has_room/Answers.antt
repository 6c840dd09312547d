-- Whether an output of so many bytes has room for all lines; they are counted only where it is shorter than they can be at most.
use mathlib.Core.Path.{◌≡◌}
use native.Mathlib.Omega.{arith}
use lib.ListN.{length}
use borrow.Author.Rules.{rules}
use Rattle.output.specs.Output.{text_view_of}
use Rattle.output.proofs.PutLaws.{queue_long, begin-short}
use Rattle.text.proofs.RowTextLaws.{room-there, room-counted, below-short}
use Rattle.text.proofs.row_lines.RowLines.has_room.Goals as goal

pub returns-then-most_bytes-size : goal.returns-then-most_bytes-size
returns-then-most_bytes-size c =
    let a = c.args in
    let long : length a.state.queued_pad_line ≡ 512 = search rules in
    room-there a.self.now.table.now a.self.now.drawing a.self.now.plan a.self.now.message.now a.self.now.fixed_value a.state a.separator_line (queue_long a.state.queued_pad_line long) _ a.size c.most_bytes.ensures c.if-most_bytes-size.true

pub overflow_add-result : goal.overflow_add-result
overflow_add-result c =
    let a = c.args in
    let long : length a.state.queued_pad_line ≡ 512 = search rules in
    omega (
      arith,
      c.length.ensures,
      c.begin_row_length.ensures,
      begin-short a.separator_line a.state (queue_long a.state.queued_pad_line long),
      below-short a.self.now.table.now a.self.now.drawing a.self.now.plan a.self.now.message.now a.self.now.fixed_value a.self.now.width_bound a.self.now.message_bound a.self.now.fixed_bound a.self.now.needed_bound,
    )

pub returns : goal.returns
returns c =
    let a = c.args in
    room-counted a.self.now.table.now a.self.now.drawing a.self.now.plan a.self.now.message.now (text_view_of a.state) a.separator_line _ _ a.size c.begin_row_length.ensures c.length.ensures
