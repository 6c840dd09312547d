-- Whether an output of so many bytes has room for all lines; they are counted only where it is shorter than they can be at most.
use Rattle.prefix_lines.proofs.LineLaws.{room-enough}
use Rattle.prefix_lines.proofs.length.has_room.Goals as goal

pub returns-then-most_bytes-size : goal.returns-then-most_bytes-size
returns-then-most_bytes-size c =
    let a = c.args in
    room-enough a.table.now a.drawing a.frame c.most_bytes.ensures c.if-most_bytes-size.true
