-- The length of a prefix line with a message line, finished and with its end.
use Rattle.text.proofs.TextLineLaws.{length_none, length_some}
use Rattle.text.proofs.lines.text_line_length.Goals as goal

pub returns-then-n-eq0 : goal.returns-then-n-eq0
returns-then-n-eq0 c =
    let a = c.args in
    length_none a.part.now _ c.trimmed_length-n.ensures.0 c.if-n-eq0.true a.lengths

pub returns : goal.returns
returns c =
    let a = c.args in
    length_some a.part.now _ c.trimmed_length-n.ensures.0 c.if-n-eq0.false a.lengths
