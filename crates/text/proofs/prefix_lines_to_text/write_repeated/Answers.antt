-- Writes a prefix line so many times, each time with the next message line: the first by its glyphs, the others by the first one's bytes.
use mathlib.Core.Path.{◌≡◌, refl}
use native.Mathlib.Omega.{arith}
use borrow.Author.Rules.{rules}
use Rattle.glyphs.specs.Tables.{cells_text, first_cells}
use Rattle.text.proofs.RepeatLaws.{part-within, first_fits, first-written, again-asked, again-written}
use Rattle.text.proofs.prefix_lines_to_text.write_repeated.Goals as goal

pub slice_bounds-write_text_line-end : goal.slice_bounds-write_text_line-end
slice_bounds-write_text_line-end c =
    let a = c.args in
    (part-within a.message.now a.start c.line_end-first_end.result c.requires.message_len_bound.1 c.line_end-first_end.ensures).1

pub write_text_line-first-requires-clause-part_in_bounds : goal.write_text_line-first-requires-clause-part_in_bounds
write_text_line-first-requires-clause-part_in_bounds c =
    let a = c.args in
    first_fits a.whole a.message.now a.start a.out.now (cells_text a.table.now (first_cells a.cells a.numbers.now)) a.times c.line_end-first_end.result c.requires.message_in_bounds c.requires.message_len_bound.2
    c.line_end-first_end.ensures

pub returns-then-times-eq1 : goal.returns-then-times-eq1
returns-then-times-eq1 c =
    let a = c.args in
    let w = c.write_text_line-first in
    rw c.if-times-eq1.true
    (first-written a.whole a.message.now a.start a.out.now _ c.line_end-first_end.result _ w.result _ c.line_end-first_end.ensures w.ensures w.auto.out refl refl c.next_start-next.ensures).rows

pub loop-init : goal.loop-init
loop-init c =
    let a = c.args in
    let w = c.write_text_line-first in (
      search rules,
      c.requires.message_len_bound.2,
      first-written a.whole a.message.now a.start a.out.now _ c.line_end-first_end.result _ w.result _ c.line_end-first_end.ensures w.ensures w.auto.out refl refl c.next_start-next.ensures,
    )

pub slice_bounds-repeat_text_line-end : goal.slice_bounds-repeat_text_line-end
slice_bounds-repeat_text_line-end c =
    let l = c.loop in
    (part-within c.args.message.now l.next c.line_end-end.result l.invariant.2.rows.within c.line_end-end.ensures).1

pub repeat_text_line-put-requires : goal.repeat_text_line-put-requires
repeat_text_line-put-requires c =
    let l = c.loop in
    let m = c.lengths_of-lengths in
    let a = c.args in
    let (x, y) = again-asked a.whole a.message.now a.start a.out.now _ m.result m.ensures l.counter l.out _ l.invariant.2 a.times c.requires.message_in_bounds l.invariant.0 c.loop-test.true c.line_end-end.result c.line_end-end.ensures in
    record { finished_in_bounds = (x.0, x.1, x.2, c.requires.message_len_bound.4); part_in_bounds = y }

pub loop-preserved : goal.loop-preserved
loop-preserved c =
    let l = c.loop in
    let m = c.lengths_of-lengths in
    let a = c.args in (
      omega arith,
      omega arith,
      again-written a.whole a.message.now a.start a.out.now _ m.result m.ensures l.counter l.out _ l.invariant.2 l.invariant.0 c.line_end-end.result _ c.repeat_text_line-put.result _
          c.line_end-end.ensures c.repeat_text_line-put.auto.out c.repeat_text_line-put.ensures refl c.max-measure.ensures c.next_start-next-in-loop.ensures,
    )

pub returns : goal.returns
returns c =
    let l = c.loop in
    let e : l.counter ≡ c.args.times = omega (arith, l.invariant.1) in
    rw (← e) l.invariant.2.rows
