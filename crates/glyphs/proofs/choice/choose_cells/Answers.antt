-- Chooses the glyphs of a line, a number for each cell.
use mathlib.Core.Path.{◌≡◌, refl, sym, ◌∙◌}
use Prim.Native.Nat.{◌<◌}
use native.Mathlib.Omega.{arith}
use lib.ListN.{length, take, length-take}
use lib.Seq.{get_or-take}
use borrow.Author.Rules.{rules}
use Rattle.glyphs.proofs.PlaceLaws.{cells-fitting}
use Rattle.glyphs.proofs.ChoiceLaws.{choose-link, choose-plain, choose-all, cells-long}
use Rattle.glyphs.proofs.choice.choose_cells.Goals as goal

pub loop-i-preserved : goal.loop-i-preserved
loop-i-preserved c =
    let l = c.loop-i in
    let d = c.args.drawing in
    let e : length d.cells ≡ 64 = search rules in
    let h : l.i < c.min-count.result = search rules in
    choose-link c.args.table.now d c.args.line _ _ _ (cells-fitting d.cells d.width _ (cells-long d.cells e) c.min.ensures) (omega (arith, c.min.ensures, length-take c.min.result d.cells)) c.min-count.ensures l.i h _ (get_or-take _ _ l.i _ h) _ _ _ l.invariant (sym c.is_link.ensures ∙ c.if-is_link.true) c.next_link.ensures c.link_number.ensures

pub returns-then-is_link : goal.returns-then-is_link
returns-then-is_link c =
    let d = c.args.drawing in
    let e : length d.cells ≡ 64 = search rules in
    choose-all c.args.table.now d c.args.line _ _ _ (cells-fitting d.cells d.width _ (cells-long d.cells e) c.min.ensures) (omega (arith, c.min.ensures, length-take c.min.result d.cells)) c.min-count.ensures _ _ _ refl c.loop-i.invariant (omega (arith, c.loop-i-test.false, c.min-count.ensures, length-take c.min-count.result (take c.min.result d.cells)))

pub loop-i-2-preserved : goal.loop-i-2-preserved
loop-i-2-preserved c =
    let l = c.loop-i-2 in
    let d = c.args.drawing in
    let e : length d.cells ≡ 64 = search rules in
    let h : l.i < c.min-count.result = search rules in
    choose-plain c.args.table.now d c.args.line _ _ _ (cells-fitting d.cells d.width _ (cells-long d.cells e) c.min.ensures) (omega (arith, c.min.ensures, length-take c.min.result d.cells)) c.min-count.ensures l.i h _ (get_or-take _ _ l.i _ h) _ _ _ _ _ l.invariant (sym c.is_link.ensures ∙ c.if-is_link.false) c.plain_numbers-first.ensures c.plain_numbers-others.ensures c.numbers_at.ensures c.plain_number.ensures

pub returns : goal.returns
returns c =
    let d = c.args.drawing in
    let e : length d.cells ≡ 64 = search rules in
    choose-all c.args.table.now d c.args.line _ _ _ (cells-fitting d.cells d.width _ (cells-long d.cells e) c.min.ensures) (omega (arith, c.min.ensures, length-take c.min.result d.cells)) c.min-count.ensures _ _ _ refl c.loop-i-2.invariant (omega (arith, c.loop-i-2-test.false, c.min-count.ensures, length-take c.min-count.result (take c.min.result d.cells)))
