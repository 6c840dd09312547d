-- How many blanks stand at the end of the cells.
use mathlib.Core.Path.{◌≡◌, ap, ◌∙◌}
use mathlib.Core.List.{List, [], ◌∷◌, ◌++◌}
use Prim.Native.Nat.{ℕ, ◌-◌}
use native.Mathlib.Omega.{arith}
use lib.ListN.{length, length-append}
use mir.Syntax.{w64}
use borrow.Author.Rules.{Fits-under, rules}
use Rattle.std.proofs.lemmas.Iterator.Adapters.{YieldsList-from_rev_slice}
use Rattle.std.proofs.lemmas.Iterator.Consumers.{YieldsList-turn}
use Rattle.message.specs.Message.{trim_end}
use Rattle.glyphs.proofs.CellsLaws.{tail-cell, tail-stop, tail-next, few_short}
use Rattle.glyphs.proofs.TableLaws.{glyph-short}
use Rattle.glyphs.proofs.table.Cells.trailing_blanks.Goals as goal

pub overflow_add-blanks : goal.overflow_add-blanks
overflow_add-blanks c =
    let l = c.loop-n in
    let cells = c.args.self.now in
    Fits-under w64 _ 10000 (omega (arith, l.invariant.sum, ap length c.glyph-bytes.ensures, glyph-short cells.table.now c.in-Some.n.now, few_short cells.table.now cells.numbers.now cells.few)) tt

pub returns-then-end-ne0 : goal.returns-then-end-ne0
returns-then-end-ne0 c =
    let l = c.loop-n in
    let cells = c.args.self.now in
    let t = tail-cell cells.table.now cells.numbers.now (length l.yielded) c.in-Some.n.now (YieldsList-turn (YieldsList-from_rev_slice cells.numbers.now (search rules)) l.yielded _ l.yielded_by _ _ c.in-Some.n c.in-Some.is c.next.ensures.steps) in
    let e = c.trimmed_length-end.ensures.0 ∙ ap (λ (bs : List ℕ). length (trim_end bs)) c.glyph-bytes.ensures in
    let n = ap length c.glyph-bytes.ensures in
    tail-stop cells.table.now cells.numbers.now (length cells.numbers.now - length l.yielded) l.blanks c.in-Some.n.now _ l.invariant t.0 t.1 (omega (arith, e, n)) (omega (arith, e, c.if-end-ne0.true))

pub loop-n-preserved : goal.loop-n-preserved
loop-n-preserved c =
    let l = c.loop-n in
    let cells = c.args.self.now in
    let t = tail-cell cells.table.now cells.numbers.now (length l.yielded) c.in-Some.n.now (YieldsList-turn (YieldsList-from_rev_slice cells.numbers.now (search rules)) l.yielded _ l.yielded_by _ _ c.in-Some.n c.in-Some.is c.next.ensures.steps) in
    let e = c.trimmed_length-end.ensures.0 ∙ ap (λ (bs : List ℕ). length (trim_end bs)) c.glyph-bytes.ensures in
    let n = ap length c.glyph-bytes.ensures in
    let k : length cells.numbers.now - length (l.yielded ++ c.in-Some.n ∷ []) ≡ length cells.numbers.now - length l.yielded - 1 = omega (arith, length-append l.yielded (c.in-Some.n ∷ [])) in
    rw k (tail-next cells.table.now cells.numbers.now (length cells.numbers.now - length l.yielded) l.blanks c.in-Some.n.now _ l.invariant t.0 t.1 (omega (arith, e, n)) (omega (arith, e, c.if-end-ne0.false)))
