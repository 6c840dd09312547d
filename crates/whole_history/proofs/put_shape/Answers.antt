-- `whole_history::put_shape` meets its contract: one cell more is written in each turn, and at the end all are.
use Prim.Native.Nat.{◌+◌, ◌*◌}
use mathlib.Core.Path.{◌≡◌, refl, ◌∙◌}
use native.Mathlib.Omega.{arith}
use lib.ListN.{length}
use Rattle.column.specs.Columns.{column_limit}
use Rattle.slices.proofs.OverLaws.{part_length}
use Rattle.whole_history.proofs.ShapeLaws.{cells-long, cells-next, no_room, shape-done}
use borrow.Author.Rules.{rules}
use Rattle.whole_history.proofs.put_shape.Goals as goal

pub returns-then-out-size : goal.returns-then-out-size
returns-then-out-size c =
    let long : length c.args.shape.cells ≡ column_limit = search (rules, cells-long) in
    (no_room c.args.shape long _ c.min-width.ensures _ c.if-out-size.true, refl)

pub loop-i-preserved : goal.loop-i-preserved
loop-i-preserved c =
    let l = c.loop-i in
    let back = c.write_bytes-in-loop-i in
    record {
      same = part_length l.out back.new.out (12 + 8 * l.i) back.auto.out (omega arith) ∙ l.invariant.same;
      long = l.invariant.long;
      written = cells-next _ l.invariant.long l.i _ _ l.invariant.written (omega arith) c.cell_bytes.ensures back.ensures (omega (arith, l.invariant.same));
    }

pub returns : goal.returns
returns c =
    let l = c.loop-i in
    shape-done _ l.invariant.long _ c.min-width.ensures l.i _ c.head_bytes.ensures c.write_bytes.ensures l.invariant.written (omega arith) c.if-out-size.false
