-- Writes a row's lines, and gives the count of their bytes.
use mathlib.Core.Path.{◌∙◌, refl}
use native.Mathlib.Omega.{arith}
use borrow.Author.Rules.{rules}
use lib.ListN.{length}
use Prim.Native.Nat.{◌≤◌}
use Rattle.glyphs.specs.Cells.{all_lines}
use Rattle.glyphs.specs.declared.types.Line.TheVariants.{PreNode}
use Rattle.slices.proofs.JoinLaws.{joins-within, next-length, next-over}
use Rattle.slices.proofs.OverLaws.{part_length}
use Rattle.prefix_lines.specs.Inner.{drawn_line}
use Rattle.prefix_lines.proofs.writer.write_lines.Goals as goal

pub loop-line-preserved : goal.loop-line-preserved
loop-line-preserved c =
    let a = c.args in
    let l = c.loop-line in
    let w = c.write_line-at in
    let f = drawn_line a.frame a.table.now a.drawing in
    let room : l.at ≤ length l.out = omega (arith, joins-within f all_lines l.line-index, l.invariant.0, l.invariant.1, l.invariant.3) in (
      l.invariant.0,
      part_length l.out w.new.out l.at w.auto.out room ∙ l.invariant.1,
      search rules,
      next-length f all_lines l.line-index PreNode c.loop-line-test.true l.invariant.3 w.ensures.0,
      next-over f all_lines l.line-index PreNode _ c.loop-line-test.true l.invariant.4 l.invariant.3 refl w.ensures.1,
    )
