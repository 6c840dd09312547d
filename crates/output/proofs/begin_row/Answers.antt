-- Writes what stands between the row before and this one, where it fits: the queued line, and the separator.
use mathlib.Core.Path.{◌≡◌, refl, sym, ap, ◌∙◌}
use mathlib.Core.Bool.{Bool, true, ◌&&◌, false≢true}
use Prim.Native.Nat.{◌≤◌}
use native.Mathlib.Omega.{arith}
use lib.Dec.{eqb}
use lib.ListN.{length}
use Rattle.output.specs.Output.{finish, text_of, text_view_of, lines_above, begin_row}
use Rattle.output.proofs.PutLaws.{queue-measured, separator-none, begin-done}
use Rattle.output.proofs.begin_row.Goals.{After-is_one_line, Joined-is_separated, then-is_separated+else-out-begin_row_length, else-is_separated}
use Rattle.output.proofs.begin_row.Goals as goal

-- the code's test for a separator is the definition's
separated : (c : After-is_one_line) {t : Bool} → (c.args.separator_line && c.is_one_line.result) ≡ t
    → (c.args.separator_line && eqb (lines_above (text_view_of c.args.state)) 1) ≡ t
separated c e = ap (λ (x : Bool). c.args.separator_line && x) (sym c.is_one_line.ensures) ∙ e

-- where there is one, all fits
fits : (c : Joined-is_separated) → (c.args.separator_line && c.is_one_line.result) ≡ true
    → length (text_of (begin_row finish c.args.separator_line (text_view_of c.args.state))) ≤ length c.args.out.now
fits c e = elim c.if-is_separated.branch [
  | then-is_separated+else-out-begin_row_length w ↦ omega (arith, w.begin_row_length.ensures, w.if-out-begin_row_length.false)
  | else-is_separated w ↦ absurd (false≢true (sym w.if-is_separated.false ∙ e))
]

pub returns-then-not-is_separated : goal.returns-then-not-is_separated
returns-then-not-is_separated c =
    let f = c.flush_queued_pad_line-flushed in
    separator-none c.args.separator_line c.args.state (separated (goal.at.returns-then-not-is_separated c).After-is_one_line c.if-not-is_separated.true) _ _ _
    (queue-measured _ _ f.result _ _ c.saturating_sub.ensures c.line_measure-measure.ensures c.args.state f.ensures)

pub returns : goal.returns
returns c =
    let a = c.args in
    let f = c.flush_queued_pad_line-flushed in
    let s = c.if-not-is_separated.false in
    begin-done a.separator_line a.state (separated (goal.at.returns c).After-is_one_line s) a.out.now _ _ _ _ c.push_line.result
    (fits (goal.at.returns c).Joined-is_separated s) f.auto.out
    (queue-measured _ _ f.result _ _ c.saturating_sub.ensures c.line_measure-measure.ensures c.args.state f.ensures) c.push_line.ensures refl refl
