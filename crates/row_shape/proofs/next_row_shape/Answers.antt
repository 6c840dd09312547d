-- The row call: the walk over the entries keeps `Going` and `Carrying`, the loops over the cells keep the cells that are stored, and the one that
-- ends the row the slots that are filled.
use borrow.Author.Rules.{rules}
use mathlib.Core.Path.{refl, ap, sym, ◌∙◌}
use native.Mathlib.Omega.{arith}
use Rattle.column.specs.Columns.{is_parent}
use Rattle.placing.proofs.EndLaws.{filling-start, filling-next, filling-done}
use Rattle.render.specs.Entries.{given}
use Rattle.shaper.proofs.Laws.{slots-long, entries-long}
use Rattle.placing.proofs.PlacingLaws.{going-over, going_next, carrying-next}
use Rattle.row_shape.proofs.RowCall.{row-too-many, row-no-column, begun, bare, row-start, row_carries, entry_next, row_walked, row-no-room, row_done, left-of, plain-next, drawing-start, drawing-next}
use Rattle.row_shape.proofs.next_row_shape.Goals as goal

pub returns-then-are_too_many : goal.returns-then-are_too_many
returns-then-are_too_many c =
    let a = c.args in
    row-too-many a.shaper a.node a.entries (sym c.are_too_many.ensures ∙ c.if-are_too_many.true)

pub returns-in_default : goal.returns-in_default
returns-in_default c =
    let a = c.args in
    row-no-column a.shaper a.node a.entries (sym c.are_too_many.ensures ∙ c.if-are_too_many.false) _ _ c.find-existing.ensures c.find_column.ensures c.in_default.is

pub loop-entry-init : goal.loop-entry-init
loop-entry-init c =
    let a = c.args in
    let b = begun a.shaper a.node a.entries _ _ _ _ (sym c.are_too_many.ensures ∙ c.if-are_too_many.false) c.find-existing.ensures c.find_column.ensures c.in-Some.is c.live_count-live.ensures
    (slots-long a.shaper.slots c.well_formed.0.1.1.0.1.0.1) (entries-long a.entries.list c.well_formed.1.1.0.1.1.0.1.0.1) in (
      b,
      rw (c.empty-2.ensures, c.empty.ensures)
          (row-start a.shaper a.node a.entries _ _ _ b c.placeholder.result c.count_with-count.result _ c.placeholder.ensures c.count_with-count.ensures refl),
      rw (c.empty-2.ensures, c.empty.ensures)
          (row_carries a.shaper a.node a.entries _ _ _ b c.placeholder.result c.count_with-count.result c.placeholder.ensures c.count_with-count.ensures),
    )

pub returns-then-index-ge-COLUMN_LIMIT : goal.returns-then-index-ge-COLUMN_LIMIT
returns-then-index-ge-COLUMN_LIMIT c =
    let v = c.loop-entry in
    let a = c.args in
    let b = v.invariant.0 in
    let bs = bare a.shaper a.node a.entries _ _ _ b in
    let h = c.loop-entry-test.true in
    row-no-room a.shaper a.node a.entries _ _ _ b (going-over bs _ (given a.entries) v.entry-index v.slots v.count v.parents v.parent_column v.need_term_line v.invariant.1 _ (entry_next a.shaper a.node a.entries _ _ _ b v.entry-index _ h) _ c.parent_column-index.ensures c.if-index-ge-COLUMN_LIMIT.true)

pub loop-entry-preserved : goal.loop-entry-preserved
loop-entry-preserved c =
    let v = c.loop-entry in
    let a = c.args in
    let b = v.invariant.0 in
    let bs = bare a.shaper a.node a.entries _ _ _ b in
    let h = c.loop-entry-test.true in (
      b,
      going_next bs _ (given a.entries) v.entry-index v.slots v.count v.parents v.parent_column v.need_term_line v.invariant.1 _ (entry_next a.shaper a.node a.entries _ _ _ b v.entry-index _ h) _ c.parent_column-index.ensures (omega (arith, c.if-index-ge-COLUMN_LIMIT.false)) _ c.count_with-count-in-loop-entry.ensures _ a.node c.entered.ensures _ c.by.ensures _ c.is_anonymous-need_term_line.ensures,
      carrying-next bs _ (given a.entries) v.entry-index v.slots v.count v.parents v.parent_column v.need_term_line v.invariant.1 _ (entry_next a.shaper a.node a.entries _ _ _ b v.entry-index _ h) _ c.parent_column-index.ensures (omega (arith, c.if-index-ge-COLUMN_LIMIT.false)) _ c.count_with-count-in-loop-entry.ensures _ a.node c.entered.ensures _ c.by.ensures _ c.is_anonymous-need_term_line.ensures _ v.invariant.2,
    )

pub loop-p-preserved : goal.loop-p-preserved
loop-p-preserved c =
    let v = c.loop-p in
    plain-next _ _ _ _ _ _ _ _ _ v.p v.cells _ _ _ _ v.invariant c.loop-p-test.true c.plain_cell-parent.ensures c.plain_cell-ancestor.ensures c.blank-blank.ensures c.shown.ensures

pub loop-k-init : goal.loop-k-init
loop-k-init c = drawing-start _ _ _ _ _ _ _ _ _ c.loop-p.p _ _ c.reach_start-k.ensures c.loop-p-test.false c.loop-p.invariant

pub loop-k-preserved : goal.loop-k-preserved
loop-k-preserved c =
    let v = c.loop-k in
    drawing-next _ _ _ _ _ _ _ _ _ v.k v.cells _ _ v.invariant (omega (arith, c.loop-k-test.true, c.reach_end-end.ensures)) c.cell.ensures c.column_before-bare.ensures

pub loop-at-init : goal.loop-at-init
loop-at-init c = (filling-start _ _ _ _ c.loop-k.invariant.fits (search rules) (rw c.empty-3.ensures), refl, refl)

pub loop-at-preserved : goal.loop-at-preserved
loop-at-preserved c =
    let v = c.loop-at in
    (filling-next _ _ _ v.at v.next.slots _ v.invariant.0 c.loop-at-test.true c.ended.ensures, v.invariant.1, v.invariant.2)

pub returns : goal.returns
returns c =
    let v = c.loop-entry in
    let a = c.args in
    let b = v.invariant.0 in
    let g = row_walked a.shaper a.node a.entries _ _ _ b _ _ _ _ _ _ v.invariant.1 c.loop-entry-test.false in
    let w = left-of v.count c.loop-at.at _ c.loop-at.next.slots (omega (arith, c.loop-at.invariant.0.upto, c.loop-at-test.false)) (omega (arith, c.loop-at.invariant.0.fits, c.loop-at.invariant.0.filled.long)) c.trimmed.ensures.within c.trimmed.ensures.left in
    row_done a.shaper a.node a.entries _ _ _ b _ _ _ _ _ g _ c.given_up-given_up.ensures _ c.unwrap_or-other.ensures _ c.exchange.ensures.after _ (rw (c.replace.ensures.after, c.replace.ensures.value) refl) _
    (c.is_parent.ensures ∙ ap is_parent c.column_before-old.ensures) _ c.new-bounds.ensures _ c.need_link_line-need_link_line.ensures _ c.loop-k.k
    (omega (arith, c.loop-k-test.false, c.reach_end-end.ensures)) c.loop-k.invariant _ _ c.is_head-is_head.ensures c.separator_line-separator_line.ensures _
    (filling-done _ _ _ c.loop-at.at c.loop-at.next.slots _ _ _ _ c.loop-at.invariant.0 c.loop-at-test.false refl refl c.loop-at.invariant.1 c.loop-at.invariant.2 refl w.0 w.1)
    v.invariant.2
