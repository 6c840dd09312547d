-- The promises of the lent calls are false of wrong answers: answers shown right in LentCase or LentTextCase, with one thing changed; where a refusal is what is wrong,
-- its number and the shaper that it leaves. Quoted words are 01's, or 02's where that is said.
use Prim.Native.Nat.{ℕ, ◌≤◌}
use mathlib.Core.Path.{◌≡◌, refl, ap}
use mathlib.Core.List.{List, [], ◌∷◌}
use mathlib.Core.Option.{Option, some, some-injective}
use native.Mathlib.Omega.{arith}
use lib.ListN.{length, get_or, set}
use Rattle.std.specs.Prelude.{Some, None}
use Rattle.column.specs.Columns.{rank, id_of, origin_at, empty_slot}
use Rattle.column.specs.declared.Column.TheVariants as column
use Rattle.column.specs.declared.Slot.{Slot}
use Rattle.column.specs.declared.Started.{Started}
use Rattle.column.specs.declared.Started.TheVariants.{NotWaiting, Unnamed, By}
use Rattle.render.specs.declared.render.Ancestor.TheVariants as entry
use Rattle.render.specs.Refusals.{no_column_left, node_line_too_wide}
use Rattle.shaper.specs.declared.Shaper.{Shaper}
use Rattle.shaper.specs.Shaper.{Reply, reserve, fresh, reserved_slot}
use Rattle.placing.specs.Placing.{place}
use Rattle.row_shape.specs.Row.{RowReply, row}
use Rattle.preview.specs.Preview.{PreviewReply}
use Rattle.width.specs.Width.{width, WidthAnswer}
use Rattle.glyphs.specs.Cells.{choice_of, bytes_of}
use Rattle.output.specs.declared.TextState.{TextState}
use Rattle.output.specs.Measure.{measure_of}
use Rattle.text.specs.Text.{TextReply, text_with}
use Rattle.lineage.specs.Promises.{LentReserves, LentRows, LentPreview, LentWidth, LentOrigin, LengthAnswer}
use Rattle.history.specs.LentCalls.{TextRun, TextRan, Met}
use Rattle.history.proofs.LentCase.{options, holding, reserved, m7-answer, full, last_empty, showing, m10-shaper, m10-entries, m10-after, full-after, counting, beyond}
use Rattle.history.proofs.LentTextCase.{row-entries, row-answer, after_text, at-end, too_many, too-many-answer, too_short, flushing}

-- a shaper whose slot i has been made to hold the id n as reserved, and nothing else been changed
abbrev stored : Shaper → ℕ → ℕ → Shaper
stored s i n =
    record {
      slots = set s.slots i (reserved_slot n);
      count = s.count;
      previous_node_column = s.previous_node_column;
      options = s.options;
    }

-- whether a query gave a node, as a number
abbrev answers : Started → ℕ
answers NotWaiting = 0
answers Unnamed = 0
answers (By m) = 1

-- ---- rows

-- an accepted row, its shape true, that leaves the shaper as it was (right: LentCase.rows)
pub not-row-unstored : LentRows reserved 9 [] reserved m7-answer → ⊥
unfolding row place
not-row-unstored k = let z : ◌≡◌ {A = ℕ} 1 0 = ap (λ (a : RowReply). length a.view.columns) k.reply in omega arith

-- "a row that leaves the columns untouched": the previous node column is right (right: LentTextCase.row-accepted)
pub not-row-columns-untouched : LentRows (fresh options) 1 row-entries (holding [] (Some 0)) row-answer → ⊥
unfolding row place
not-row-columns-untouched k = let z : ◌≡◌ {A = ℕ} 0 2 = ap (λ (a : RowReply). length a.view.columns) k.reply in omega arith

-- the columns are right, and carry no node: "carries the node in whose accepted row its id was first named" (02, R-3; right: LentTextCase.row-accepted)
pub not-row-without-origins : LentRows (fresh options) 1 row-entries (holding (column.Parent 2 ∷ column.Ancestor 3 ∷ []) (Some 0)) row-answer → ⊥
unfolding row place
not-row-without-origins k = let z : ◌≡◌ {A = ℕ} 0 1 = ap (λ (a : RowReply). origin_at a.view.origins 0) k.reply in omega arith

-- a shaper with a node in slot i that does not count there
abbrev left_in : Shaper → ℕ → Shaper
left_in s i = record { slots = set s.slots i (record { column = column.Empty; origin = 7 }); count = s.count; previous_node_column = s.previous_node_column; options = s.options }

-- an accepted row that leaves a node in an Empty slot behind the columns (right: LentCase.rows)
pub not-origin-left-behind : LentRows reserved 9 [] (left_in (holding [] (Some 0)) 5) m7-answer → ⊥
unfolding row place reserve
not-origin-left-behind k = let z : ◌≡◌ {A = ℕ} 7 0 = (k.rest refl).origins 5 in omega arith

-- the rank of the column in slot i
abbrev rank_at : ℕ → Shaper → ℕ
rank_at i s = rank (get_or s.slots i empty_slot).column

-- "A refusal gives its number .. and changes no state": a row with nine entries that gives 3 and stores (right: LentTextCase.row-refused)
pub not-refused-row-stored : LentRows after_text 3 too_many (stored after_text 0 4) too-many-answer → ⊥
not-refused-row-stored k = let z : ◌≡◌ {A = ℕ} 2 0 = ap (rank_at 0) (k.refused (λ e. omega (arith, e))) in omega arith

-- the same behind the columns, where no definition reads it
pub not-refused-row-stored-behind : LentRows after_text 3 too_many (stored after_text 2 4) too-many-answer → ⊥
not-refused-row-stored-behind k = let z : ◌≡◌ {A = ℕ} 2 0 = ap (rank_at 2) (k.refused (λ e. omega (arith, e))) in omega arith

-- ---- reservations

-- an accepted reservation that stores nothing: "else it becomes Reserved in the first Empty column or a new last one" (right: LentCase.reserves)
pub not-reservation-unstored : LentReserves (fresh options) 9 (fresh options) 0 → ⊥
unfolding reserve
not-reservation-unstored k = let z : ◌≡◌ {A = ℕ} 0 1 = ap (λ (a : Reply). length a.view.columns) k.reply in omega arith

-- "no column left" with columns free: there are no columns yet (right: LentCase.reserves)
pub not-refused-with-columns-free : LentReserves (fresh options) 9 (fresh options) no_column_left → ⊥
unfolding reserve
not-refused-with-columns-free k = let z : ◌≡◌ {A = ℕ} 2 0 = ap (λ (a : Reply). a.refusal) k.reply in omega arith

-- the same where one of 64 columns is Empty (right: LentCase.last-empty-reserves)
pub not-refused-with-an-empty-column : LentReserves last_empty 64 last_empty no_column_left → ⊥
unfolding reserve
not-refused-with-an-empty-column k = let z : ◌≡◌ {A = ℕ} 2 0 = ap (λ (a : Reply). a.refusal) k.reply in omega arith

-- the id in slot i
abbrev id_at : ℕ → Shaper → Option ℕ
id_at i s = id_of (get_or s.slots i empty_slot).column

-- "A refusal gives its number .. and changes no state": a reservation with 64 columns taken that gives 2 and stores (right: LentCase.full-refuses)
pub not-refused-reservation-stored : LentReserves full 64 (stored full 63 64) no_column_left → ⊥
not-refused-reservation-stored k =
    let e : ◌≡◌ {A = Option ℕ} (some 64) (some 63) = ap (id_at 63) (k.refused (λ e. omega (arith, e))) in
    let z : ◌≡◌ {A = ℕ} 64 63 = some-injective 64 63 e in
    omega arith

-- ---- widths

-- a width without a node as if one were there (right: LentCase.width-without-node; with the node LentCase.width-with-node)
pub not-absent-node-counted : LentWidth (fresh options) None [] (record { refusal = 0; width = 1 }) → ⊥
unfolding width
not-absent-node-counted k = let z : ◌≡◌ {A = ℕ} 1 0 = ap (λ (a : WidthAnswer). a.width) k in omega arith

-- "a width that is invented": one more than the columns (right: LentCase.width-with-held-node)
pub not-width-invented : LentWidth reserved (Some 9) [] (record { refusal = 0; width = 2 }) → ⊥
unfolding width
not-width-invented k = let z : ◌≡◌ {A = ℕ} 2 1 = ap (λ (a : WidthAnswer). a.width) k in omega arith

-- ---- previews

-- a preview with the width call's figure, which M10 has as 1 (right: LentCase.m10-previewed)
pub not-the-width-calls-figure : LentPreview m10-shaper 7 m10-entries (showing 0 0 1 m10-after) → ⊥
unfolding row place
not-the-width-calls-figure k = let z : ◌≡◌ {A = ℕ} 1 2 = ap (λ (a : PreviewReply). a.width) k.reply in omega arith

-- "columns afterwards" (02, R-1): a preview that gives the columns before the row (right: LentCase.m10-previewed)
pub not-preview-of-the-columns-before : LentPreview m10-shaper 7 m10-entries (showing 0 0 2 m10-shaper) → ⊥
unfolding row place
not-preview-of-the-columns-before k = let z : ◌≡◌ {A = ℕ} 1 2 = ap (λ (a : PreviewReply). length a.columns) k.reply in omega arith

-- a preview that leaves an id behind the columns (right: LentCase.m10-previewed)
pub not-preview-stored-behind : LentPreview m10-shaper 7 m10-entries (showing 0 0 2 (stored m10-after 2 4)) → ⊥
not-preview-stored-behind k = let z : ◌≡◌ {A = ℕ} 2 0 = ap (λ (s : Slot). rank s.column) ((k.rest refl).past 2 (omega arith)) in omega arith

-- a preview that counts one column more than the 64 that it shows, though a count of 65 is read as 64 (right: LentCase.full-previewed)
pub not-preview-counted-beyond : LentPreview full 0 (record { ancestor = entry.Parent 0 } ∷ []) (showing 0 0 64 (counting 65 full-after)) → ⊥
not-preview-counted-beyond k = let z : 65 ≤ 64 = k.fits refl in omega (arith, z)

-- a refused preview that shows a column (right: LentCase.beyond-refused)
pub not-refused-preview-shown : LentPreview beyond 64 [] (showing node_line_too_wide 1 0 beyond) → ⊥
unfolding row place
not-refused-preview-shown k = let z : ◌≡◌ {A = ℕ} 1 0 = ap (λ (a : PreviewReply). a.column) k.reply in omega arith

-- a refused preview that gives another count than the shaper's, though both are read as 64 (right: LentCase.beyond-refused)
pub not-refused-preview-counted : LentPreview beyond 64 [] (showing node_line_too_wide 0 0 full) → ⊥
not-refused-preview-counted k = let z : ◌≡◌ {A = ℕ} 64 65 = (k.refused (λ e. omega (arith, e))).1 in omega arith

-- ---- queries

-- a node for an id that was only reserved (right: LentCase.only-reserved)
pub not-started-when-reserved : LentOrigin reserved 9 (By 9) → ⊥
not-started-when-reserved k = let z : ◌≡◌ {A = ℕ} 1 0 = ap answers k in omega arith

-- none for an id that its own row named (right: LentCase.m10-started)
pub not-unnamed-when-named : LentOrigin m10-after 7 Unnamed → ⊥
not-unnamed-when-named k = let z : ◌≡◌ {A = ℕ} 0 1 = ap answers k in omega arith

-- ---- texts

-- the same text call with another state and output at exit, and another answer
abbrev giving : TextRun → TextState → List ℕ → LengthAnswer → TextRun
giving a t' out' r =
    record {
      state = a.state;
      renderer = a.renderer;
      node = a.node;
      entries = a.entries;
      mark = a.mark;
      message = a.message;
      output = a.output;
      state' = t';
      output' = out';
      answer = r;
    }

-- "Success writes a prefix of the output and nothing behind it": the byte behind the end is another (right: LentTextCase.text-flushes)
pub not-written-behind : Met after_text (TextRan (giving flushing flushing.state' (set flushing.output' 11 0) flushing.answer) at-end) → ⊥
unfolding row place text_with choice_of bytes_of
not-written-behind k = let z : ◌≡◌ {A = ℕ} 0 0xab = ap (λ (a : TextReply). get_or a.output 11 0) k.reply in omega arith

-- the text state at exit with the queued line of the one at entry
abbrev queue-left : TextState
queue-left =
    record {
      queued_pad_line = flushing.state.queued_pad_line;
      queued_length = flushing.state.queued_length;
      is_queued = flushing.state.is_queued;
      row_height = flushing.state'.row_height;
    }

-- a text call that leaves the queued line (`flush_queued_pad_line` takes it; right: LentTextCase.text-flushes)
pub not-queue-left : Met after_text (TextRan (giving flushing queue-left flushing.output' flushing.answer) at-end) → ⊥
unfolding row place text_with choice_of bytes_of
not-queue-left k = let z : ◌≡◌ {A = ℕ} 1 0 = ap (λ (a : TextReply). length a.text.queued) k.reply in omega arith

-- "A refusal .. changes no state and no output": one byte of the output is another (right: LentTextCase.text-refused)
pub not-refused-text-written : Met after_text (TextRan (giving too_short too_short.state' (set too_short.output' 0 0x20) too_short.answer) after_text) → ⊥
not-refused-text-written k = let z : ◌≡◌ {A = ℕ} 0x20 0xa0 = ap (λ (out : List ℕ). get_or out 0 0) (k.refused (λ e. omega (arith, e))).2 in omega arith

-- "a measure that is [invented]": one more than the longest line's cells (right: LentTextCase.text-flushes)
pub not-measure-invented :
    Met after_text (TextRan (giving flushing flushing.state' flushing.output' (record { refusal = 0; length = flushing.answer.length; measure = 7 })) at-end) → ⊥
unfolding row place text_with choice_of bytes_of measure_of
not-measure-invented k = let z : ◌≡◌ {A = ℕ} 7 6 = ap (λ (a : TextReply). a.measure) k.reply in omega arith
