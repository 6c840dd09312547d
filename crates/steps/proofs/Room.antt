-- The programs' outputs are long enough: a record is never refused for want of room (8).
use mathlib.Core.Path.{◌≡◌, refl, sym, ap, ◌∙◌}
use mathlib.Core.Logic.{◌≢◌}
use mathlib.Core.Bool.{Bool, true, false, cond, not}
use mathlib.Core.List.{List, [], ◌∷◌, map, append-nil}
use Prim.Native.Nat.{ℕ, zero, suc, ◌≤◌, zero-le}
use native.Mathlib.Omega.{arith}
use borrow.Author.Tests.{le-ltb, eqb-true}
use lib.Dec.{ltb, eqb}
use lib.ListN.{length, take, length-append, length-take}
use Rattle.column.specs.Columns.{column_limit}
use Rattle.render.specs.declared.render.Ancestor.{Ancestor as Entry}
use Rattle.render.specs.declared.types.DashStyle.{DashStyle}
use Rattle.render.specs.declared.types.RowShape.{RowShape}
use Rattle.render.specs.Entries.{is_too_many}
use Rattle.render.specs.Mark.{is_mark}
use Rattle.render.specs.Refusals.{not_refused, mark_outside_span, message_too_long, message_byte_not_writable, output_shorter_than_lines, refusal}
use Rattle.shaper.specs.Shaper.{View, height_limit}
use Rattle.placing.specs.Placing.{Placed, place}
use Rattle.row_shape.specs.Row.{RowReply, row_answer, row_checks, row}
use Rattle.row_shape.proofs.RowFits.{row_fits}
use Rattle.slices.specs.Characters.{newline}
use Rattle.glyphs.specs.declared.Renderer.TheVariants.{Curved}
use Rattle.glyphs.specs.Cells.{glyphs_of}
use Rattle.prefix_lines.specs.Listing.{listing_bytes}
use Rattle.message.specs.Message.{message_limit, is_writable, all_of, lines_of}
use Rattle.message.proofs.MessageLaws.{trim-length, lines-few}
use Rattle.output.specs.declared.TextState.{TextState}
use Rattle.output.specs.Output.{queue_limit, finish, ended, text_of, TextView, text_view_of, flushed}
use Rattle.text.specs.Text.{text_lines, text_after, drawn_checks, text_checks, text_answer, text_with, text}
use Rattle.record.specs.Record.{message_room}
use Rattle.steps.specs.Files.{page_room, listing_room}
use Rattle.steps.proofs.Lengths.{curved-six, curved-four, text-short, lines-within, listing-short}

-- ---- the row call never gives 8
row_number : (v : View) (n : ℕ) (es : List Entry) (p : Placed) (many wide : Bool) → is_too_many es ≡ many → ltb column_limit (length p.walked) ≡ wide
    → (row_answer (refusal (row_checks es p)) v n es p).refusal ≤ 4
row_number v n es p true wide m e = rw m (omega arith)
row_number v n es p false true m e = rw (m, e) (omega arith)
row_number v n es p false false m e = rw (m, e) (omega arith)

row_small : (v : View) (n : ℕ) (es : List Entry) → (row v n es).refusal ≤ 4
unfolding row
row_small v n es = row_number v n es (place v n es) (is_too_many es) (ltb column_limit (length (place v n es).walked)) refl refl

-- ---- the page: a record's message, and the page program's output
numbers : (a b c z d : Bool) (r : ℕ) → eqb r 0 ≡ z → (z ≡ true → d ≡ false)
    → cond a mark_outside_span (cond b message_too_long (cond c message_byte_not_writable (cond (not z) r (cond d output_shorter_than_lines not_refused))))
    ≡ cond a mark_outside_span (cond b message_too_long (cond c message_byte_not_writable (cond (not z) r not_refused)))
numbers true b c z d r e h = refl
numbers false true c z d r e h = refl
numbers false false true z d r e h = refl
numbers false false false false d r e h = refl
numbers false false false true d r e h = ap (λ (x : Bool). cond x output_shorter_than_lines not_refused) (h refl)

not_eight : (a b c z : Bool) (r : ℕ) → r ≤ 4
    → cond a mark_outside_span (cond b message_too_long (cond c message_byte_not_writable (cond (not z) r not_refused))) ≢ output_shorter_than_lines
not_eight true b c z r s k = omega (arith, k)
not_eight false true c z r s k = omega (arith, k)
not_eight false false true z r s k = omega (arith, k)
not_eight false false false false r s k = omega (arith, k, s)
not_eight false false false true r s k = omega (arith, k)

-- the text call's answer has the number that its checks give
pub number-told : (k : ℕ) (ls : List (List ℕ)) (out : List ℕ) (v w : View) (t u : TextView) → (text_answer k ls out v w t u).refusal ≡ k
number-told zero ls out v w t u = refl
number-told (suc k) ls out v w t u = refl

-- what is queued before a call has at most 512 bytes, and its end
abbrev pub QueueShort : TextView → Type 0
QueueShort t = length (text_of (flushed finish t)) ≤ 513

-- each queue that a struct can hold is so short
pub struct-short : (t : TextState) → length t.queued_pad_line ≡ queue_limit → QueueShort (text_view_of t)
struct-short t long = go t.is_queued
  where
    line : List ℕ
    line = take t.queued_length t.queued_pad_line

    go : (b : Bool) → length (text_of (map finish (cond b (line ∷ []) []))) ≤ 513
    go true =
        rw (append-nil (ended (finish line)), length-append (finish line) (newline ∷ []))
        (omega (arith, long, trim-length line, length-take t.queued_length t.queued_pad_line))
    go false = zero-le

module _ (v : View) (t : TextView) (few : QueueShort t) (n : ℕ) (es : List Entry) (mark : ℕ) (m out : List ℕ) where
  abbrev rowed : RowReply
  rowed = row v n es

  abbrev lines : List (List ℕ)
  lines = text_lines finish (glyphs_of Curved) t Curved rowed.shape mark (lines_of m) v.height

  module _ (h : v.height ≤ height_limit) (k : length m ≤ message_room) (o : page_room ≤ length out) where
    pub has_room : rowed.refusal ≡ 0 → length (text_of lines) ≤ length out
    has_room e =
        let d : DashStyle = rowed.shape.style.dash_style in
        omega (
          arith,
          text-short finish trim-length (glyphs_of Curved) Curved rowed.shape mark 6 4 (curved-six d mark) (curved-four d mark) (row_fits v n es e) t (lines_of m) v.height few,
          lines-few m,
          lines-within m,
        )

    -- the text call refuses what it refuses on an output of any length
    pub same-refusal : refusal (text_checks mark m rowed (text_of lines) out) ≡ refusal (drawn_checks mark m rowed)
    same-refusal =
        numbers (not (is_mark mark)) (ltb message_limit (length m)) (not (all_of is_writable m)) (eqb rowed.refusal 0) (ltb (length out) (length (text_of lines))) rowed.refusal refl
        (λ z. le-ltb (length out) (length (text_of lines)) (has_room (eqb-true rowed.refusal 0 z)))

    pub page-has-room : (text v t Curved n es mark m out).refusal ≢ output_shorter_than_lines
    unfolding text_with
    page-has-room e =
        not_eight (not (is_mark mark)) (ltb message_limit (length m)) (not (all_of is_writable m)) (eqb rowed.refusal 0) rowed.refusal (row_small v n es)
        (sym same-refusal
        ∙ sym (number-told (refusal (text_checks mark m rowed (text_of lines) out)) lines out v rowed.view t (text_after (glyphs_of Curved) Curved rowed.shape mark (lines_of m) v.height))
        ∙ e)

-- ---- the listing
pub listing-has-room : (g : RowShape) (mark : ℕ) (out : List ℕ) → g.width ≤ column_limit → listing_room ≤ length out → ltb (length out) (length (listing_bytes g mark)) ≡ false
listing-has-room g mark out w h = le-ltb (length out) (length (listing_bytes g mark)) (omega (arith, listing-short g mark))
