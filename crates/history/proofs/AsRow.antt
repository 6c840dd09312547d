-- A text call counts as the row call with its node and entries: where it is accepted so is the row, and the shaper after it is the row's; refused, it changes nothing.
use Prim.Native.Nat.{ℕ, zero, suc}
use mathlib.Core.Path.{◌≡◌, refl, sym, ◌∙◌}
use mathlib.Core.Bool.{Bool, true, false, cond, not, false≢true}
use mathlib.Core.List.{List}
use native.Mathlib.Omega.{arith}
use borrow.Author.Tests.{eqb-true}
use lib.Dec.{eqb, ltb}
use lib.ListN.{length}
use Rattle.render.specs.declared.render.Ancestor.{Ancestor as Entry}
use Rattle.render.specs.Mark.{is_mark}
use Rattle.render.specs.Refusals.{not_refused, mark_outside_span, message_too_long, message_byte_not_writable, output_shorter_than_lines, refusal}
use Rattle.shaper.specs.Shaper.{View}
use Rattle.placing.specs.Placing.{place}
use Rattle.row_shape.specs.Row.{RowReply, row_checks, row_answer, row}
use Rattle.glyphs.specs.Cells.{glyphs_of}
use Rattle.message.specs.Message.{message_limit, is_writable, all_of, lines_of}
use Rattle.output.specs.Output.{finish, text_of, TextView}
use Rattle.text.specs.Text.{text_lines, text_after, text_checks, text_with}
use Rattle.steps.proofs.Room.{number-told}
use Rattle.history.specs.Account.{Call, Reserve, Row, is_drawn}
use Rattle.history.specs.Ours.{TextArguments, Item, Plain, Text, call_of, text_on, is_refusal, refuses}

-- where no check holds, the row's own refusal is none
passes : (a b c z d : Bool) (r : ℕ) → eqb r 0 ≡ z → cond a mark_outside_span (cond b message_too_long (cond c message_byte_not_writable (cond (not z) r (cond d output_shorter_than_lines not_refused)))) ≡ 0 → r ≡ 0
passes true b c z d r e h = absurd (omega (arith, h))
passes false true c z d r e h = absurd (omega (arith, h))
passes false false true z d r e h = absurd (omega (arith, h))
passes false false false true d r e h = eqb-true r 0 e
passes false false false false d r e h = h

module _ (v : View) (a : TextArguments) (n : ℕ) (es : List Entry) where
  abbrev called : RowReply
  called = row v n es

  abbrev lines : List (List ℕ)
  lines = text_lines finish (glyphs_of a.renderer) a.state a.renderer called.shape a.mark (lines_of a.message) v.height

  abbrev end : TextView
  end = text_after (glyphs_of a.renderer) a.renderer called.shape a.mark (lines_of a.message) v.height

  abbrev number : ℕ
  number = refusal (text_checks a.mark a.message called (text_of lines) a.output)

  number_is : (text_on v a n es).refusal ≡ number
  unfolding text_with
  number_is = number-told number lines a.output v called.view a.state end

  pub row-accepted : (text_on v a n es).refusal ≡ 0 → called.refusal ≡ 0
  row-accepted h =
      passes (not (is_mark a.mark)) (ltb message_limit (length a.message)) (not (all_of is_writable a.message))
      (eqb called.refusal 0) (ltb (length a.output) (length (text_of lines))) called.refusal refl (sym number_is ∙ h)

  pub accepted-view : (text_on v a n es).refusal ≡ 0 → (text_on v a n es).view ≡ called.view
  unfolding text_with
  accepted-view h = let e : number ≡ 0 = sym number_is ∙ h in rw e

  pub refused-view : (k : ℕ) → (text_on v a n es).refusal ≡ suc k → (text_on v a n es).view ≡ v
  unfolding text_with
  refused-view k h = let e : number ≡ suc k = sym number_is ∙ h in rw e

-- a refused row call changes nothing
pub row-refused : (v : View) (n : ℕ) (es : List Entry) (k : ℕ) → (row v n es).refusal ≡ suc k → (row v n es).view ≡ v
unfolding row
row-refused v n es k h = go (refusal (row_checks es (place v n es))) h
  where
    go : (r : ℕ) → (row_answer r v n es (place v n es)).refusal ≡ suc k → (row_answer r v n es (place v n es)).view ≡ v
    go zero z = absurd (omega (arith, z))
    go (suc r) z = refl

-- the number that the row call of a call gives
abbrev pub row_number : View → Call → ℕ
row_number v (Reserve n) = 0
row_number v (Row n es) = (row v n es).refusal

accepted-number : (r : ℕ) → not (is_refusal r) ≡ true → r ≡ 0
accepted-number zero h = refl
accepted-number (suc r) h = absurd (false≢true h)

-- an item that is drawn counts as a row call that is accepted
pub drawn-accepted : (v : View) (k : Item) → is_drawn (call_of k) (refuses v k) ≡ true → row_number v (call_of k) ≡ 0
drawn-accepted v (Plain (Reserve n)) d = refl
drawn-accepted v (Plain (Row n es)) d = accepted-number (row v n es).refusal d
drawn-accepted v (Text t n es) d = row-accepted v t n es (accepted-number (text_on v t n es).refusal d)
