-- R-5 of document 02, about the definitions that the contracts cite: eight entries pass, "nine entries now give 3 in row, width, text and preview", and a
-- record has the same limit with a number of its own, 10.
use Rattle.std.specs.Prelude.{ℕ, zero, suc, ◌+◌, ◌≤◌, ◌≡◌, refl, ◌≢◌, true, List, [], ◌∷◌, ◌++◌, map, length, take, replicate, Some, Option}
use Rattle.render.specs.declared.render.Ancestor.{Ancestor as Entry}
use Rattle.render.specs.declared.render.Ancestor.TheVariants.{Ancestor, Parent, Anonymous}
use Rattle.render.specs.declared.types.Options.{Options}
use Rattle.render.specs.Mark.{is_mark}
use Rattle.render.specs.Refusals.{refusal}
use Rattle.shaper.specs.Shaper.{View, new_shaper, reserve}
use Rattle.placing.specs.Placing.{place}
use Rattle.row_shape.specs.Row.{no_shape, row}
use Rattle.preview.specs.Preview.{preview}
use Rattle.width.specs.Width.{width}
use Rattle.message.specs.Message.{message_limit, is_writable, all_of}
use Rattle.glyphs.specs.declared.Renderer.{Renderer}
use Rattle.glyphs.specs.declared.Renderer.TheVariants.{Curved}
use Rattle.glyphs.specs.BoxDrawing.{box_link}
use Rattle.glyphs.specs.Cells.{choice_of, glyphs_of, bytes_of}
use Rattle.output.specs.Output.{TextView, new_text}
use Rattle.text.specs.Text.{drawn_checks, text_with, text}
use Rattle.record.specs.Record.{Ready, Refused, next_record}
use Rattle.marked.specs.Marked.{plain, reservations}
use Rattle.marked.specs.MarkedListing.{m1-mark, parent, m1-record}

-- ---- entries of any kind

-- a mark and a message that text's own checks (5, 6 and 7) let pass
pub record Drawable (mark : ℕ) (message : List ℕ) : Type 0 where
  pub marks : is_mark mark ≡ true
  pub short : length message ≤ message_limit
  pub bytes : all_of is_writable message ≡ true

-- entries that give 3 on all states, whatever else is wrong behind it in 01's order; a refusal "changes no state and no output" (01)
pub record GiveThree (es : List Entry) : Type 0 where
  pub in_row : (v : View) (n : ℕ) → row v n es ≡ record { refusal = 3; shape = no_shape; view = v }
  pub in-preview : (v : View) (n : ℕ) → preview v n es ≡ record { refusal = 3; column = 0; width = 0; columns = v.columns; origins = v.origins }
  pub in-width : (v : View) (n : Option ℕ) → width v n es ≡ record { refusal = 3; width = 0 }
  pub in-text : (glyphs : ℕ → List ℕ) (v : View) (t : TextView) (q : Renderer) (n mark : ℕ) (message out : List ℕ) → Drawable mark message
      → text_with glyphs v t q n es mark message out ≡ record { refusal = 3; length = 0; measure = 0; output = out; view = v; text = t }

-- entries that give 3 on no states; a width is then given on all
pub record NeverGiveThree (es : List Entry) : Type 0 where
  pub in_row : (v : View) (n : ℕ) → (row v n es).refusal ≢ 3
  pub in-preview : (v : View) (n : ℕ) → (preview v n es).refusal ≢ 3
  pub in-width : (v : View) (n : Option ℕ) → (width v n es).refusal ≡ 0
  pub in-text : (glyphs : ℕ → List ℕ) (v : View) (t : TextView) (q : Renderer) (n mark : ℕ) (message out : List ℕ)
      → (text_with glyphs v t q n es mark message out).refusal ≢ 3

-- entries that pass on every new shaper, in a text call as far as its output has room
pub record Pass (es : List Entry) : Type 0 where
  pub in_row : (o : Options) (n : ℕ) → (row (new_shaper o).view n es).refusal ≡ 0
  pub in-preview : (o : Options) (n : ℕ) → (preview (new_shaper o).view n es).refusal ≡ 0
  pub in-width : (o : Options) (n : Option ℕ) → (width (new_shaper o).view n es).refusal ≡ 0
  pub in-text : (o : Options) (n mark : ℕ) (message : List ℕ) → Drawable mark message → refusal (drawn_checks mark message (row (new_shaper o).view n es)) ≡ 0

-- ---- eight entries and nine, closed by computing

-- n entries of a kind, each with an id of its own
abbrev pub with_own_ids : (ℕ → Entry) → ℕ → List Entry
with_own_ids kind zero = []
with_own_ids kind (suc n) = kind (100 + n) ∷ with_own_ids kind n

-- n Parent entries, each with an id of its own
abbrev pub parents : ℕ → List Entry
parents n = with_own_ids Parent n

-- n entries of each kind, and of one id
abbrev pub of_each_kind : ℕ → List (List Entry)
of_each_kind n = parents n ∷ with_own_ids Ancestor n ∷ replicate n Anonymous ∷ replicate n (Parent 7) ∷ []

-- the text call of a row without a message on a new shaper, with so much room
abbrev pub text_number : ℕ → List Entry → ℕ
text_number room es = (text plain new_text Curved 1 es m1-mark [] (replicate room 0)).refusal

-- "Nine entries now give 3 in row, width, text and preview." (02, R-5), and eight pass
pub record EightAndNine : Type 0 where
  pub row-eight : map (λ (es : List Entry). (row plain 1 es).refusal) (of_each_kind 8) ≡ 0 ∷ 0 ∷ 0 ∷ 0 ∷ []
  pub row-nine : map (λ (es : List Entry). (row plain 1 es).refusal) (of_each_kind 9) ≡ 3 ∷ 3 ∷ 3 ∷ 3 ∷ []
  pub preview-eight : map (λ (es : List Entry). (preview plain 1 es).refusal) (of_each_kind 8) ≡ 0 ∷ 0 ∷ 0 ∷ 0 ∷ []
  pub preview-nine : map (λ (es : List Entry). (preview plain 1 es).refusal) (of_each_kind 9) ≡ 3 ∷ 3 ∷ 3 ∷ 3 ∷ []
  pub width-eight : map (λ (es : List Entry). (width plain (Some 1) es).refusal) (of_each_kind 8) ≡ 0 ∷ 0 ∷ 0 ∷ 0 ∷ []
  pub width-nine : map (λ (es : List Entry). (width plain (Some 1) es).refusal) (of_each_kind 9) ≡ 3 ∷ 3 ∷ 3 ∷ 3 ∷ []
  pub text-eight : map (text_number 200) (of_each_kind 8) ≡ 0 ∷ 0 ∷ 0 ∷ 0 ∷ []
  pub text-nine : map (text_number 200) (of_each_kind 9) ≡ 3 ∷ 3 ∷ 3 ∷ 3 ∷ []

pub eight-and-nine : EightAndNine
unfolding row place width text_with box_link choice_of glyphs_of bytes_of
eight-and-nine =
    record {
      row-eight = refl;
      row-nine = refl;
      preview-eight = refl;
      preview-nine = refl;
      width-eight = refl;
      width-nine = refl;
      text-eight = refl;
      text-nine = refl;
    }

-- ---- with everything else wrong too

-- the text call of a node that no column holds on 64 reserved columns, without room
abbrev pub wrong_number : ℕ → List ℕ → List Entry → ℕ
wrong_number mark message es = (text (reservations 64) new_text Curved 99 es mark message []).refusal

-- "Checked in this order within a call": 5, 6, 7, 3, 4, 8 (01, "Where a call turns back"), each with all behind it wrong
pub record InOrder : Type 0 where
  pub mark-first : wrong_number 0x20 (replicate 513 0x7f) (parents 9) ≡ 5
  pub then-length : wrong_number m1-mark (replicate 513 0x7f) (parents 9) ≡ 6
  pub then-bytes : wrong_number m1-mark (replicate 512 0x7f) (parents 9) ≡ 7
  pub then-entries : wrong_number m1-mark [] (parents 9) ≡ 3
  pub then-cells : wrong_number m1-mark [] (parents 8) ≡ 4
  pub then-room : text_number 0 (parents 8) ≡ 8
  -- 3 before 4 in the row call and the preview; the width call has no 4
  pub row-entries : (row (reservations 64) 99 (parents 9)).refusal ≡ 3
  pub row-cells : (row (reservations 64) 99 (parents 8)).refusal ≡ 4
  pub preview-entries : (preview (reservations 64) 99 (parents 9)).refusal ≡ 3
  pub preview-cells : (preview (reservations 64) 99 (parents 8)).refusal ≡ 4
  pub width-entries : (width (reservations 64) (Some 99) (parents 9)).refusal ≡ 3
  pub width-passes : (width (reservations 64) (Some 99) (parents 8)).refusal ≡ 0

pub in_order : InOrder
unfolding reserve row place width text_with box_link choice_of glyphs_of bytes_of
in_order =
    record {
      mark-first = refl;
      then-length = refl;
      then-bytes = refl;
      then-entries = refl;
      then-cells = refl;
      then-room = refl;
      row-entries = refl;
      row-cells = refl;
      preview-entries = refl;
      preview-cells = refl;
      width-entries = refl;
      width-passes = refl;
    }

-- ---- the greatest width

-- a shaper made by hand: 64 columns, staggering, and the previous node's column to their right
abbrev pub past_the_columns : View
past_the_columns =
    record { columns = (reservations 64).columns; origins = (reservations 64).origins; previous = Some 64; height = 1; stagger = true; style = plain.style }

-- on at most 64 columns the width call gives at most 73, and 72 where the previous node's column is not the 65th, which no accepted row makes it
pub record GreatestWidth : Type 0 where
  pub most : (v : View) (n : Option ℕ) (es : List Entry) → length v.columns ≤ 64 → (width v n es).width ≤ 73
  pub reached : (width past_the_columns (Some 99) (parents 8)).width ≡ 73
  pub drawn-most : (v : View) (n : Option ℕ) (es : List Entry) → length v.columns ≤ 64 → v.previous ≢ Some 64 → (width v n es).width ≤ 72
  pub drawn-reached : (width (reservations 64) (Some 99) (parents 8)).width ≡ 72
  pub drawn : (v : View) (n : ℕ) (es : List Entry) → (row v n es).refusal ≡ 0 → (row v n es).view.previous ≢ Some 64

-- ---- a record

-- a record that says it has n parents, its eight entries Parent 7
abbrev pub saying_parents : ℕ → List ℕ
saying_parents n = m1-record 5 n (parent 7 ++ (parent 7 ++ (parent 7 ++ (parent 7 ++ (parent 7 ++ (parent 7 ++ (parent 7 ++ parent 7)))))))

-- and one whose first entry has the kind 3
abbrev pub with_other_kind : ℕ → List ℕ
with_other_kind n = m1-record 5 n (3 ∷ [])

-- "so a row and a record have one limit" (02, R-5): a record has its own number for it, 10 (01), behind 9 and before 11
pub record OfRecords : Type 0 where
  pub eight : (next_record (saying_parents 8)).outcome ≡ Ready
  pub eight-entries : (next_record (saying_parents 8)).view.entries ≡ replicate 8 (Parent 7)
  pub nine : (next_record (saying_parents 9)).outcome ≡ Refused 10
  pub nine-entries : (next_record (saying_parents 9)).view.entries ≡ []
  pub nine-first : (next_record (with_other_kind 9)).outcome ≡ Refused 10
  pub cut-first : (next_record (take 127 (with_other_kind 9))).outcome ≡ Refused 9

pub of-records : OfRecords
unfolding next_record
of-records = record { eight = refl; eight-entries = refl; nine = refl; nine-entries = refl; nine-first = refl; cut-first = refl }
