-- R-5 of document 02 of entries of any kind: more than eight give 3 in every call, at most eight never do, and pass on every new shaper.
use Prim.Native.Nat.{ℕ, ◌+◌, ◌<◌, ◌≤◌}
use mathlib.Core.Path.{◌≡◌, refl, sym, ap, ◌∙◌}
use mathlib.Core.Logic.{◌≢◌}
use mathlib.Core.Bool.{Bool, true, false, cond, not}
use mathlib.Core.List.{List, [], ◌∷◌}
use native.Mathlib.Omega.{arith}
use lib.Dec.{ltb, eqb}
use lib.ListN.{length}
use borrow.Author.Tests.{lt-ltb, le-ltb}
use Rattle.std.specs.Prelude.{None, Option}
use Rattle.column.specs.declared.Column.{Column}
use Rattle.column.specs.declared.Column.TheVariants.{Empty}
use Rattle.column.specs.Columns.{column_limit, merge, at, put}
use Rattle.column.proofs.Positions.{length-put}
use Rattle.render.specs.declared.render.Ancestor.{Ancestor as Entry}
use Rattle.render.specs.declared.types.Options.{Options}
use Rattle.render.specs.Entries.{entry_limit}
use Rattle.render.specs.Mark.{is_mark}
use Rattle.render.specs.Refusals.{not_refused, mark_outside_span, message_too_long, message_byte_not_writable, output_shorter_than_lines, refusal}
use Rattle.shaper.specs.Shaper.{height_limit, View, new_shaper}
use Rattle.shaper.specs.NodeColumn.{dense, node_column}
use Rattle.placing.specs.Placing.{column_of, column_of_parent, enter, walk, place}
use Rattle.placing.proofs.PlacingLaws.{parent-column-within}
use Rattle.row_shape.specs.Row.{RowReply, row}
use Rattle.width.specs.Width.{width}
use Rattle.message.specs.Message.{message_limit, is_writable, all_of, lines_of}
use Rattle.glyphs.specs.declared.Renderer.{Renderer}
use Rattle.output.specs.Output.{finish, text_of, TextView}
use Rattle.text.specs.Text.{text_lines, text_after, text_checks, text_with}
use Rattle.steps.proofs.Room.{number-told}
use Rattle.marked.specs.EntryCounts.{GiveThree, NeverGiveThree, Pass}

-- ---- more than eight

module _ (es : List Entry) (many : 8 < length es) where
  too_many : ltb entry_limit (length es) ≡ true
  too_many = lt-ltb entry_limit (length es) many

  -- more than eight entries of any kind give 3 in row, preview, width and text
  pub above-eight : GiveThree es
  unfolding row width text_with
  above-eight =
      record {
        in_row = λ v n. rw too_many refl;
        in-preview = λ v n. rw too_many refl;
        in-width = λ v n. rw too_many refl;
        in-text = λ glyphs v t q n mark message out d. rw (d.marks, le-ltb message_limit (length message) d.short, d.bytes, too_many) refl;
      }

-- ---- at most eight

-- an entry takes at most one more column
walk-few : (c : ℕ) (es : List Entry) (cs : List Column) → length (walk c es cs) ≤ length cs + length es
walk-few c [] cs = omega arith
walk-few c (e ∷ es) cs =
    omega (arith, walk-few c es (enter c e cs), parent-column-within c e cs, length-put cs (column_of_parent c e cs) (merge (at cs (column_of_parent c e cs)) (column_of e)))

-- a new shaper, a refused one too, has no columns and no previous node
pub new-bare : (o : Options) → ((new_shaper o).view.columns ≡ []) × ((new_shaper o).view.previous ≡ None)
new-bare o = go (ltb height_limit o.min_row_height) refl
  where
    go : (b : Bool) → ltb height_limit o.min_row_height ≡ b → ((new_shaper o).view.columns ≡ []) × ((new_shaper o).view.previous ≡ None)
    go true q = (rw q, rw q)
    go false q = (rw q, rw q)

-- its first node stands in column 0
node-first : (v : View) (n : ℕ) → v.columns ≡ [] → v.previous ≡ None → node_column v n ≡ 0
node-first v n e p = go (dense v) refl
  where
    go : (b : Bool) → dense v ≡ b → node_column v n ≡ 0
    go true q = rw (e, q, p)
    go false q = rw (e, q)

-- no check of the text call's own has the number 3
text-number : (a b c z d : Bool) (r : ℕ) → r ≢ 3
    → cond a mark_outside_span (cond b message_too_long (cond c message_byte_not_writable (cond (not z) r (cond d output_shorter_than_lines not_refused)))) ≢ 3
text-number true b c z d r k h = omega (arith, h)
text-number false true c z d r k h = omega (arith, h)
text-number false false true z d r k h = omega (arith, h)
text-number false false false false d r k h = k h
text-number false false false true true r k h = omega (arith, h)
text-number false false false true false r k h = omega (arith, h)

module _ (es : List Entry) (few : length es ≤ 8) where
  not-many : ltb entry_limit (length es) ≡ false
  not-many = le-ltb entry_limit (length es) few

  -- the row call's number is that of its second check, or none
  row_number : (v : View) (n : ℕ) → (row v n es).refusal ≢ 3
  unfolding row
  row_number v n = go (ltb column_limit (length (place v n es).walked)) refl
    where
      go : (b : Bool) → ltb column_limit (length (place v n es).walked) ≡ b → (row v n es).refusal ≢ 3
      go true e h = let z : ◌≡◌ {A = ℕ} 4 3 = rw (not-many, e) at h in omega arith
      go false e h = let z : ◌≡◌ {A = ℕ} 0 3 = rw (not-many, e) at h in omega arith

  -- the width call has no other check
  width-given : (v : View) (n : Option ℕ) → (width v n es).refusal ≡ 0
  unfolding width
  width-given v n = rw not-many refl

  -- the text call's number is that of a check of its own, the row call's, or none
  text-call : (glyphs : ℕ → List ℕ) (v : View) (t : TextView) (q : Renderer) (n mark : ℕ) (message out : List ℕ)
      → (text_with glyphs v t q n es mark message out).refusal ≢ 3
  unfolding text_with
  text-call glyphs v t q n mark message out h =
      let r : RowReply = row v n es in
      let ms : List (List ℕ) = lines_of message in
      let ls : List (List ℕ) = text_lines finish glyphs t q r.shape mark ms v.height in
      let told = number-told (refusal (text_checks mark message r (text_of ls) out)) ls out v r.view t (text_after glyphs q r.shape mark ms v.height) in
      text-number (not (is_mark mark)) (ltb message_limit (length message)) (not (all_of is_writable message)) (eqb r.refusal 0)
      (ltb (length out) (length (text_of ls))) r.refusal (row_number v n) (sym told ∙ h)

  -- at most eight entries of any kind give 3 on no states
  pub up-to-eight : NeverGiveThree es
  up-to-eight =
      record {
        in_row = row_number;
        in-preview = row_number;
        in-width = width-given;
        in-text = text-call;
      }

  -- a row on a new shaper has at most nine cells
  row-passes : (o : Options) (n : ℕ) → (row (new_shaper o).view n es).refusal ≡ 0
  unfolding row place
  row-passes o n = rw (not-many, le-ltb column_limit (length (place v n es).walked) within) refl
    where
      v : View
      v = (new_shaper o).view

      c : ℕ
      c = node_column v n

      within : length (walk c es (put v.columns c Empty)) ≤ column_limit
      within =
          let bare = new-bare o in
          omega (arith, few, walk-few c es (put v.columns c Empty), length-put v.columns c Empty, ap length bare.0, node-first v n bare.0 bare.1)

  -- at most eight entries of any kind pass on every new shaper
  pub eight-pass : Pass es
  eight-pass =
      record {
        in_row = row-passes;
        in-preview = row-passes;
        in-width = λ o. width-given (new_shaper o).view;
        in-text = λ o n mark message d. rw (d.marks, le-ltb message_limit (length message) d.short, d.bytes, row-passes o n) refl;
      }
