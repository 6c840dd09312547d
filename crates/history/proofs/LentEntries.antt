-- R-5 of document 02 of the lent calls: a lent list of more than eight entries of any kind gives 3 in row, preview, width and text, and what was lent is as it was.
use Prim.Native.Nat.{ℕ, ◌<◌}
use mathlib.Core.Path.{◌≡◌, ap, ◌∙◌}
use mathlib.Core.List.{List}
use native.Mathlib.Omega.{arith}
use lib.ListN.{length, length-map}
use Rattle.std.specs.Prelude.{Option}
use Rattle.render.specs.declared.render.Entry.{Entry}
use Rattle.shaper.specs.declared.Shaper.{Shaper}
use Rattle.shaper.specs.Shaper.{view_of}
use Rattle.row_shape.specs.Row.{RowReply, no_shape}
use Rattle.preview.specs.Promises.{PreviewAnswer}
use Rattle.width.specs.Width.{WidthAnswer}
use Rattle.preview.specs.Preview.{PreviewReply}
use Rattle.glyphs.specs.declared.Renderer.{Renderer}
use Rattle.glyphs.specs.Cells.{glyphs_of}
use Rattle.output.specs.declared.TextState.{TextState}
use Rattle.output.specs.Output.{text_view_of}
use Rattle.text.specs.Text.{TextReply}
use Rattle.marked.specs.EntryCounts.{Drawable, GiveThree}
use Rattle.marked.proofs.FewEntries.{above-eight}
use Rattle.lineage.specs.Promises.{ancestors, LentRows, LentPreview, LentWidth, LentTexts, ShapeAnswer, LengthAnswer}

module _ (l : List Entry) (many : 8 < length l) where
  three : GiveThree (ancestors l)
  three = above-eight (ancestors l) (omega (arith, many, length-map l (λ (e : Entry). e.ancestor)))

  -- the row call
  pub lent-row-three : (s s' : Shaper) (n : ℕ) (r : ShapeAnswer) → LentRows s n l s' r → (r.refusal ≡ 3) × (r.shape ≡ no_shape) × (s' ≡ s)
  lent-row-three s s' n r k =
      let e = k.reply ∙ three.in_row (view_of s) n in
      let number : r.refusal ≡ 3 = ap (λ (x : RowReply). x.refusal) e in
      (number, ap (λ (x : RowReply). x.shape) e, k.refused (λ z. omega (arith, number, z)))

  -- the preview
  pub lent-preview-three : (s : Shaper) (n : ℕ) (r : PreviewAnswer) → LentPreview s n l r
      → (r.refusal ≡ 3) × (r.node_column ≡ 0) × (r.width ≡ 0) × (r.slots ≡ s.slots) × (r.count ≡ s.count)
  lent-preview-three s n r k =
      let e = k.reply ∙ three.in-preview (view_of s) n in
      let number : r.refusal ≡ 3 = ap (λ (x : PreviewReply). x.refusal) e in
      let same = k.refused (λ z. omega (arith, number, z)) in
      (number, ap (λ (x : PreviewReply). x.column) e, ap (λ (x : PreviewReply). x.width) e, same.0, same.1)

  -- the width call
  pub lent-width-three : (s : Shaper) (n : Option ℕ) (r : WidthAnswer) → LentWidth s n l r → r ≡ record { refusal = 3; width = 0 }
  lent-width-three s n r k = k ∙ three.in-width (view_of s) n

  -- the text call, with a mark and a message that pass
  pub lent-text-three : (s s' : Shaper) (t t' : TextState) (q : Renderer) (n mark : ℕ) (message out out' : List ℕ) (r : LengthAnswer)
      → LentTexts s t q n l mark message out s' t' out' r → Drawable mark message
      → (r.refusal ≡ 3) × (r.length ≡ 0) × (r.measure ≡ 0) × (s' ≡ s) × (t' ≡ t) × (out' ≡ out)
  lent-text-three s s' t t' q n mark message out out' r k d =
      let e = k.reply ∙ three.in-text (glyphs_of q) (view_of s) (text_view_of t) q n mark message out d in
      let number : r.refusal ≡ 3 = ap (λ (x : TextReply). x.refusal) e in
      let same = k.refused (λ z. omega (arith, number, z)) in
      (number, ap (λ (x : TextReply). x.length) e, ap (λ (x : TextReply). x.measure) e, same.0, same.1, same.2)
