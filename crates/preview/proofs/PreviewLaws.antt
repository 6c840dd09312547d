-- The preview beside the width call, by what the two promise.
use mathlib.Core.Path.{◌≡◌, ap, ◌∙◌}
use mathlib.Core.List.{List, [], ◌∷◌}
use Rattle.std.specs.Prelude.{Some}
use Rattle.column.specs.declared.Column.{Column}
use Rattle.column.specs.declared.Column.TheVariants as column
use Rattle.column.specs.Columns.{live, origins}
use Rattle.render.specs.declared.render.Ancestor.{Ancestor as Entry}
use Rattle.render.specs.declared.render.Ancestor.TheVariants.{Parent}
use Rattle.render.specs.declared.render.Entries.{Entries}
use Rattle.render.specs.Entries.{listed}
use Rattle.shaper.specs.declared.Shaper.{Shaper}
use Rattle.shaper.specs.Shaper.{View, view_with, view_of}
use Rattle.placing.specs.Placing.{place}
use Rattle.row_shape.specs.Row.{row}
use Rattle.width.specs.Width.{WidthAnswer, width}
use Rattle.width.specs.Promises.{Widths}
use Rattle.preview.specs.Preview.{PreviewReply, preview}
use Rattle.preview.specs.Promises.{PreviewAnswer, preview_reply_of, Previews}

-- M10's entries, and its column beside a shaper's previous node's column and options
abbrev m10-entries : List Entry
m10-entries = Parent 7 ∷ Parent 8 ∷ []

abbrev m10-view : Shaper → View
m10-view s = view_with (column.Parent 7 ∷ []) (origins s.count s.slots) s.previous_node_column s.options

-- "The width call keeps the Rust's figure, also where the preview differs (M10)" (02, R-1): on any shaper with M10's column, whatever else
-- it holds, both calls pass; the preview gives 2 and the width call 1
module _ (s : Shaper) (es : Entries) (c : live s.count s.slots ≡ column.Parent 7 ∷ []) (e : listed es ≡ m10-entries) where
  -- what is made of view and entries is made of M10's
  same : {A : Type 0} (f : View → List Entry → A) → f (view_of s) (listed es) ≡ f (m10-view s) m10-entries
  same f = ap (λ (cs : List Column). f (view_with cs (origins s.count s.slots) s.previous_node_column s.options) (listed es)) c ∙ ap (f (m10-view s)) e

  pub preview-of-m10 : (p : PreviewAnswer) → Previews s 7 (listed es) p → (p.refusal ≡ 0) × (p.width ≡ 2)
  unfolding row place
  preview-of-m10 p h =
      let k : preview_reply_of p ≡ preview (m10-view s) 7 m10-entries = h.reply ∙ same (λ v. preview v 7) in
      (ap (λ (r : PreviewReply). r.refusal) k, ap (λ (r : PreviewReply). r.width) k)

  pub width-of-m10 : (w : WidthAnswer) → Widths s (Some 7) es w → (w.refusal ≡ 0) × (w.width ≡ 1)
  unfolding width
  width-of-m10 w h =
      let k : w ≡ width (m10-view s) (Some 7) m10-entries = h.reply ∙ same (λ v. width v (Some 7)) in
      (ap (λ (r : WidthAnswer). r.refusal) k, ap (λ (r : WidthAnswer). r.width) k)
