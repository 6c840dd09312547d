-- What the calls' promises come to in a record's turn.
use Prim.Native.Nat.{ℕ, zero, suc, ◌≤◌, min}
use mathlib.Core.Path.{◌≡◌, refl, sym, ap, ◌∙◌, subst}
use mathlib.Core.Bool.{Bool, false, cond, ◌&&◌}
use mathlib.Core.List.{List}
use native.Mathlib.Omega.{arith}
use borrow.Author.Tests.{eq-eqb, ne_eqb, le-leb, lt-leb, le-ltb}
use lib.Dec.{eqb}
use lib.ListN.{length, take, drop, length-append, length-take, length-map}
use Rattle.std.specs.Prelude.{Option, Some, None, Result, Ok, Err}
use Rattle.std.specs.Result.{result_ok}
use Rattle.column.specs.declared.Slot.{Slot}
use Rattle.column.specs.Columns.{column_limit, live}
use Rattle.render.specs.declared.render.Ancestor.{Ancestor}
use Rattle.render.specs.declared.render.Entries.{Entries}
use Rattle.render.specs.Entries.{entry_limit, given, listed}
use Rattle.render.specs.declared.refusals.Refusal.{Refusal}
use Rattle.render.specs.Refusals.{refusal, number as number_of}
use Rattle.shaper.specs.declared.Shaper.{Shaper}
use Rattle.shaper.specs.Shaper.{View, view_of, view_after}
use Rattle.row_shape.specs.Row.{RowReply, row}
use Rattle.row_shape.specs.Promises.{RowAnswer, row_reply_of, Rows}
use Rattle.lineage.specs.Promises.{ShapeAnswer, LentRows}
use Rattle.preview.specs.Preview.{PreviewReply, preview}
use Rattle.preview.specs.Promises.{PreviewAnswer, preview_reply_of, Previews}
use Rattle.glyphs.specs.declared.Renderer.{Renderer}
use Rattle.glyphs.specs.Cells.{glyphs_of}
use Rattle.slices.proofs.Front.{length_front}
use Rattle.slices.proofs.OverLaws.{length_over}
use Rattle.prefix_lines.specs.PrefixLines.{lines_bytes, checks_for, Answer, answer_of, answered, next_prefix_lines}
use Rattle.output.specs.declared.TextState.{TextState}
use Rattle.output.specs.Output.{TextView, text_view_of}
use Rattle.text.specs.Text.{TextReply, text}
use Rattle.text.specs.Promises.{TextAnswer, text_reply_of, Texts}
use Rattle.record.specs.Record.{id_at, mark_of, parent_count, written_from, entry_of}
use Rattle.record.specs.Promises.{entries_with}
use Rattle.steps.specs.Steps.{beginning}
use Rattle.steps.proofs.StepLaws.{refused-output, accepted-output}
use Rattle.render.proofs.RefusalLaws.{number-some}
use Rattle.whole_history.specs.Shapes.{row_bytes, preview_bytes, Puts}
use Rattle.whole_history.specs.Whole.{entries_of, Turned, Makes, put_turn, text_turn, shape_turn, preview_turn, lines_turn}
use Rattle.record.proofs.RecordLaws.{written-length, listed-with}

-- ---- a record's entries
entries-few : (b : List ℕ) → length (entries_of b) ≤ entry_limit
entries-few b =
    let n : ℕ = min (parent_count b) entry_limit in
    omega (arith, length-map (written_from b 0 n) entry_of, written-length b 0 n)

module _ (b : List ℕ) {es : Entries} (e : es ≡ entries_with (entries_of b)) where
  listed-read : listed es ≡ entries_of b
  listed-read = ap listed e ∙ listed-with (entries_of b) (entries-few b)

  entries-held : (es.too_many ≡ false) × (es.count ≤ entry_limit)
  entries-held = (ap (λ (x : Entries). x.too_many) e, rw (ap (λ (x : Entries). x.count) e) (entries-few b))

-- ---- a row's bytes
module _ (k : ℕ) (v : View) (t : TextView) (bs out : List ℕ) where
  put-refused : (k ≡ 0 → ⊥) → put_turn k v t bs out ≡ None
  put-refused z = rw (ne_eqb k 0 z) refl

  put-makes : k ≡ 0 → (out' : List ℕ) (r : Option ℕ) → Puts bs out out' r → Makes (put_turn k v t bs out) v t out out' r
  put-makes z out' (Some n) p = (rw (eq-eqb k 0 z, le-leb (length bs) (length out) p.0, p.1, p.2) refl, rw (p.1, p.2, length_over bs out p.0) p.0)
  put-makes z out' None p = (rw (eq-eqb k 0 z, lt-leb (length bs) (length out) p.0) refl, p.1)

-- ---- the row call
-- the text state that the other calls leave as it is
abbrev t : TextView
t = beginning.text

module _ (s : Shaper) (b : List ℕ) (g : RowAnswer) {n : ℕ} {es : Entries} (i : n ≡ id_at b 0) (e : es ≡ entries_with (entries_of b)) (u : Rows s n es g) where
  row-replied : row_reply_of g ≡ row (view_of s) (id_at b 0) (entries_of b)
  row-replied = u.reply ∙ rw (i, listed-read b e) refl

  module _ (kept : Bool) (out : List ℕ) where
    shape-is : put_turn g.refusal (view_of g.shaper) t (row_bytes kept g.shape) out ≡ shape_turn kept (view_of s) t b out
    shape-is = ap (λ (r : RowReply). put_turn r.refusal r.view t (row_bytes kept r.shape) out) row-replied

    pub shape-refused : (g.refusal ≡ 0 → ⊥) → (shape_turn kept (view_of s) t b out ≡ None) × (out ≡ out)
    shape-refused z = (sym shape-is ∙ put-refused g.refusal (view_of g.shaper) t (row_bytes kept g.shape) out z, refl)

    pub shape-makes : g.refusal ≡ 0 → (out' : List ℕ) (r : Option ℕ) → Puts (row_bytes kept g.shape) out out' r → Makes (shape_turn kept (view_of s) t b out) (view_of g.shaper) t out out' r
    shape-makes z out' r p =
        subst (λ (m : Option Turned). Makes m (view_of g.shaper) t out out' r) shape-is (put-makes g.refusal (view_of g.shaper) t (row_bytes kept g.shape) out z out' r p)

-- the public call promises of the entries that it is lent what the core does of those that it is given
module _ (b : List ℕ) {es : Entries} (e : es ≡ entries_with (entries_of b)) where
  given-listed : given es ≡ listed es
  given-listed = let h = entries-held b e in rw (h.0, le-ltb entry_limit es.count h.1) refl

  pub held-row : {s s' : Shaper} {n m : ℕ} {r : ShapeAnswer} → m ≡ min es.count entry_limit → LentRows s n (take m es.list) s' r
      → Rows s n es (record { refusal = r.refusal; shape = r.shape; shaper = s' })
  held-row {s} {s'} {n} {m} {r} c v =
      let h = entries-held b e in
      let k : m ≡ es.count = omega (arith, c, h.1) in
      let u : LentRows s n (take es.count es.list) s' r = subst (λ (x : ℕ). LentRows s n (take x es.list) s' r) k v in
      record {
        reply = u.reply ∙ ap (λ (l : List Ancestor). row (view_of s) n l) given-listed;
        refused = u.refused;
        fits = u.fits;
        options = u.options;
        rest = u.rest;
      }

-- ---- the preview
-- the shaper for the next row
abbrev pub shaper_after : Shaper → PreviewAnswer → Shaper
shaper_after s g = record { slots = g.slots; count = g.count; previous_node_column = Some g.node_column; options = s.options }

module _ (s : Shaper) (b : List ℕ) (g : PreviewAnswer) {n : ℕ} {es : Entries} (i : n ≡ id_at b 0) (e : es ≡ entries_with (entries_of b)) (u : Previews s n (listed es) g)
    (out : List ℕ) where
  preview-replied : preview_reply_of g ≡ preview (view_of s) (id_at b 0) (entries_of b)
  preview-replied = u.reply ∙ rw (i, listed-read b e) refl

  abbrev columns : ℕ
  columns = length (live g.count g.slots)

  preview-is : put_turn g.refusal (view_of (shaper_after s g)) t (preview_bytes g.node_column g.width columns) out ≡ preview_turn (view_of s) t b out
  preview-is =
      ap (λ (r : PreviewReply). put_turn r.refusal (view_after (view_of s) r.columns r.origins (Some r.column)) t (preview_bytes r.column r.width (length r.columns)) out) preview-replied

  pub preview-refused : (g.refusal ≡ 0 → ⊥) → (preview_turn (view_of s) t b out ≡ None) × (out ≡ out)
  preview-refused z = (sym preview-is ∙ put-refused g.refusal (view_of (shaper_after s g)) t (preview_bytes g.node_column g.width columns) out z, refl)

  pub preview-makes : g.refusal ≡ 0 → length g.slots ≡ column_limit → {bs : List ℕ} → bs ≡ preview_bytes g.node_column g.width g.count → (out' : List ℕ) (r : Option ℕ) → Puts bs out out' r
      → Makes (preview_turn (view_of s) t b out) (view_of (shaper_after s g)) t out out' r
  preview-makes z long {bs} f out' r p =
      let c : columns ≡ g.count = rw (length_front (λ (c : Slot). c.column) g.count g.slots, long) (omega (arith, u.fits z)) in
      let q : bs ≡ preview_bytes g.node_column g.width columns = f ∙ ap (preview_bytes g.node_column g.width) (sym c) in
      let w : Puts (preview_bytes g.node_column g.width columns) out out' r = subst (λ (x : List ℕ). Puts x out out' r) q p in
      subst (λ (m : Option Turned). Makes m (view_of (shaper_after s g)) t out out' r) preview-is
      (put-makes g.refusal (view_of (shaper_after s g)) t (preview_bytes g.node_column g.width columns) out z out' r w)

-- ---- the renderer call
answered-refused : (k : ℕ) (bs out : List ℕ) → ((answered k bs out).refusal ≡ 0 → ⊥) → (answered k bs out).output ≡ out
answered-refused zero bs out z = absurd (z refl)
answered-refused (suc k) bs out z = refl

answered-within : (k : ℕ) (bs out : List ℕ) → (answered k bs out).length ≤ length (answered k bs out).output
answered-within zero bs out = omega (arith, length-append bs (drop (length bs) out))
answered-within (suc k) bs out = omega arith

module _ (s : Shaper) (b : List ℕ) (g : RowAnswer) {n : ℕ} {es : Entries} (i : n ≡ id_at b 0) (e : es ≡ entries_with (entries_of b)) (u : Rows s n es g)
    (q : Renderer) (out : List ℕ) where
  -- a turn, by what both calls gave
  abbrev made_of : RowReply → Answer → Option Turned
  made_of r a = cond (eqb r.refusal 0 && eqb a.refusal 0) (Some (record { view = r.view; text = t; length = a.length; output = a.output })) None

  lines-is : made_of (row_reply_of g) (next_prefix_lines g.shape q (mark_of b) out) ≡ lines_turn q (view_of s) t b out
  lines-is = ap (λ (r : RowReply). made_of r (next_prefix_lines r.shape q (mark_of b) out)) (row-replied s b g i e u)

  pub row-refused : (g.refusal ≡ 0 → ⊥) → (lines_turn q (view_of s) t b out ≡ None) × (out ≡ out)
  row-refused z = (sym lines-is ∙ rw (ne_eqb g.refusal 0 z) refl, refl)

  abbrev bytes : List ℕ
  bytes = lines_bytes (glyphs_of q) q g.shape (mark_of b)

  abbrev number : ℕ
  number = refusal (checks_for g.shape (mark_of b) bytes out)

  lines-with : {mark : ℕ} → mark ≡ mark_of b → (w : Answer) → w ≡ next_prefix_lines g.shape q mark out
      → (w ≡ answered number bytes out) × (made_of (row_reply_of g) w ≡ lines_turn q (view_of s) t b out)
  lines-with m w y =
      let x : w ≡ answered number bytes out = y ∙ ap (λ (k : ℕ). next_prefix_lines g.shape q k out) m in
      (x, ap (made_of (row_reply_of g)) x ∙ lines-is)

  pub lines-make : g.refusal ≡ 0 → {mark : ℕ} → mark ≡ mark_of b → (p : List ℕ) (r : Result ℕ Refusal) → answer_of r p ≡ next_prefix_lines g.shape q mark out → (o : Option ℕ) → o ≡ result_ok r
      → Makes (lines_turn q (view_of s) t b out) (view_of g.shaper) t out p o
  lines-make z m p (Ok n) y o f =
      let x = lines-with m (answer_of (Ok n) p) y in
      rw f (
        sym x.1 ∙ rw (eq-eqb g.refusal 0 z) refl,
        let w : (answered number bytes out).length ≤ length (answered number bytes out).output = answered-within number bytes out in
            omega (arith, w, ap (λ (a : Answer). a.length) x.0, ap (λ (a : Answer). length a.output) x.0),
      )
  lines-make z m p (Err e) y o f =
      let x = lines-with m (answer_of (Err e) p) y in
      rw f (
        sym x.1 ∙ rw (eq-eqb g.refusal 0 z, ne_eqb (number_of e) 0 (number-some e)) refl,
        ap (λ (a : Answer). a.output) x.0 ∙ answered-refused number bytes out (λ i. number-some e (ap (λ (a : Answer). a.refusal) x.0 ∙ i)),
      )

-- ---- the text call
module _ (s : Shaper) (t : TextState) (q : Renderer) (b message out p : List ℕ) (g : TextAnswer) {n mark : ℕ} {es : Entries}
    (i : n ≡ id_at b 0) (e : es ≡ entries_with (entries_of b)) (m : mark ≡ mark_of b) (u : Texts s t q n es mark message out p g) where
  abbrev called : TextReply
  called = text (view_of s) (text_view_of t) q (id_at b 0) (entries_of b) (mark_of b) message out

  text-replied : text_reply_of g p ≡ called
  text-replied = u.reply ∙ rw (i, listed-read b e, m) refl

  refusal_is : called.refusal ≡ g.refusal
  refusal_is = sym (ap (λ (r : TextReply). r.refusal) text-replied)

  pub text-refused : (g.refusal ≡ 0 → ⊥) → (text_turn q message (view_of s) (text_view_of t) b out ≡ None) × (p ≡ out)
  text-refused z = (
    rw (refusal_is, ne_eqb g.refusal 0 z) refl,
    ap (λ (r : TextReply). r.output) text-replied
        ∙ refused-output (view_of s) (text_view_of t) q (id_at b 0) (entries_of b) (mark_of b) message out (λ y. z (sym refusal_is ∙ y)),
  )

  pub text-makes : g.refusal ≡ 0 → Makes (text_turn q message (view_of s) (text_view_of t) b out) (view_of g.shaper) (text_view_of g.state) out p (Some g.length)
  text-makes z =
      let w = accepted-output (view_of s) (text_view_of t) q (id_at b 0) (entries_of b) (mark_of b) message out (refusal_is ∙ z) in (
        rw (refusal_is, eq-eqb g.refusal 0 z)
            (ap (λ (r : TextReply). Some (record { view = r.view; text = r.text; length = r.length; output = r.output })) (sym text-replied)),
        omega (arith, w.1, length-take called.length called.output, ap (λ (r : TextReply). r.length) text-replied, ap (λ (r : TextReply). length r.output) text-replied),
      )
