-- Whole histories, as bench runs them: the text call, the row call, the preview, or the row call and the renderer call on every record, one after the other.
use Rattle.std.specs.Prelude.{ℕ, suc, ◌+◌, ◌/◌, ◌≤◌, ◌≡◌, min, Bool, cond, ◌&&◌, List, [], ◌∷◌, ◌++◌, map, eqb, leb, length, get_or, take, drop, Option, Some, None}
use Rattle.render.specs.declared.render.Ancestor.{Ancestor as Entry}
use Rattle.render.specs.Entries.{entry_limit}
use Rattle.shaper.specs.Shaper.{View, view_after}
use Rattle.row_shape.specs.Row.{RowReply, row}
use Rattle.preview.specs.Preview.{PreviewReply, preview}
use Rattle.glyphs.specs.declared.Renderer.{Renderer}
use Rattle.glyphs.specs.declared.Renderer.TheVariants.{Ascii, AsciiLarge, Square, Curved, Dec}
use Rattle.slices.specs.Joins.{over}
use Rattle.prefix_lines.specs.PrefixLines.{Answer, next_prefix_lines}
use Rattle.output.specs.Output.{TextView}
use Rattle.text.specs.Text.{TextReply, text}
use Rattle.record.specs.Record.{record_length, pieces, id_at, mark_of, parent_count, written_from, entry_of}
use Rattle.steps.specs.Steps.{beginning}
use Rattle.whole_history.specs.Shapes.{row_bytes, preview_bytes}

-- ---- what is read

-- all whole records; bytes behind the last of them are left out
abbrev pub records_of : List ℕ → List (List ℕ)
records_of s = pieces (length s / record_length) s

-- a record's parent entries (01, "Added by us"), where a count above 8 is read as 8 and a kind above 2 as 2
abbrev pub entries_of : List ℕ → List Entry
entries_of b = map entry_of (written_from b 0 (min (parent_count b) entry_limit))

-- the renderer with a number; one above 4 is DEC
abbrev pub renderer_of : ℕ → Renderer
renderer_of n = get_or (Ascii ∷ AsciiLarge ∷ Square ∷ Curved ∷ []) n Dec

-- ---- row by row

-- what is kept between records: both states, where the next row goes, and the output
pub record State : Type 0 where
  pub view : View
  pub text : TextView
  pub from : ℕ
  pub output : List ℕ

-- a history begins as 01's programs do, with the output as it was lent
abbrev pub start : List ℕ → State
start out = record { view = beginning.view; text = beginning.text; from = 0; output = out }

-- where the next row goes: behind this one of n bytes if the rows are kept, else over it
abbrev pub place_after : Bool → ℕ → ℕ → ℕ
place_after kept from n = cond kept (from + n) from

-- what a whole history gives: the count of its rows, and the output
pub record Whole : Type 0 where
  pub rows : ℕ
  pub output : List ℕ

-- on with what there is, or the end
abbrev pub onward : {A B : Type 0} → Option A → (A → B) → B → B
onward None f b = b
onward (Some a) f b = f a

-- a row for each record, n so far; the first one for which the step gives nothing is the end
abbrev pub rows_of : (State → List ℕ → Option State) → ℕ → List (List ℕ) → State → Whole
rows_of step n [] s = record { rows = n; output = s.output }
rows_of step n (b ∷ bs) s = onward (step s b) (rows_of step (suc n) bs) (record { rows = n; output = s.output })

-- ---- a record's turn

-- what is made of a record: both states after it, the count of its row's bytes, and what was lent of the output, with the row at its start
pub record Turned : Type 0 where
  pub view : View
  pub text : TextView
  pub length : ℕ
  pub output : List ℕ

-- what a turn makes of both states, a record, and the rest of the output; nothing where there is no row
abbrev pub Turn : Type 0
Turn = View → TextView → List ℕ → List ℕ → Option Turned

-- a row at its place in the output
abbrev pub placed : Bool → State → Turned → State
placed kept s t = record { view = t.view; text = t.text; from = place_after kept s.from t.length; output = take s.from s.output ++ t.output }

-- a turn as a step: its row at its place
abbrev pub step_of : Turn → Bool → State → List ℕ → Option State
step_of turn kept s b = onward (turn s.view s.text b (drop s.from s.output)) (λ (t : Turned). Some (placed kept s t)) None

-- what a turn in code promises, where the definition makes this of the record: the row at the start of what was lent of the output, with the
-- count of its bytes; or nothing, and the output as it was
abbrev pub Makes : Option Turned → View → TextView → List ℕ → List ℕ → Option ℕ → Type 0
Makes made v t out out' (Some n) = (made ≡ Some (record { view = v; text = t; length = n; output = out' })) × (n ≤ length out')
Makes made v t out out' None = (made ≡ None) × (out' ≡ out)

-- a turn for each record
abbrev pub whole_of : Turn → List ℕ → Bool → List ℕ → Whole
whole_of turn records kept out = rows_of (step_of turn kept) 0 (records_of records) (start out)

-- ---- the calls

-- the text call on a record, with the message in the place of the record's own; nothing where it is refused
abbrev pub text_turn : Renderer → List ℕ → Turn
text_turn q message v t b room =
    let r : TextReply = text v t q (id_at b 0) (entries_of b) (mark_of b) message room in
    cond (eqb r.refusal 0) (Some (record { view = r.view; text = r.text; length = r.length; output = r.output })) None

-- some bytes of a row, with the view after the row; nothing where the row's refusal is not 0 or there is no room for them
abbrev pub put_turn : ℕ → View → TextView → List ℕ → List ℕ → Option Turned
put_turn refusal v t bytes room =
    cond (eqb refusal 0 && leb (length bytes) (length room))
    (Some (record { view = v; text = t; length = length bytes; output = over bytes room }))
    None

-- the row call on a record, and the bytes of its shape, or of its node's cell alone
abbrev pub shape_turn : Bool → Turn
shape_turn kept v t b room =
    let r : RowReply = row v (id_at b 0) (entries_of b) in
    put_turn r.refusal r.view t (row_bytes kept r.shape) room

-- the preview of a record's row, and its bytes; the view after it is made of what the preview gave
abbrev pub preview_turn : Turn
preview_turn v t b room =
    let r : PreviewReply = preview v (id_at b 0) (entries_of b) in
    put_turn r.refusal (view_after v r.columns r.origins (Some r.column)) t (preview_bytes r.column r.width (length r.columns)) room

-- the row call on a record and the renderer call on its shape, with the record's mark; nothing where either is refused
abbrev pub lines_turn : Renderer → Turn
lines_turn q v t b room =
    let r : RowReply = row v (id_at b 0) (entries_of b) in
    let a : Answer = next_prefix_lines r.shape q (mark_of b) room in
    cond (eqb r.refusal 0 && eqb a.refusal 0) (Some (record { view = r.view; text = t; length = a.length; output = a.output })) None

-- the texts of a whole history
unfoldable pub whole_text : List ℕ → List ℕ → ℕ → Bool → List ℕ → Whole
whole_text records message renderer kept out = whole_of (text_turn (renderer_of renderer) message) records kept out

-- the shapes of a whole history
unfoldable pub whole_shapes : List ℕ → Bool → List ℕ → Whole
whole_shapes records kept out = whole_of (shape_turn kept) records kept out

-- the previews of a whole history
unfoldable pub whole_previews : List ℕ → Bool → List ℕ → Whole
whole_previews records kept out = whole_of preview_turn records kept out

-- the prefix lines of a whole history
unfoldable pub whole_lines : List ℕ → ℕ → Bool → List ℕ → Whole
whole_lines records renderer kept out = whole_of (lines_turn (renderer_of renderer)) records kept out
