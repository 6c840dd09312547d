-- The text call (`write_next_text` in graph_text_renderer.rs): the lines of a row with their messages, and the answer.
use Rattle.std.specs.Prelude.{ℕ, zero, suc, ◌-◌, max, Bool, true, false, cond, not, ◌&&◌, List, [], ◌∷◌, ◌++◌, map, ltb, eqb, length, replicate}
use Rattle.render.specs.declared.render.Ancestor.{Ancestor as Entry}
use Rattle.render.specs.declared.types.LinkLinePlacement.{LinkLinePlacement}
use Rattle.render.specs.declared.types.LinkLinePlacement.TheVariants.{Top, Bottom}
use Rattle.render.specs.declared.types.Options.{Options}
use Rattle.render.specs.declared.types.RowShape.{RowShape}
use Rattle.render.specs.Mark.{is_mark}
use Rattle.render.specs.Refusals.{not_refused, mark_outside_span, message_too_long, message_byte_not_writable, output_shorter_than_lines, Check, ◌when◌, refusal}
use Rattle.shaper.specs.Shaper.{View, new_shaper}
use Rattle.row_shape.specs.Row.{RowReply, row}
use Rattle.glyphs.specs.declared.Renderer.{Renderer}
use Rattle.glyphs.specs.declared.types.Line.{Line}
use Rattle.glyphs.specs.declared.types.Line.TheVariants.{PreNode, Node, PostNode, Link, SecondLink, Term, SecondTerm, Ancestry, PostAncestry}
use Rattle.glyphs.specs.Cells.{keep, PrefixLine, line_of, lines, glyphs_of, line_bytes}
use Rattle.slices.specs.Characters.{blank}
use Rattle.slices.specs.Joins.{over}
use Rattle.message.specs.Message.{message_limit, is_writable, all_of, lines_of}
use Rattle.output.specs.Output.{finish, text_of, line_measure, TextView, new_text, begin_row}

-- ---- which lines a row has, and how often (`write_next_text` in prefix_lines_to_text.rs)

-- the kinds that can carry more message lines (`is_repeatable` in types.rs)
abbrev pub is_repeatable : Line → Bool
is_repeatable PreNode = true
is_repeatable Node = false
is_repeatable PostNode = true
is_repeatable Link = false
is_repeatable SecondLink = false
is_repeatable Term = false
is_repeatable SecondTerm = false
is_repeatable Ancestry = false
is_repeatable PostAncestry = true

-- "both link placements" (01, point 5; `LinkLinePlacement` in types.rs)
abbrev pub is_bottom : LinkLinePlacement → Bool
is_bottom Top = false
is_bottom Bottom = true

-- how often a line is written, where m lines are needed beyond the fixed ones: text starts at the node, and what is needed more stands in front of
-- the links with Bottom, else at the foot (`write_next_text`)
abbrev pub times : LinkLinePlacement → ℕ → Line → ℕ
times p m PreNode = 0
times p m Node = 1
times p m PostNode = cond (is_bottom p) m 0
times p m Link = 1
times p m SecondLink = 1
times p m Term = 1
times p m SecondTerm = 1
times p m Ancestry = 1
times p m PostAncestry = cond (is_bottom p) 0 m

-- how many lines are needed beyond the fixed ones: one for each line of the message, and up to the minimum row height (`pad_lines`, `write_next_text`)
abbrev pub needed : Renderer → RowShape → ℕ → ℕ → ℕ
needed q g count height = max count height - length (keep (λ (l : PrefixLine). not (is_repeatable l.kind)) (lines q g))

-- each line as often as it is written (`write_next_text`)
abbrev pub repeated : (PrefixLine → ℕ) → List PrefixLine → List PrefixLine
repeated t [] = []
repeated t (l ∷ ls) = replicate (t l) l ++ repeated t ls

-- each line with its message line, an empty one where there are no more (`push_line_with_message`)
abbrev pub with_messages : {A : Type 0} → List A → List (List ℕ) → List (A × List ℕ)
with_messages [] ms = []
with_messages (l ∷ ls) [] = (l, []) ∷ with_messages ls []
with_messages (l ∷ ls) (m ∷ ms) = (l, m) ∷ with_messages ls ms

-- a prefix line of a shape with the mark in place (`render_prefix_line`)
abbrev pub prefix : (ℕ → List ℕ) → Renderer → RowShape → ℕ → PrefixLine → List ℕ
prefix glyphs q g mark l = line_bytes glyphs q g.style.dash_style mark l.choices

-- a row's lines, finished: the prefix line, a blank and the message line (`push_line_with_message`, `push_pad_lines`); what finishes a line, the glyphs
-- and the list of message lines are arguments
abbrev pub row_lines : (List ℕ → List ℕ) → (ℕ → List ℕ) → Renderer → RowShape → ℕ → List (List ℕ) → ℕ → List (List ℕ)
row_lines finished glyphs q g mark ms height =
    map (λ (x : PrefixLine × List ℕ). finished (prefix glyphs q g mark x.0 ++ (blank ∷ x.1)))
    (with_messages (repeated (λ (l : PrefixLine). times g.style.link_line_placement (needed q g (length ms) height) l.kind) (lines q g)) ms)

-- the foot line waits for the next row if this one has a term line and wrote no foot line (`queue_pad_line`)
abbrev pub queues : Renderer → RowShape → ℕ → ℕ → Bool
queues q g count height = g.term_line && eqb (times g.style.link_line_placement (needed q g count height) PostAncestry) 0

-- the text state after a row (`write_next_text`, `OutputRendererState`)
abbrev pub text_after : (ℕ → List ℕ) → Renderer → RowShape → ℕ → List (List ℕ) → ℕ → TextView
text_after glyphs q g mark ms height =
    record {
      queued = cond (queues q g (length ms) height) (prefix glyphs q g mark (line_of q g PostAncestry) ∷ []) [];
      height = length (row_lines finish glyphs q g mark ms height);
    }

-- ---- the call

-- all lines that the call writes (`begin_row`, then the row's)
abbrev pub text_lines : (List ℕ → List ℕ) → (ℕ → List ℕ) → TextView → Renderer → RowShape → ℕ → List (List ℕ) → ℕ → List (List ℕ)
text_lines finished glyphs t q g mark ms height = begin_row finished g.separator_line t ++ row_lines finished glyphs q g mark ms height

-- text's rows of 01's table but the last, in their order; the row call's own refusal, 3 or 4, stands at the end
abbrev pub drawn_checks : ℕ → List ℕ → RowReply → List Check
drawn_checks mark message r =
    (mark_outside_span when not (is_mark mark))
    ∷ (message_too_long when ltb message_limit (length message))
    ∷ (message_byte_not_writable when not (all_of is_writable message))
    ∷ (r.refusal when not (eqb r.refusal not_refused))
    ∷ []

-- and with the last: "output shorter than the lines need"
abbrev pub text_checks : ℕ → List ℕ → RowReply → List ℕ → List ℕ → List Check
text_checks mark message r bytes out = drawn_checks mark message r ++ ((output_shorter_than_lines when ltb (length out) (length bytes)) ∷ [])

-- what the text call gives: "The text call gives it [the line measure] beside its length" (01, "Added by us")
pub record TextReply : Type 0 where
  pub refusal : ℕ
  pub length : ℕ
  pub measure : ℕ
  pub output : List ℕ
  pub view : View
  pub text : TextView

-- "A refusal gives its number, length 0, .. and changes no state and no output." (01, "Where a call turns back")
abbrev pub text_answer : ℕ → List (List ℕ) → List ℕ → View → View → TextView → TextView → TextReply
text_answer zero ls out v w t u =
    record { refusal = 0; length = length (text_of ls); measure = line_measure ls; output = over (text_of ls) out; view = w; text = u }
text_answer (suc n) ls out v w t u = record { refusal = suc n; length = 0; measure = 0; output = out; view = v; text = t }

-- the text call for any glyphs, on a list of entries of any length
unfoldable pub text_with : (ℕ → List ℕ) → View → TextView → Renderer → ℕ → List Entry → ℕ → List ℕ → List ℕ → TextReply
text_with glyphs v t q n es mark message out =
    let r : RowReply = row v n es in
    let ms : List (List ℕ) = lines_of message in
    let ls : List (List ℕ) = text_lines finish glyphs t q r.shape mark ms v.height in
    text_answer (refusal (text_checks mark message r (text_of ls) out)) ls out v r.view t (text_after glyphs q r.shape mark ms v.height)

-- the text call (`write_next_text` in graph_text_renderer.rs): the renderer's own glyphs
abbrev pub text : View → TextView → Renderer → ℕ → List Entry → ℕ → List ℕ → List ℕ → TextReply
text v t q n es mark message out = text_with (glyphs_of q) v t q n es mark message out

-- ---- the text of a list of calls

-- what a text call is given beside the states, the renderer and the output
pub record TextCall : Type 0 where
  pub node : ℕ
  pub entries : List Entry
  pub mark : ℕ
  pub message : List ℕ

-- a row's text and what comes behind it; nothing from a refusal on
abbrev pub up_to_refusal : ℕ → List ℕ → List ℕ → List ℕ
up_to_refusal zero bytes behind = bytes ++ behind
up_to_refusal (suc n) bytes behind = []

-- the text of calls from both states on, each with an output that has room for its lines, up to the first refusal
abbrev pub drawn_from : (ℕ → List ℕ) → Renderer → View → TextView → List TextCall → List ℕ
drawn_from glyphs q v t [] = []
drawn_from glyphs q v t (c ∷ cs) =
    let r : RowReply = row v c.node c.entries in
    let ms : List (List ℕ) = lines_of c.message in
    up_to_refusal (refusal (drawn_checks c.mark c.message r))
    (text_of (text_lines finish glyphs t q r.shape c.mark ms v.height))
    (drawn_from glyphs q r.view (text_after glyphs q r.shape c.mark ms v.height) cs)

-- the text of a list of calls from a new shaper and a new text state, for any options, renderer and glyphs
abbrev pub drawn_text : Options → (ℕ → List ℕ) → Renderer → List TextCall → List ℕ
drawn_text o glyphs q cs = up_to_refusal (new_shaper o).refusal [] (drawn_from glyphs q (new_shaper o).view new_text cs)
