-- What the inner functions of text give.
use Rattle.std.specs.Prelude.{ℕ, ◌+◌, ◌-◌, ◌*◌, ◌≤◌, min, max, ◌≡◌, Bool, false, cond, ◌&&◌, List, [], ◌∷◌, ◌++◌, map, eqb, ltb, length, take, drop, replicate, Result, Ok, Err}
use Rattle.slices.specs.Characters.{newline, blank}
use Rattle.slices.specs.Joins.{over}
use Rattle.column.specs.Columns.{column_limit}
use Rattle.render.specs.declared.types.LinkLinePlacement.{LinkLinePlacement}
use Rattle.render.specs.declared.types.RowShape.{RowShape}
use Rattle.render.specs.declared.refusals.Refusal.{Refusal}
use Rattle.render.specs.Refusals.{not_refused, output_shorter_than_lines, number}
use Rattle.message.specs.Message.{lines_of, trim_end}
use Rattle.message.specs.Inner.{first_line, other_lines}
use Rattle.glyphs.specs.declared.Renderer.{Renderer}
use Rattle.glyphs.specs.declared.types.Drawing.{Drawing}
use Rattle.glyphs.specs.declared.types.Line.{Line}
use Rattle.glyphs.specs.declared.types.Line.TheVariants.{Link, SecondLink, Term, SecondTerm, Ancestry, PostAncestry}
use Rattle.glyphs.specs.declared.types.Row.{Row}
use Rattle.glyphs.specs.Cells.{all_lines, is_large, is_present, glyphs_of}
use Rattle.glyphs.specs.Tables.{numbers_in, cells_text}
use Rattle.output.specs.declared.Put.{Put}
use Rattle.output.specs.declared.TextState.{TextState}
use Rattle.output.specs.Output.{queue_limit, finish, ended, text_of, greatest, line_measure, TextView, text_view_of, begin_row}
use Rattle.text.specs.declared.lines.Lengths.{Lengths}
use Rattle.text.specs.declared.prefix_lines_to_text.Counted.{Counted}
use Rattle.text.specs.declared.prefix_lines_to_text.Plan.{Plan}
use Rattle.text.specs.declared.prefix_lines_to_text.RowPut.{RowPut}
use Rattle.text.specs.declared.prefix_lines_to_text.WrittenRow.{WrittenRow}
use Rattle.text.specs.Text.{is_bottom, times, text_lines, text_after}

-- ---- one line

-- a prefix line with a message line, finished
abbrev pub line_with : List ℕ → List ℕ → List ℕ
line_with prefix part = finish (prefix ++ (blank ∷ part))

-- the lengths of a prefix line
pub record Measured (prefix : List ℕ) (r : Lengths) : Type 0 where
  pub all : r.all ≡ length prefix
  pub finished : r.finished ≡ length (trim_end prefix)

-- what stands behind a finished prefix line that lacks so many blanks: with a message line they come back, and it stands behind them
abbrev pub behind_finished : ℕ → List ℕ → List ℕ
behind_finished blanks part = cond (eqb (length (trim_end part)) 0) (newline ∷ []) (replicate blanks blank ++ (blank ∷ ended (trim_end part)))

-- a prefix line of these lengths whose finished bytes stand at the start of an output
abbrev pub prefix_again : Lengths → List ℕ → List ℕ
prefix_again r out = take r.finished out ++ replicate (r.all - r.finished) blank

-- the measure of a prefix line of so many of a row's cells: 2 for each, in large ASCII 3 for each but the first, which measures 2
abbrev pub prefix_measure : Renderer → ℕ → ℕ
prefix_measure q n = cond (is_large q) (3 * n - 1) (2 * n)

-- the measure of a prefix line with a message line, finished, where the prefix line by itself measures so much: behind one of blanks it lacks its own
abbrev pub measure_with : ℕ → List ℕ → List ℕ → ℕ
measure_with whole prefix part =
    cond (eqb (length (trim_end part)) 0) (whole - (length prefix - length (trim_end prefix))) (whole + length (trim_end part) + 1)

-- a prefix line with a message line, written with its end at the start of an output: its count and its measure
pub record WritesLine (prefix part : List ℕ) (whole : ℕ) (before after : List ℕ) (r : Put) : Type 0 where
  pub count : r.length ≡ length (ended (line_with prefix part))
  pub output : after ≡ over (ended (line_with prefix part)) before
  pub measure : r.measure ≡ measure_with whole prefix part

-- and from `at` on
pub record WritesLineAt (prefix part : List ℕ) (whole at : ℕ) (before after : List ℕ) (r : Put) : Type 0 where
  pub count : r.length ≡ length (ended (line_with prefix part))
  pub output : after ≡ take at before ++ (ended (line_with prefix part) ++ drop (at + length (ended (line_with prefix part))) before)
  pub measure : r.measure ≡ measure_with whole prefix part

-- ---- lines with the lines of a message

-- each prefix line with the next message line
abbrev pub drawn : List (List ℕ) → List ℕ → List (List ℕ)
drawn [] m = []
drawn (p ∷ ps) m = line_with p (first_line m) ∷ drawn ps (other_lines m)

-- the measures of these lines, where each prefix line by itself measures so much
abbrev pub measures_with : ℕ → List (List ℕ) → List ℕ → List ℕ
measures_with whole [] m = []
measures_with whole (p ∷ ps) m = measure_with whole p (first_line m) ∷ measures_with whole ps (other_lines m)

-- what is left of the message behind them
abbrev pub left_over : List (List ℕ) → List ℕ → List ℕ
left_over [] m = m
left_over (p ∷ ps) m = left_over ps (other_lines m)

-- each line so many times
abbrev pub spread : (Line → ℕ) → List Line → List Line
spread t [] = []
spread t (l ∷ ls) = replicate (t l) l ++ spread t ls

-- how often a line is written, 0 where the row has none
abbrev pub line_times : Plan → Renderer → Row → Line → ℕ
line_times p q r l = cond (is_present q r l) (times p.placement p.needed l) 0

-- 1 where it holds
abbrev pub one : Bool → ℕ
one b = cond b 1 0

-- the count of a row's lines that are no repeated ones
abbrev pub fixed_lines : Renderer → Row → ℕ
fixed_lines q r =
    1 + one (is_present q r Link) + one (is_present q r SecondLink) + one (is_present q r Term) + one (is_present q r SecondTerm) + one (is_present q r Ancestry)

-- the plan of a shape's lines, for so many message lines and a minimum height
abbrev pub plan_of : LinkLinePlacement → Renderer → Row → ℕ → ℕ → Plan
plan_of p q r count height = record { placement = p; fixed = fixed_lines q r; needed = max count height - fixed_lines q r }

-- lines written at the start of an output, and where the next message line starts
pub record RowPuts (whole : ℕ) (ps : List (List ℕ)) (message : List ℕ) (start : ℕ) (before after : List ℕ) (r : RowPut) : Type 0 where
  pub count : r.length ≡ length (text_of (drawn ps (drop start message)))
  pub output : after ≡ over (text_of (drawn ps (drop start message))) before
  pub measure : r.measure ≡ greatest (measures_with whole ps (drop start message))
  pub next : drop r.next message ≡ left_over ps (drop start message)
  pub within : r.next ≤ length message

-- lines counted, and where the next message line starts
pub record Counts (ps : List (List ℕ)) (message : List ℕ) (start : ℕ) (r : Counted) : Type 0 where
  pub count : r.length ≡ length (text_of (drawn ps (drop start message)))
  pub next : drop r.next message ≡ left_over ps (drop start message)
  pub within : r.next ≤ length message

-- the prefix lines of a row as they are written, drawn from a table
abbrev pub prefixes : List ℕ → Drawing → Plan → List (List ℕ)
prefixes table d p = map (λ (l : Line). cells_text table (numbers_in table d l)) (spread (line_times p d.renderer d.row) all_lines)

-- all lines of a call
abbrev pub all_lines_of : List ℕ → Drawing → Plan → List ℕ → TextView → Bool → List (List ℕ)
all_lines_of table d p message t separator = begin_row finish separator t ++ drawn (prefixes table d p) message

-- what the prefix lines of a drawing measure with the renderer's own glyphs
abbrev pub whole_measure : Drawing → ℕ
whole_measure d = prefix_measure d.renderer (min d.width column_limit)

-- the line measure of a call, where they measure so much
abbrev pub measure_in : List ℕ → Drawing → Plan → List ℕ → TextView → Bool → ℕ
measure_in table d p message t separator = max (line_measure (begin_row finish separator t)) (greatest (measures_with (whole_measure d) (prefixes table d p) message))

-- how many bytes they have at most: of each line eight for each cell, the blank and the end, the message, and 514 above the row
abbrev pub most_bytes : Plan → ℕ → ℕ → ℕ
most_bytes p width message = (p.fixed + p.needed) * (8 * width + 2) + message + 514

-- whether the foot line waits for the next row
abbrev pub waits : Row → Plan → Bool
waits r p = r.term_line && eqb (cond (is_bottom p.placement) 0 p.needed) 0

-- the text state after a row
abbrev pub state_after : List ℕ → Drawing → Plan → TextView
state_after table d p =
    record {
      queued = cond (waits d.row p) (cells_text table (numbers_in table d PostAncestry) ∷ []) [];
      height = p.fixed + p.needed;
    }

-- the raw queued length is at most the array's, and 0 where nothing is queued
abbrev pub QueueFits : TextState → Type 0
QueueFits t = (t.queued_length ≤ queue_limit) × (t.is_queued ≡ false → t.queued_length ≡ 0)

-- ---- a row's text

-- what a writer of a row's text gives beside the output: the refusal's number, 0 for none, the count of bytes written, the line measure, and the text state after it
pub record RowText : Type 0 where
  pub refusal : ℕ
  pub length : ℕ
  pub measure : ℕ
  pub state : TextState

-- the result of a writer of a row's text, as the answer
abbrev pub row_text_from : TextState → Result WrittenRow Refusal → RowText
row_text_from t (Ok r) = record { refusal = not_refused; length = r.length; measure = r.measure; state = r.state }
row_text_from t (Err e) = record { refusal = number e; length = 0; measure = 0; state = t }

-- a row's text drawn from a table: written where the output has room for it; else nothing is
pub record RowWith (table : List ℕ) (d : Drawing) (p : Plan) (message : List ℕ) (t : TextView) (separator : Bool) (before after : List ℕ) (r : RowText) : Type 0 where
  pub refusal : r.refusal ≡ cond (ltb (length before) (length (text_of (all_lines_of table d p message t separator)))) output_shorter_than_lines not_refused
  pub kept : (r.refusal ≡ 0 → ⊥) → after ≡ before
  pub written : r.refusal ≡ 0
      → (r.length ≡ length (text_of (all_lines_of table d p message t separator)))
      × (r.measure ≡ measure_in table d p message t separator)
      × (after ≡ over (text_of (all_lines_of table d p message t separator)) before)
      × (text_view_of r.state ≡ state_after table d p)
      × QueueFits r.state

-- the same from the definitions, with the renderer's own glyphs
pub record RowTexts (t : TextView) (q : Renderer) (g : RowShape) (mark : ℕ) (message : List ℕ) (height : ℕ) (before after : List ℕ) (r : RowText) : Type 0 where
  pub refusal : r.refusal ≡ cond (ltb (length before) (length (text_of (text_lines finish (glyphs_of q) t q g mark (lines_of message) height)))) output_shorter_than_lines not_refused
  pub kept : (r.refusal ≡ 0 → ⊥) → after ≡ before
  pub written : r.refusal ≡ 0
      → (r.length ≡ length (text_of (text_lines finish (glyphs_of q) t q g mark (lines_of message) height)))
      × (r.measure ≡ line_measure (text_lines finish (glyphs_of q) t q g mark (lines_of message) height))
      × (after ≡ over (text_of (text_lines finish (glyphs_of q) t q g mark (lines_of message) height)) before)
      × (text_view_of r.state ≡ text_after (glyphs_of q) q g mark (lines_of message) height)
      × QueueFits r.state
