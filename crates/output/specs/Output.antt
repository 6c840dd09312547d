-- Lines of text, their bytes and their measure, and what is kept between rows (output.rs).
use Rattle.std.specs.Prelude.{ℕ, ◌+◌, max, ◌≡◌, Bool, cond, ◌&&◌, List, [], ◌∷◌, ◌++◌, map, eqb, leb, length, take}
use Rattle.slices.specs.Joins.{joins, Writes}
use Rattle.slices.specs.Characters.{newline}
use Rattle.message.specs.Message.{trim_end}
use Rattle.output.specs.declared.TextState.{TextState}
use Rattle.output.specs.declared.Put.{Put}
use Rattle.output.specs.Measure.{measure_of}

-- the queue's array has eight bytes for each of 64 cells
abbrev pub queue_limit : ℕ
queue_limit = 512

-- ---- lines

-- what finishes a line today: the blanks at its end go (`push_line`)
abbrev pub finish : List ℕ → List ℕ
finish l = trim_end l

-- a finished line with its end (`push_line`)
abbrev pub ended : List ℕ → List ℕ
ended l = l ++ (newline ∷ [])

-- the bytes of finished lines, each with its end
abbrev pub text_of : List (List ℕ) → List ℕ
text_of ls = joins ended ls

-- the greatest of some numbers, 0 of none
abbrev pub greatest : List ℕ → ℕ
greatest [] = 0
greatest (n ∷ ns) = max n (greatest ns)

-- the line measure: "of the longest line that one text call writes, a queued line or separator included" (01, "Added by us"), in cells (02, R-2)
abbrev pub line_measure : List (List ℕ) → ℕ
line_measure ls = greatest (map measure_of ls)

-- ---- between rows

-- what is kept between rows: the queued line, none or one, and the row height (`OutputRendererState`)
pub record TextView : Type 0 where
  pub queued : List (List ℕ)
  pub height : ℕ

-- "a queued length beyond its array as the array's" (01, "Where a call turns back")
abbrev pub text_view_of : TextState → TextView
text_view_of t = record { queued = cond t.is_queued (take t.queued_length t.queued_pad_line ∷ []) []; height = t.row_height }

-- a text state at the start: no line is queued, and no row stands above (`OutputRendererState::new`)
abbrev pub new_text : TextView
new_text = record { queued = []; height = 0 }

-- the queued line, finished (`flush_queued_pad_line`); what finishes a line is an argument
abbrev pub flushed : (List ℕ → List ℕ) → TextView → List (List ℕ)
flushed finished t = map finished t.queued

-- how many lines then stand above the row: those of the row before, and the queued one
abbrev pub lines_above : TextView → ℕ
lines_above t = t.height + length t.queued

-- then a separator, if the row wants one and one line stands above it (`begin_row`)
abbrev pub begin_row : (List ℕ → List ℕ) → Bool → TextView → List (List ℕ)
begin_row finished separator t = flushed finished t ++ cond (separator && eqb (lines_above t) 1) (finished [] ∷ []) []

-- ---- what the writers promise

-- lines written at the start of an output: all of them where they fit, and the measure of the longest; else nothing is written, and both are 0
pub record Puts (ls : List (List ℕ)) (before after : List ℕ) (r : Put) : Type 0 where
  pub bytes : Writes (text_of ls) before after r.length
  pub measure : r.measure ≡ cond (leb (length (text_of ls)) (length before)) (line_measure ls) 0
