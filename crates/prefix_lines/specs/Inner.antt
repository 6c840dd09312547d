-- What the inner functions of the writers give.
use Rattle.std.specs.Prelude.{ℕ, cond, List, [], ◌∷◌, ◌++◌, ltb, length}
use Rattle.render.specs.declared.types.DashStyle.{DashStyle}
use Rattle.render.specs.declared.types.RowShape.{RowShape}
use Rattle.render.specs.Refusals.{not_refused, output_shorter_than_lines, refusal}
use Rattle.glyphs.specs.declared.Renderer.{Renderer}
use Rattle.glyphs.specs.declared.types.Line.{Line}
use Rattle.glyphs.specs.declared.types.Drawing.{Drawing}
use Rattle.glyphs.specs.Cells.{PrefixLine, is_present, all_lines, lines, glyphs_of, line_bytes}
use Rattle.slices.specs.Characters.{newline, colon}
use Rattle.glyphs.specs.Tables.{numbers_in, cells_text}
use Rattle.slices.specs.Joins.{joins}
use Rattle.prefix_lines.specs.declared.writer.Frame.{Frame}
use Rattle.prefix_lines.specs.declared.writer.Frame.TheVariants.{Plain, Listed}
use Rattle.prefix_lines.specs.Listing.{dollar}
use Rattle.prefix_lines.specs.PrefixLines.{letter, checks_for, Answer, answered}

-- what stands before a line's cells: the letter, in a listing the colon too
abbrev pub opening : Frame → Line → List ℕ
opening Plain l = letter l ∷ []
opening Listed l = letter l ∷ colon ∷ []

-- and behind them: the end, in a listing `$` before it
abbrev pub closing : Frame → List ℕ
closing Plain = newline ∷ []
closing Listed = dollar ∷ newline ∷ []

-- how many bytes both have
abbrev pub frame_length : Frame → ℕ
frame_length Plain = 2
frame_length Listed = 4

-- a line's bytes in the frame
abbrev pub framed : Frame → Line → List ℕ → List ℕ
framed f l bs = opening f l ++ (bs ++ closing f)

-- a drawing's line in its frame, its cells drawn from a table; nothing where the row has none
unfoldable pub drawn_line : Frame → List ℕ → Drawing → Line → List ℕ
drawn_line f table d l = cond (is_present d.renderer d.row l) (framed f l (cells_text table (numbers_in table d l))) []

-- all lines that a drawing's row has
abbrev pub drawn_lines : Frame → List ℕ → Drawing → List ℕ
drawn_lines f table d = joins (drawn_line f table d) all_lines

-- the refusal where these bytes have no room
abbrev pub room_refusal : List ℕ → List ℕ → ℕ
room_refusal bs out = cond (ltb (length out) (length bs)) output_shorter_than_lines not_refused

-- a line from its choices: `lettered_line` where the frame is plain, `listing_line` in a listing
abbrev pub framed_line : Frame → Renderer → DashStyle → ℕ → PrefixLine → List ℕ
framed_line f q d mark l = framed f l.kind (line_bytes (glyphs_of q) q d mark l.choices)

-- all lines of a shape, from the choices
unfoldable pub framed_bytes : Frame → Renderer → RowShape → ℕ → List ℕ
framed_bytes f q g mark = joins (framed_line f q g.style.dash_style mark) (lines q g)

-- what the call of either form gives
abbrev pub framed_answer : Frame → RowShape → Renderer → ℕ → List ℕ → Answer
framed_answer f g q mark out = answered (refusal (checks_for g mark (framed_bytes f q g mark) out)) (framed_bytes f q g mark) out
