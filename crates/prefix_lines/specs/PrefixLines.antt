-- The renderer call (01, "Added by us" and "Where a call turns back"): the bytes of its lines, and the answer.
use Rattle.std.specs.Prelude.{ℕ, zero, suc, not, List, [], ◌∷◌, ◌++◌, ltb, length, Result, Ok, Err}
use Rattle.column.specs.Columns.{column_limit}
use Rattle.render.specs.declared.types.DashStyle.{DashStyle}
use Rattle.render.specs.declared.types.RowShape.{RowShape}
use Rattle.render.specs.Mark.{is_mark}
use Rattle.render.specs.declared.refusals.Refusal.{Refusal}
use Rattle.render.specs.Refusals.{not_refused, mark_outside_span, output_shorter_than_lines, shape_too_wide, Check, ◌when◌, refusal, number}
use Rattle.glyphs.specs.declared.Renderer.{Renderer}
use Rattle.glyphs.specs.declared.types.Line.{Line}
use Rattle.glyphs.specs.declared.types.Line.TheVariants.{PreNode, Node, PostNode, Link, SecondLink, Term, SecondTerm, Ancestry, PostAncestry}
use Rattle.glyphs.specs.Cells.{PrefixLine, lines, glyphs_of, line_bytes}
use Rattle.slices.specs.Characters.{newline}
use Rattle.slices.specs.Joins.{joins, over}

-- the kind letters: P N Q L L T T A Z
abbrev pub letter : Line → ℕ
letter PreNode = 0x50
letter Node = 0x4e
letter PostNode = 0x51
letter Link = 0x4c
letter SecondLink = 0x4c
letter Term = 0x54
letter SecondTerm = 0x54
letter Ancestry = 0x41
letter PostAncestry = 0x5a

-- "each line as its kind letter .., the line with the mark in place, then 0A" (01)
abbrev pub lettered_line : (ℕ → List ℕ) → Renderer → DashStyle → ℕ → PrefixLine → List ℕ
lettered_line glyphs q d mark l = letter l.kind ∷ (line_bytes glyphs q d mark l.choices ++ (newline ∷ []))

-- the bytes of a shape's prefix lines, for any glyphs
unfoldable pub lines_bytes : (ℕ → List ℕ) → Renderer → RowShape → ℕ → List ℕ
lines_bytes glyphs q g mark = joins (lettered_line glyphs q g.style.dash_style mark) (lines q g)

-- the renderer's rows of 01's table, in their order, where these bytes are to be written
abbrev pub checks_for : RowShape → ℕ → List ℕ → List ℕ → List Check
checks_for g mark bs out =
    (mark_outside_span when not (is_mark mark))
    ∷ (shape_too_wide when ltb column_limit g.width)
    ∷ (output_shorter_than_lines when ltb (length out) (length bs))
    ∷ []

-- what a call gives: the refusal, the length, and the output afterwards
pub record Answer : Type 0 where
  pub refusal : ℕ
  pub length : ℕ
  pub output : List ℕ

-- what the renderer call gave, a length or a refusal, in the definition's words
abbrev pub answer_of : Result ℕ Refusal → List ℕ → Answer
answer_of (Ok n) out = record { refusal = not_refused; length = n; output = out }
answer_of (Err e) out = record { refusal = number e; length = 0; output = out }

-- "A refusal gives its number, length 0, .. and changes no .. output." (01)
abbrev pub answered : ℕ → List ℕ → List ℕ → Answer
answered zero bs out = record { refusal = 0; length = length bs; output = over bs out }
answered (suc n) bs out = record { refusal = suc n; length = 0; output = out }

-- the renderer call for any glyphs
abbrev pub prefix_lines_with : (ℕ → List ℕ) → RowShape → Renderer → ℕ → List ℕ → Answer
prefix_lines_with glyphs g q mark out = answered (refusal (checks_for g mark (lines_bytes glyphs q g mark) out)) (lines_bytes glyphs q g mark) out

-- the renderer call: the renderer's own glyphs
abbrev pub next_prefix_lines : RowShape → Renderer → ℕ → List ℕ → Answer
next_prefix_lines g q mark out = prefix_lines_with (glyphs_of q) g q mark out
