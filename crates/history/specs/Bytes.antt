-- A head line and a foot line of strokes as bytes, and that a renderer call writes them.
use Rattle.std.specs.Prelude.{ℕ, suc, ◌≤◌, ◌≡◌, ◌≢◌, Bool, true, false, List, [], ◌∷◌, ◌++◌, eqb, length, take}
use Rattle.render.specs.declared.types.DashStyle.{DashStyle}
use Rattle.render.specs.declared.types.RowShape.{RowShape}
use Rattle.render.specs.Mark.{is_mark}
use Rattle.glyphs.specs.declared.Renderer.{Renderer}
use Rattle.glyphs.specs.declared.types.Choice.TheVariants as choice
use Rattle.glyphs.specs.declared.types.Line.TheVariants.{PreNode, PostAncestry}
use Rattle.glyphs.specs.Cells.{keep, glyphs_of, bytes_of}
use Rattle.slices.specs.Characters.{newline}
use Rattle.slices.specs.Joins.{over}
use Rattle.prefix_lines.specs.PrefixLines.{letter, lines_bytes, Answer, next_prefix_lines}
use Rattle.message.specs.Message.{lines_of}
use Rattle.history.specs.Demand3.{Stroke, Blank, Dashed, Solid, Other, Machine, Clause, draws}

-- the bytes of a stroke in cell i: those of "the upright, solid or dashed", or of "the space"; no mark stands in them, and 0 is given for it; any other has none
abbrev pub stroke_bytes : Renderer → DashStyle → ℕ → Stroke → List ℕ
stroke_bytes q d i Blank = bytes_of (glyphs_of q) q d 0 i choice.Space
stroke_bytes q d i Dashed = bytes_of (glyphs_of q) q d 0 i choice.Dashed
stroke_bytes q d i Solid = bytes_of (glyphs_of q) q d 0 i choice.Solid
stroke_bytes q d i Other = []

-- the bytes of strokes from cell i on
abbrev pub strokes_from : Renderer → DashStyle → ℕ → List Stroke → List ℕ
strokes_from q d i [] = []
strokes_from q d i (x ∷ xs) = stroke_bytes q d i x ++ strokes_from q d (suc i) xs

-- the bytes of a line of strokes ("A line is compared as `render_prefix_line` joins it")
abbrev pub strokes_bytes : Renderer → DashStyle → List Stroke → List ℕ
strokes_bytes q d xs = strokes_from q d 0 xs

-- a line whose cells are all "solid, dashed or blank"
abbrev pub NoOther : List Stroke → Type 0
NoOther [] = Unit {0}
NoOther (x ∷ xs) = (x ≢ Other) × NoOther xs

-- a head line of strokes as it is written before its 0A: "its kind letter .., the line with the mark in place", where no mark has a place
abbrev pub head_text : Renderer → DashStyle → List Stroke → List ℕ
head_text q d head = letter PreNode ∷ strokes_bytes q d head

-- a foot line of strokes as it is written before its 0A
abbrev pub foot_text : Renderer → DashStyle → List Stroke → List ℕ
foot_text q d foot = letter PostAncestry ∷ strokes_bytes q d foot

-- the lines that a renderer call wrote ("each line .., then 0A"): the bytes that it counts, split at 0A
abbrev pub written_lines : Answer → List (List ℕ)
written_lines a = lines_of (take a.length a.output)

-- whether a line begins with a letter ("its kind letter")
abbrev pub begins_with : ℕ → List ℕ → Bool
begins_with k [] = false
begins_with k (b ∷ bs) = eqb b k

-- "Head line and foot line are the kinds PreNode and PostAncestry, as a renderer call that accepts the row's shape writes them, with any mark.": the call on the shape g
-- writes these strokes
pub record LinesWritten (q : Renderer) (g : RowShape) (head foot : List Stroke) (mark : ℕ) (out : List ℕ) : Type 0 where
  pub accepted : (next_prefix_lines g q mark out).refusal ≡ 0
  -- the head line is written first
  pub first : (rest : List ℕ) × ((next_prefix_lines g q mark out).output ≡ head_text q g.style.dash_style head ++ (newline ∷ rest))
  -- the foot line is written last: "Success writes a prefix of the output and nothing behind it."
  pub last : (front : List ℕ) × ((next_prefix_lines g q mark out).output ≡ over (front ++ (foot_text q g.style.dash_style foot ++ (newline ∷ []))) out)
      × ((next_prefix_lines g q mark out).length ≡ length (front ++ (foot_text q g.style.dash_style foot ++ (newline ∷ []))))
  -- of the lines written, one begins with P and one with Z: the head line and the foot line
  pub one_head : keep (begins_with (letter PreNode)) (written_lines (next_prefix_lines g q mark out)) ≡ head_text q g.style.dash_style head ∷ []
  pub one_foot : keep (begins_with (letter PostAncestry)) (written_lines (next_prefix_lines g q mark out)) ≡ foot_text q g.style.dash_style foot ∷ []

-- "with any mark": they are written for every mark and output with room, whatever the mark is
abbrev pub AlwaysWritten : Renderer → RowShape → List Stroke → List Stroke → Type 0
AlwaysWritten q g head foot =
    (mark : ℕ) (out : List ℕ) → is_mark mark ≡ true → length (lines_bytes (glyphs_of q) q g mark) ≤ length out → LinesWritten q g head foot mark out

-- a machine's own head line and foot line of an accepted row are so written, by the row's shape
abbrev pub LinesInBytes : (M : Machine) → (M.State → M.Item → RowShape) → Renderer → Clause M
LinesInBytes M shape q s w a k = draws M s k ≡ true → AlwaysWritten q (shape s k) (M.head s k) (M.foot s k)
