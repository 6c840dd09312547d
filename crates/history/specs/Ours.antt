-- The machine of our definitions: the row, reserving and text calls on views.
use Rattle.std.specs.Prelude.{ℕ, zero, suc, Bool, true, false, cond, List, [], ◌∷◌, map, eqb}
use Rattle.render.specs.declared.render.Ancestor.{Ancestor as Entry}
use Rattle.render.specs.declared.types.RowShape.{RowShape}
use Rattle.shaper.specs.Shaper.{View, reserve, origin}
use Rattle.row_shape.specs.Row.{no_shape, row}
use Rattle.glyphs.specs.declared.Renderer.{Renderer}
use Rattle.glyphs.specs.declared.types.Choice.{Choice}
use Rattle.glyphs.specs.declared.types.Choice.TheVariants as choice
use Rattle.glyphs.specs.declared.types.Line.TheVariants.{PreNode, PostAncestry}
use Rattle.glyphs.specs.Cells.{PrefixLine, lines}
use Rattle.prefix_lines.specs.PrefixLines.{letter}
use Rattle.output.specs.Output.{TextView}
use Rattle.text.specs.Text.{TextReply, text}
use Rattle.history.specs.Account.{Call, Reserve, Row}
use Rattle.history.specs.Demand3.{Stroke, Blank, Dashed, Solid, Other, Machine}

-- what a text call gets beside the shaper, the node and the entries; the text state too is its own, so that calls may share one or not
pub record TextArguments : Type 0 where
  pub state : TextView
  pub renderer : Renderer
  pub mark : ℕ
  pub message : List ℕ
  pub output : List ℕ

-- the calls of the list: reserving calls and row calls, and text calls
pub data Item : Type 0 where
  Plain : Call → Item
  Text : TextArguments → ℕ → List Entry → Item

-- "A text call, once it runs, counts there as the row call with its node and entries, refused where the text call is."
abbrev pub call_of : Item → Call
call_of (Plain k) = k
call_of (Text a n es) = Row n es

-- the text call on a list of entries
abbrev pub text_on : View → TextArguments → ℕ → List Entry → TextReply
text_on v a n es = text v a.state a.renderer n es a.mark a.message a.output

-- whether a number refuses
abbrev pub is_refusal : ℕ → Bool
is_refusal zero = false
is_refusal (suc n) = true

-- whether a reserving or row call is refused
abbrev pub refuses_call : View → Call → Bool
refuses_call v (Reserve n) = is_refusal (reserve v n).refusal
refuses_call v (Row n es) = is_refusal (row v n es).refusal

-- the view after a reserving or row call
abbrev pub after_call : View → Call → View
after_call v (Reserve n) = (reserve v n).view
after_call v (Row n es) = (row v n es).view

-- whether any call of the list is refused, a text call by the definition of that call
abbrev pub refuses : View → Item → Bool
refuses v (Plain k) = refuses_call v k
refuses v (Text a n es) = is_refusal (text_on v a n es).refusal

-- the view after any call of the list, after a text call by the definition of that call
abbrev pub after : View → Item → View
after v (Plain k) = after_call v k
after v (Text a n es) = (text_on v a n es).view

-- the shape of a row call; a reserving call has none
abbrev pub shape_of : View → Call → RowShape
shape_of v (Reserve n) = no_shape
shape_of v (Row n es) = (row v n es).shape

-- the shape of any call of the list: a text call's is that of the row call as which it counts
abbrev pub item_shape : View → Item → RowShape
item_shape v k = shape_of v (call_of k)

-- "A stroke in one is a cell for which the upright, solid or dashed, was chosen; a blank cell was given the space."
abbrev pub stroke_of : Choice → Stroke
stroke_of choice.Space = Blank
stroke_of choice.Solid = Solid
stroke_of choice.Dashed = Dashed
stroke_of choice.Mark = Other
stroke_of choice.End = Other
stroke_of (choice.Two a b) = Other
stroke_of (choice.Three a b c) = Other
stroke_of (choice.Glyph n) = Other

-- the line of a kind among those that the renderer call writes
abbrev pub line_of_kind : ℕ → List PrefixLine → List Choice
line_of_kind k [] = []
line_of_kind k (l ∷ ls) = cond (eqb (letter l.kind) k) l.choices (line_of_kind k ls)

-- "Head line and foot line are the kinds PreNode and PostAncestry" (P and Z)
abbrev pub head_line : Renderer → RowShape → List Stroke
head_line q g = map stroke_of (line_of_kind (letter PreNode) (lines q g))

-- the foot line of a shape, as strokes
abbrev pub foot_line : Renderer → RowShape → List Stroke
foot_line q g = map stroke_of (line_of_kind (letter PostAncestry) (lines q g))

-- a machine with lists of these calls and this view after each, drawn by one of the five renderers
abbrev pub leaving : (View → Item → View) → Renderer → Machine
leaving left q =
    record {
      State = View;
      columns = λ v. v.columns;
      origins = λ v. v.origins;
      query = origin;
      Item = Item;
      call = call_of;
      refuses = refuses;
      after = left;
      node = λ v k. (item_shape v k).node_column;
      head = λ v k. head_line q (item_shape v k);
      foot = λ v k. foot_line q (item_shape v k);
    }

-- our machine
abbrev pub ours : Renderer → Machine
ours = leaving after
