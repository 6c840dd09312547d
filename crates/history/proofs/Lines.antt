-- The head line and the foot line of every renderer show the pad lines that the shape gives: outside the link lines one choice is defined for all.
use Prim.Native.Nat.{ℕ, suc}
use mathlib.Core.Path.{◌≡◌, refl, ◌∙◌, ap, ap₂}
use mathlib.Core.Logic.{◌≢◌}
use mathlib.Core.Bool.{Bool, true, false}
use mathlib.Core.List.{List, [], ◌∷◌, map}
use borrow.Author.Tests.{ne_eqb}
use native.Mathlib.Omega.{arith}
use Rattle.render.specs.declared.render.PadLine.{PadLine}
use Rattle.render.specs.declared.render.PadLine.TheVariants as pad
use Rattle.render.specs.declared.types.Cell.{Cell}
use Rattle.render.specs.declared.types.RowShape.{RowShape}
use Rattle.render.specs.Lines.{cells_of, node_to_pad, foot_pad, pre_node_line, post_ancestry_line}
use Rattle.glyphs.specs.declared.Renderer.{Renderer}
use Rattle.glyphs.specs.declared.types.Choice.{Choice}
use Rattle.glyphs.specs.declared.types.Line.{Line}
use Rattle.glyphs.specs.declared.types.Line.TheVariants.{PreNode, Node, PostNode, Link, SecondLink, Term, SecondTerm, Ancestry, PostAncestry}
use Rattle.glyphs.specs.declared.types.Place.{Place}
use Rattle.glyphs.specs.Cells.{is_present, keep, choice_of, line_of, lines}
use Rattle.glyphs.specs.Choices.{pad_choice}
use Rattle.glyphs.specs.Row.{row_of, places}
use Rattle.prefix_lines.specs.PrefixLines.{letter}
use Rattle.history.specs.Demand3.{Stroke, Blank, Dashed, Solid, Other}
use Rattle.history.specs.Ours.{stroke_of, line_of_kind, head_line, foot_line}

abbrev pub pad_stroke : PadLine → Stroke
pad_stroke pad.Blank = Blank
pad_stroke pad.Ancestor = Dashed
pad_stroke pad.Parent = Solid

-- no pad cell is another glyph
pub pad-known : (x : PadLine) → pad_stroke x ≢ Other
pad-known pad.Blank e = cc
pad-known pad.Ancestor e = cc
pad-known pad.Parent e = cc

-- a line of another kind is passed over
skip : (q : Renderer) (g : RowShape) (k : ℕ) (l : Line) (ls : List Line) → letter l ≢ k
    → line_of_kind k (map (line_of q g) (keep (is_present q (row_of g)) (l ∷ ls))) ≡ line_of_kind k (map (line_of q g) (keep (is_present q (row_of g)) ls))
skip q g k l ls h = go (is_present q (row_of g) l) refl
  where
    go : (b : Bool) → is_present q (row_of g) l ≡ b
        → line_of_kind k (map (line_of q g) (keep (is_present q (row_of g)) (l ∷ ls))) ≡ line_of_kind k (map (line_of q g) (keep (is_present q (row_of g)) ls))
    go true e = rw (e, ne_eqb (letter l) k h)
    go false e = rw e

head-item : (q : Renderer) (g : RowShape) → line_of_kind (letter PreNode) (lines q g) ≡ (line_of q g PreNode).choices
head-item q g = refl

foot-item : (q : Renderer) (g : RowShape) → line_of_kind (letter PostAncestry) (lines q g) ≡ (line_of q g PostAncestry).choices
foot-item q g =
    skip q g (letter PostAncestry) PreNode (Node ∷ PostNode ∷ Link ∷ SecondLink ∷ Term ∷ SecondTerm ∷ Ancestry ∷ PostAncestry ∷ []) (λ z. omega (arith, z))
    ∙ skip q g (letter PostAncestry) Node (PostNode ∷ Link ∷ SecondLink ∷ Term ∷ SecondTerm ∷ Ancestry ∷ PostAncestry ∷ []) (λ z. omega (arith, z))
    ∙ skip q g (letter PostAncestry) PostNode (Link ∷ SecondLink ∷ Term ∷ SecondTerm ∷ Ancestry ∷ PostAncestry ∷ []) (λ z. omega (arith, z))
    ∙ skip q g (letter PostAncestry) Link (SecondLink ∷ Term ∷ SecondTerm ∷ Ancestry ∷ PostAncestry ∷ []) (λ z. omega (arith, z))
    ∙ skip q g (letter PostAncestry) SecondLink (Term ∷ SecondTerm ∷ Ancestry ∷ PostAncestry ∷ []) (λ z. omega (arith, z))
    ∙ skip q g (letter PostAncestry) Term (SecondTerm ∷ Ancestry ∷ PostAncestry ∷ []) (λ z. omega (arith, z))
    ∙ skip q g (letter PostAncestry) SecondTerm (Ancestry ∷ PostAncestry ∷ []) (λ z. omega (arith, z))
    ∙ skip q g (letter PostAncestry) Ancestry (PostAncestry ∷ []) (λ z. omega (arith, z))

-- a line in which each cell is given what its derived pad cell is given
pads : (f : Place → Choice) (k : Cell → PadLine) → ((p : Place) → f p ≡ pad_choice (k p.cell)) → (i : ℕ) (cs : List Cell) → map f (places i cs) ≡ map pad_choice (map k cs)
pads f k h i [] = refl
pads f k h i (c ∷ cs) = ap₂ ◌∷◌ (h _) (pads f k h (suc i) cs)

pub head-pads : (q : Renderer) (g : RowShape) → (line_of q g PreNode).choices ≡ map pad_choice (pre_node_line g)
unfolding choice_of
head-pads q g = pads (choice_of q (row_of g) PreNode) (λ (c : Cell). node_to_pad g.is_head c.node) (λ p. refl) 0 (cells_of g)

pub foot-pads : (q : Renderer) (g : RowShape) → (line_of q g PostAncestry).choices ≡ map pad_choice (post_ancestry_line g)
unfolding choice_of
foot-pads q g = pads (choice_of q (row_of g) PostAncestry) (λ (c : Cell). foot_pad g.style.dash_style c.ancestry) (λ p. refl) 0 (cells_of g)

-- "A stroke in one is a cell for which the upright, solid or dashed, was chosen; a blank cell was given the space." (01)
shown : (ps : List PadLine) → map stroke_of (map pad_choice ps) ≡ map pad_stroke ps
shown [] = refl
shown (pad.Blank ∷ ps) = rw (shown ps)
shown (pad.Ancestor ∷ ps) = rw (shown ps)
shown (pad.Parent ∷ ps) = rw (shown ps)

pub head-shows : (q : Renderer) (g : RowShape) → head_line q g ≡ map pad_stroke (pre_node_line g)
head-shows q g = ap (map stroke_of) (head-item q g ∙ head-pads q g) ∙ shown (pre_node_line g)

pub foot-shows : (q : Renderer) (g : RowShape) → foot_line q g ≡ map pad_stroke (post_ancestry_line g)
foot-shows q g = ap (map stroke_of) (foot-item q g ∙ foot-pads q g) ∙ shown (post_ancestry_line g)
