-- The large ASCII renderer, after ascii_large.rs.
use Rattle.std.specs.Prelude.{ℕ, cond, List, [], ◌∷◌, ltb}
use Rattle.render.specs.declared.render.LinkLine.{LinkLine}
use Rattle.render.specs.declared.types.DashStyle.{DashStyle}
use Rattle.render.specs.Link.{meets}
use Rattle.glyphs.specs.declared.types.Choice.{Choice}
use Rattle.glyphs.specs.declared.types.Choice.TheVariants.{Space, Solid, Dashed, Mark, End, Two, Three, Glyph}
use Rattle.glyphs.specs.declared.types.Place.{Place}
use Rattle.glyphs.specs.declared.types.Row.{Row}
use Rattle.glyphs.specs.Ascii.{ancestor}
use Rattle.slices.specs.Characters.{blank, dot, slash, backslash, underscore, bar, tilde}
use Rattle.glyphs.specs.Marks.{horiz_parent, horiz_ancestor, vert_parent, vert_ancestor, left_fork_parent, left_fork_ancestor, right_fork_parent, right_fork_ancestor, left_merge_parent, left_merge_ancestor, right_merge_parent, right_merge_ancestor, any_merge}

-- the parent's character where the cell has the parent's mark, the ancestor's where it has that one, else another
abbrev pub stroke : LinkLine → LinkLine → LinkLine → ℕ → ℕ → ℕ → ℕ
stroke cur parent indirect solid dashed other = cond (meets cur parent) solid (cond (meets cur indirect) dashed other)

-- the horizontal stroke of the upper link line
unfoldable pub level : LinkLine → ℕ
level cur = stroke cur horiz_parent horiz_ancestor underscore dot blank

-- "Top left", "Top center", "Top right"
unfoldable pub top_left : LinkLine → ℕ
top_left cur = stroke cur left_merge_parent left_merge_ancestor slash dot (level cur)

unfoldable pub lying : LinkLine → ℕ
lying cur = cond (meets cur any_merge) blank (level cur)

unfoldable pub top_center : DashStyle → LinkLine → ℕ
top_center d cur = stroke cur vert_parent vert_ancestor bar (ancestor d) (lying cur)

unfoldable pub top_right : LinkLine → ℕ
top_right cur = stroke cur right_merge_parent right_merge_ancestor backslash dot (level cur)

-- "Bottom left", "Bottom center", "Bottom right"
unfoldable pub bottom_left : LinkLine → ℕ
bottom_left cur = stroke cur left_fork_parent left_fork_ancestor backslash dot blank

unfoldable pub bottom_center : DashStyle → LinkLine → ℕ
bottom_center d cur = stroke cur vert_parent vert_ancestor bar (ancestor d) blank

unfoldable pub bottom_right : LinkLine → ℕ
bottom_right cur = stroke cur right_fork_parent right_fork_ancestor slash dot blank

-- three characters, without the first in cell 0
abbrev pub linked : ℕ → ℕ → ℕ → ℕ → Choice
linked i a b c = cond (ltb 0 i) (Three a b c) (Two b c)

-- a cell's choice in the upper link line (`link_line` in ascii_large.rs)
abbrev pub link : Row → Place → Choice
link r p = linked p.index (top_left p.cell.link) (top_center r.dash_style p.cell.link) (top_right p.cell.link)

-- and in the lower one
abbrev pub second_link : Row → Place → Choice
second_link r p = linked p.index (bottom_left p.cell.link) (bottom_center r.dash_style p.cell.link) (bottom_right p.cell.link)

-- a blank before it in each cell but the first
abbrev pub apart : ℕ → List ℕ → List ℕ
apart i bs = cond (ltb 0 i) (blank ∷ bs) bs

-- the bytes of a choice in cell i
abbrev pub bytes : DashStyle → ℕ → ℕ → Choice → List ℕ
bytes d mark i Space = apart i (blank ∷ blank ∷ [])
bytes d mark i Solid = apart i (bar ∷ blank ∷ [])
bytes d mark i Dashed = apart i (ancestor d ∷ blank ∷ [])
bytes d mark i Mark = apart i (mark ∷ blank ∷ [])
bytes d mark i End = apart i (tilde ∷ blank ∷ [])
bytes d mark i (Two a b) = a ∷ b ∷ []
bytes d mark i (Three a b c) = a ∷ b ∷ c ∷ []
bytes d mark i (Glyph n) = []
