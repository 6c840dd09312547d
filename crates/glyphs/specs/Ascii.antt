-- The ASCII renderer, after ascii.rs.
use Rattle.std.specs.Prelude.{ℕ, cond, not, ◌&&◌, List, [], ◌∷◌}
use Rattle.render.specs.declared.render.LinkLine.{LinkLine}
use Rattle.render.specs.declared.types.DashStyle.{DashStyle}
use Rattle.render.specs.declared.types.DashStyle.TheVariants.{Persistent, Once}
use Rattle.render.specs.Link.{meets, joined}
use Rattle.glyphs.specs.declared.types.Choice.{Choice}
use Rattle.glyphs.specs.declared.types.Choice.TheVariants.{Space, Solid, Dashed, Mark, End, Two, Three, Glyph}
use Rattle.glyphs.specs.declared.types.Place.{Place}
use Rattle.glyphs.specs.declared.types.Row.{Row}
use Rattle.slices.specs.Characters.{blank, quote, plus, minus, dot, slash, colon, backslash, bar, tilde}
use Rattle.glyphs.specs.Marks.{horizontal, vertical, vert_parent, left_fork, right_fork, left_merge, right_merge, any_fork, any_merge, any_fork_or_merge, child}

-- the dashed upright's character (`ancestor`)
abbrev pub ancestor : DashStyle → ℕ
ancestor Persistent = dot
ancestor Once = colon

-- the upright of a link cell without a horizontal stroke
unfoldable pub standing : Row → LinkLine → ℕ
standing r cur = cond (meets cur any_fork_or_merge && r.any_horizontal) plus (cond (meets cur vert_parent) bar (ancestor r.dash_style))

-- "Draw the parent/ancestor line."
unfoldable pub upright : Row → LinkLine → ℕ
upright r cur =
    cond (meets cur horizontal) (cond (meets cur (joined child any_fork_or_merge)) plus minus)
    (cond (meets cur vertical) (standing r cur)
    (cond (meets cur any_merge && r.any_horizontal) quote
    (cond (meets cur any_fork && r.any_horizontal) dot
    blank)))

-- "Draw the connecting line."
unfoldable pub connection : Row → LinkLine → LinkLine → ℕ
connection r cur next =
    cond (meets cur horizontal) minus
    (cond (meets cur right_merge) (cond (meets next left_fork && not r.any_horizontal) backslash minus)
    (cond (meets cur right_fork) (cond (meets next left_merge && not r.any_horizontal) slash minus)
    blank))

-- a link cell's choice (`link_line` in ascii.rs)
abbrev pub link : Row → Place → Choice
link r p = Two (upright r p.cell.link) (connection r p.cell.link p.next)

-- the bytes of a choice
abbrev pub bytes : DashStyle → ℕ → Choice → List ℕ
bytes d mark Space = blank ∷ blank ∷ []
bytes d mark Solid = bar ∷ blank ∷ []
bytes d mark Dashed = ancestor d ∷ blank ∷ []
bytes d mark Mark = mark ∷ blank ∷ []
bytes d mark End = tilde ∷ blank ∷ []
bytes d mark (Two a b) = a ∷ b ∷ []
bytes d mark (Three a b c) = []
bytes d mark (Glyph n) = []
