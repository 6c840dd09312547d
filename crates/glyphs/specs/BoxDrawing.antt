-- The box drawing renderers, after box_drawing.rs, for an arbitrary glyph set.
use Rattle.std.specs.Prelude.{ℕ, Bool, cond, not, ◌&&◌, ◌||◌, List, [], ◌∷◌, eqb}
use Rattle.render.specs.declared.render.LinkLine.{LinkLine}
use Rattle.render.specs.declared.types.DashStyle.{DashStyle}
use Rattle.render.specs.declared.types.DashStyle.TheVariants.{Persistent, Once}
use Rattle.render.specs.Link.{meets}
use Rattle.glyphs.specs.declared.types.Choice.{Choice}
use Rattle.glyphs.specs.declared.types.Choice.TheVariants.{Space, Solid, Dashed, Mark, End, Two, Three, Glyph}
use Rattle.glyphs.specs.declared.types.Place.{Place}
use Rattle.glyphs.specs.declared.types.Row.{Row}
use Rattle.slices.specs.Characters.{blank}
use Rattle.glyphs.specs.GlyphSets.{SPACE, HORIZONTAL, PARENT, ANCESTOR, MERGE-LEFT, MERGE-RIGHT, MERGE-BOTH, FORK-LEFT, FORK-RIGHT, FORK-BOTH, JOIN-LEFT, JOIN-RIGHT, JOIN-BOTH, TERMINATION, ANCESTOR-ONCE}
use Rattle.glyphs.specs.Marks as marks

-- the dashed upright's number (`ancestor`)
abbrev pub ancestor : DashStyle → ℕ
ancestor Persistent = ANCESTOR
ancestor Once = ANCESTOR-ONCE

-- "eight yes-or-no facts about the cell .. and the row's merge flag" (02, R-4)
pub record Facts : Type 0 where
  pub horizontal : Bool
  pub vert_parent : Bool
  pub vert_ancestor : Bool
  pub left_fork : Bool
  pub right_fork : Bool
  pub left_merge : Bool
  pub right_merge : Bool
  pub child : Bool
  pub merge : Bool

-- the facts of a link cell in a row that has the merge flag or not: which of these marks it has
abbrev pub facts_of : Bool → LinkLine → Facts
facts_of merge cur =
    record {
      horizontal = meets cur marks.horizontal;
      vert_parent = meets cur marks.vert_parent;
      vert_ancestor = meets cur marks.vert_ancestor;
      left_fork = meets cur marks.left_fork;
      right_fork = meets cur marks.right_fork;
      left_merge = meets cur marks.left_merge;
      right_merge = meets cur marks.right_merge;
      child = meets cur marks.child;
      merge = merge;
    }

-- ANY_FORK
abbrev pub any_fork : Facts → Bool
any_fork f = f.left_fork || f.right_fork

-- ANY_MERGE
abbrev pub any_merge : Facts → Bool
any_merge f = f.left_merge || f.right_merge

-- a link cell with a horizontal stroke
abbrev pub across : Facts → ℕ
across f =
    cond f.child JOIN-BOTH
    (cond (any_fork f && any_merge f) JOIN-BOTH
    (cond (any_fork f && (f.vert_parent && not f.merge)) JOIN-BOTH
    (cond (any_fork f) FORK-BOTH
    (cond (any_merge f) MERGE-BOTH
    HORIZONTAL))))

-- an upright, with strokes to the left and to the right or else another
abbrev pub between : Bool → Bool → ℕ → ℕ
between left right other = cond left (cond right JOIN-BOTH JOIN-LEFT) (cond right JOIN-RIGHT other)

-- a link cell with neither
abbrev pub turning : Facts → ℕ
turning f =
    cond (f.left_fork && (f.left_merge || f.child)) JOIN-LEFT
    (cond (f.right_fork && (f.right_merge || f.child)) JOIN-RIGHT
    (cond (f.left_merge && f.right_merge) MERGE-BOTH
    (cond (f.left_fork && f.right_fork) FORK-BOTH
    (cond f.left_fork FORK-LEFT
    (cond f.left_merge MERGE-LEFT
    (cond f.right_fork FORK-RIGHT
    (cond f.right_merge MERGE-RIGHT
    SPACE)))))))

-- the upright by itself
abbrev pub plain : Facts → ℕ
plain f = cond f.vert_ancestor ANCESTOR PARENT

-- the number of the link glyph that box_drawing.rs chooses, ANCESTOR for the dashed upright of either style
unfoldable pub box_link : Facts → ℕ
box_link f =
    cond f.horizontal (across f)
    (cond (f.vert_parent && not f.merge) (between (f.left_merge || f.left_fork) (f.right_merge || f.right_fork) PARENT)
    (cond ((f.vert_parent || f.vert_ancestor) && not (any_fork f)) (between f.left_merge f.right_merge (plain f))
    (turning f)))

-- a link cell's choice, where the glyph of nine facts is named by the argument (`link_line` in box_drawing.rs)
abbrev pub link : (Facts → ℕ) → Row → Place → Choice
link named r p = Glyph (named (facts_of r.merge p.cell.link))

-- the row's own dashed upright in place of ANCESTOR
abbrev pub styled : DashStyle → ℕ → ℕ
styled d n = cond (eqb n ANCESTOR) (ancestor d) n

-- the bytes of a choice in a glyph set
abbrev pub bytes : (ℕ → List ℕ) → DashStyle → ℕ → Choice → List ℕ
bytes glyphs d mark Space = glyphs SPACE
bytes glyphs d mark Solid = glyphs PARENT
bytes glyphs d mark Dashed = glyphs (ancestor d)
bytes glyphs d mark Mark = mark ∷ blank ∷ []
bytes glyphs d mark End = glyphs TERMINATION
bytes glyphs d mark (Two a b) = []
bytes glyphs d mark (Three a b c) = []
bytes glyphs d mark (Glyph n) = glyphs (styled d n)
