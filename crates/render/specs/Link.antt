-- A link cell (01, point 2): "a set of thirteen marks". "Marks are compared by name; bit places are free."
use Rattle.std.specs.Prelude.{ℕ, ◌+◌, Bool, false, cond, not, eqb}
use Rattle.std.specs.Int.Bits.{bit_and, bit_or}
use Rattle.render.specs.declared.render.LinkLine.{LinkLine}
use Rattle.render.specs.declared.render.Marks.{Marks}

-- some mark is in both sets (`intersects`)
abbrev pub meets : LinkLine → LinkLine → Bool
meets a b = not (eqb (bit_and a.bits b.bits) 0)

-- the marks of either set
abbrev pub joined : LinkLine → LinkLine → LinkLine
joined a b = record { bits = bit_or a.bits b.bits }

-- the set without marks (`LinkLine::empty`)
abbrev pub no_marks : LinkLine
no_marks = record { bits = 0 }

-- a mark's bit where the cell has the mark
abbrev pub only : Bool → ℕ → ℕ
only b n = cond b n 0

-- strokes that pass a cell, solid and dashed, and no other mark
abbrev pub strokes : Bool → Bool → Marks
strokes solid dashed =
    record {
      horiz_parent = solid;
      horiz_ancestor = dashed;
      vert_parent = false;
      vert_ancestor = false;
      left_fork_parent = false;
      left_fork_ancestor = false;
      right_fork_parent = false;
      right_fork_ancestor = false;
      left_merge_parent = false;
      left_merge_ancestor = false;
      right_merge_parent = false;
      right_merge_ancestor = false;
      child = false;
    }

-- no mark, by name
abbrev pub unmarked : Marks
unmarked = strokes false false

-- the set of the marks that are named, each in the bit place of its constant
abbrev pub link_of : Marks → LinkLine
link_of m =
    record {
      bits =
          only m.horiz_parent 1 + only m.horiz_ancestor 2 + only m.vert_parent 4 + only m.vert_ancestor 8
          + only m.left_fork_parent 16
          + only m.left_fork_ancestor 32
          + only m.right_fork_parent 64
          + only m.right_fork_ancestor 128
          + only m.left_merge_parent 256
          + only m.left_merge_ancestor 512
          + only m.right_merge_parent 1024
          + only m.right_merge_ancestor 2048
          + only m.child 4096;
    }
