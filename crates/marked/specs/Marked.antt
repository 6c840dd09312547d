-- Document 01's marked rows M2 to M10, each clause, about the definitions that the contracts cite: closed by computing.
use Rattle.std.specs.Prelude.{ℕ, zero, suc, ◌≡◌, refl, Bool, true, false, List, [], ◌∷◌, map, length, Some}
use Rattle.column.specs.declared.Column.TheVariants as column
use Rattle.render.specs.declared.render.Ancestor.TheVariants.{Ancestor, Parent, Anonymous}
use Rattle.render.specs.declared.render.Marks.{Marks}
use Rattle.render.specs.declared.types.DashStyle.TheVariants.{Persistent}
use Rattle.render.specs.declared.types.LinkLinePlacement.TheVariants.{Top}
use Rattle.render.specs.declared.types.Cell.{Cell}
use Rattle.render.specs.Link.{link_of}
use Rattle.render.specs.Lines.{cells_of}
use Rattle.render.specs.Refusals.{no_column_left, node_line_too_wide}
use Rattle.shaper.specs.Shaper.{View, Reply, new_shaper, reserve}
use Rattle.placing.specs.Placing.{place}
use Rattle.row_shape.specs.Row.{RowReply, row}
use Rattle.preview.specs.Preview.{PreviewReply, preview}
use Rattle.width.specs.Width.{width}

-- a new shaper with Persistent dashes and Top
abbrev pub new : ℕ → Bool → Reply
new height stagger =
    new_shaper
    (record {
      min_row_height = height;
      stagger_consecutive_disconnected_nodes = stagger;
      graph_row_shape_style = record { dash_style = Persistent; link_line_placement = Top };
    })

abbrev pub plain : View
plain = (new 1 false).view

-- after reservations of the ids from 0 up to n - 1
abbrev pub reservations : ℕ → View
reservations zero = plain
reservations (suc n) = (reserve (reservations n) n).view

pub record M2 : Type 0 where
  pub made : (new 1 false).refusal ≡ 0
  pub first : (row plain 1 []).refusal ≡ 0
  pub first-column : (row plain 1 []).shape.node_column ≡ 0
  pub first-separator : (row plain 1 []).shape.separator_line ≡ false
  pub second : (row (row plain 1 []).view 2 []).refusal ≡ 0
  pub second-column : (row (row plain 1 []).view 2 []).shape.node_column ≡ 0
  pub second-separator : (row (row plain 1 []).view 2 []).shape.separator_line ≡ true

pub m2 : M2
unfolding row place
m2 = record { made = refl; first = refl; first-column = refl; first-separator = refl; second = refl; second-column = refl; second-separator = refl }

abbrev pub m3-one : RowReply
m3-one = row (new 1 true).view 1 []

abbrev pub m3-two : RowReply
m3-two = row m3-one.view 2 []

abbrev pub m3-three : RowReply
m3-three = row m3-two.view 3 []

pub record M3 : Type 0 where
  pub made : (new 1 true).refusal ≡ 0
  pub accepted : map (λ (r : RowReply). r.refusal) (m3-one ∷ m3-two ∷ m3-three ∷ []) ≡ 0 ∷ 0 ∷ 0 ∷ []
  pub columns : map (λ (r : RowReply). r.shape.node_column) (m3-one ∷ m3-two ∷ m3-three ∷ []) ≡ 0 ∷ 1 ∷ 0 ∷ []

pub m3 : M3
unfolding row place
m3 = record { made = refl; accepted = refl; columns = refl }

abbrev pub m4-one : RowReply
m4-one = row (new 2 true).view 1 []

abbrev pub m4-two : RowReply
m4-two = row m4-one.view 2 []

pub record M4 : Type 0 where
  pub made : (new 2 true).refusal ≡ 0
  pub accepted : map (λ (r : RowReply). r.refusal) (m4-one ∷ m4-two ∷ []) ≡ 0 ∷ 0 ∷ []
  pub columns : map (λ (r : RowReply). r.shape.node_column) (m4-one ∷ m4-two ∷ []) ≡ 0 ∷ 0 ∷ []
  pub separators : map (λ (r : RowReply). r.shape.separator_line) (m4-one ∷ m4-two ∷ []) ≡ false ∷ false ∷ []

pub m4 : M4
unfolding row place
m4 = record { made = refl; accepted = refl; columns = refl; separators = refl }

abbrev pub m5-row : RowReply
m5-row = row plain 5 (Parent 7 ∷ Ancestor 7 ∷ [])

pub record M5 : Type 0 where
  pub made : (new 1 false).refusal ≡ 0
  pub accepted : m5-row.refusal ≡ 0
  pub columns : m5-row.view.columns ≡ column.Parent 7 ∷ []
  pub merge : m5-row.shape.merge ≡ true
  pub link : m5-row.shape.link_line ≡ false

pub m5 : M5
unfolding row place
m5 = record { made = refl; accepted = refl; columns = refl; merge = refl; link = refl }

abbrev pub m6-row : RowReply
m6-row = row plain 5 (Anonymous ∷ Anonymous ∷ [])

pub record M6 : Type 0 where
  pub made : (new 1 false).refusal ≡ 0
  pub accepted : m6-row.refusal ≡ 0
  pub term : m6-row.shape.term_line ≡ true
  pub terms : map (λ (c : Cell). c.term) (cells_of m6-row.shape) ≡ true ∷ true ∷ []
  pub columns : m6-row.view.columns ≡ []

pub m6 : M6
unfolding row place
m6 = record { made = refl; accepted = refl; term = refl; terms = refl; columns = refl }

abbrev pub m7-row : RowReply
m7-row = row (reserve plain 9).view 9 []

pub record M7 : Type 0 where
  pub made : (new 1 false).refusal ≡ 0
  pub reserved : (reserve plain 9).refusal ≡ 0
  pub accepted : m7-row.refusal ≡ 0
  pub column : m7-row.shape.node_column ≡ 0
  pub head : m7-row.shape.is_head ≡ true

pub m7 : M7
unfolding reserve row place
m7 = record { made = refl; reserved = refl; accepted = refl; column = refl; head = refl }

abbrev pub m8-row : RowReply
m8-row = row (reserve (reserve plain 6).view 4).view 6 (Parent 4 ∷ [])

abbrev pub m8-marks : List Marks
m8-marks =
    record {
      horiz_parent = false;
      horiz_ancestor = false;
      vert_parent = true;
      vert_ancestor = false;
      left_fork_parent = false;
      left_fork_ancestor = false;
      right_fork_parent = false;
      right_fork_ancestor = true;
      left_merge_parent = false;
      left_merge_ancestor = false;
      right_merge_parent = false;
      right_merge_ancestor = false;
      child = true;
    }
    ∷ record {
      horiz_parent = false;
      horiz_ancestor = false;
      vert_parent = false;
      vert_ancestor = false;
      left_fork_parent = false;
      left_fork_ancestor = false;
      right_fork_parent = false;
      right_fork_ancestor = false;
      left_merge_parent = false;
      left_merge_ancestor = true;
      right_merge_parent = false;
      right_merge_ancestor = false;
      child = false;
    }
    ∷ []

pub record M8 : Type 0 where
  pub made : (new 1 false).refusal ≡ 0
  pub first : (reserve plain 6).refusal ≡ 0
  pub second : (reserve (reserve plain 6).view 4).refusal ≡ 0
  pub accepted : m8-row.refusal ≡ 0
  pub present : m8-row.shape.link_line ≡ true
  pub link : map (λ (c : Cell). c.link) (cells_of m8-row.shape) ≡ map link_of m8-marks
  pub columns : m8-row.view.columns ≡ column.Parent 4 ∷ []

pub m8 : M8
unfolding reserve row place
m8 = record { made = refl; first = refl; second = refl; accepted = refl; present = refl; link = refl; columns = refl }

pub record M9 : Type 0 where
  pub made : (new 1 false).refusal ≡ 0
  pub columns : length (reservations 64).columns ≡ 64
  pub new-id : (reserve (reservations 64) 100).refusal ≡ no_column_left
  pub held-id : (reserve (reservations 64) 5).refusal ≡ 0
  pub one_parent : (row (reservations 64) 5 (Parent 100 ∷ [])).refusal ≡ 0
  pub two-parents : (row (reservations 64) 5 (Parent 100 ∷ Parent 101 ∷ [])).refusal ≡ node_line_too_wide

pub m9 : M9
unfolding reserve row place
m9 = record { made = refl; columns = refl; new-id = refl; held-id = refl; one_parent = refl; two-parents = refl }

abbrev pub m10-first : RowReply
m10-first = row plain 1 (Parent 7 ∷ [])

abbrev pub m10-view : View
m10-view = m10-first.view

abbrev pub m10-preview : PreviewReply
m10-preview = preview m10-view 7 (Parent 7 ∷ Parent 8 ∷ [])

pub record M10 : Type 0 where
  pub made : (new 1 false).refusal ≡ 0
  pub first : m10-first.refusal ≡ 0
  pub columns : m10-view.columns ≡ column.Parent 7 ∷ []
  pub width-accepted : (width m10-view (Some 7) (Parent 7 ∷ Parent 8 ∷ [])).refusal ≡ 0
  pub width : (width m10-view (Some 7) (Parent 7 ∷ Parent 8 ∷ [])).width ≡ 1
  pub accepted : (row m10-view 7 (Parent 7 ∷ Parent 8 ∷ [])).refusal ≡ 0
  pub cells : length (cells_of (row m10-view 7 (Parent 7 ∷ Parent 8 ∷ [])).shape) ≡ 2
  -- "The width call keeps the Rust's figure, also where the preview differs (M10)." (02, R-1)
  pub previewed : m10-preview.refusal ≡ 0
  pub preview-width : m10-preview.width ≡ 2

pub m10 : M10
unfolding row place width
m10 =
    record {
      made = refl;
      first = refl;
      columns = refl;
      width-accepted = refl;
      width = refl;
      accepted = refl;
      cells = refl;
      previewed = refl;
      preview-width = refl;
    }

-- ready to stand under the single theorem with M1
pub record Marked : Type 0 where
  pub case2 : M2
  pub case3 : M3
  pub case4 : M4
  pub case5 : M5
  pub case6 : M6
  pub case7 : M7
  pub case8 : M8
  pub case9 : M9
  pub case10 : M10

pub marked : Marked
marked = record { case2 = m2; case3 = m3; case4 = m4; case5 = m5; case6 = m6; case7 = m7; case8 = m8; case9 = m9; case10 = m10 }
