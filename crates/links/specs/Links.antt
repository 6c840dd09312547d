-- The marks of a row's link line (01, point 2: "A link cell is a set of thirteen marks"; graph_to_row_shape.rs): each mark of each cell as a condition.
use Rattle.std.specs.Prelude.{ℕ, suc, min, max, Bool, true, false, cond, not, ◌&&◌, ◌||◌, List, [], ◌∷◌, ltb, eqb, Some, None}
use Rattle.column.specs.declared.Column.{Column}
use Rattle.column.specs.Found.{Found}
use Rattle.column.specs.Columns.{is_ancestor, is_parent}
use Rattle.render.specs.declared.render.Ancestor.{Ancestor as Entry}
use Rattle.render.specs.declared.render.Ancestor.TheVariants.{Ancestor as Indirect, Parent as Direct, Anonymous}
use Rattle.render.specs.declared.render.Marks.{Marks}
use Rattle.links.specs.declared.Drawn.{Drawn}
use Rattle.links.specs.declared.Drawn.TheVariants as drawn
use Rattle.links.specs.declared.AncestorColumnBounds.{AncestorColumnBounds}
use Rattle.links.specs.declared.Swap.{Swap}

-- ---- of the entry that draws in a column, by its kind, and of a column that was found

-- the kind of an entry that draws: "Ancestor (indirect), Parent (direct), Anonymous" (01, point 2)
abbrev pub drawn_by : Entry → Drawn
drawn_by (Indirect n) = drawn.Indirect
drawn_by (Direct n) = drawn.Direct
drawn_by Anonymous = drawn.Anonymous

-- whether an entry draws
abbrev pub is_drawn : Drawn → Bool
is_drawn drawn.Nobody = false
is_drawn drawn.Indirect = true
is_drawn drawn.Direct = true
is_drawn drawn.Anonymous = true

-- whether a direct one does: "Parent (direct), Anonymous (.. counts as direct ..)" (01, point 2; `ancestor_is_direct` in graph_to_row_shape.rs)
abbrev pub is_directly_drawn : Drawn → Bool
is_directly_drawn drawn.Nobody = false
is_directly_drawn drawn.Indirect = false
is_directly_drawn drawn.Direct = true
is_directly_drawn drawn.Anonymous = true

-- whether an indirect one does: "Ancestor (indirect)" (01, point 2)
abbrev pub is_indirectly_drawn : Drawn → Bool
is_indirectly_drawn drawn.Nobody = false
is_indirectly_drawn drawn.Indirect = true
is_indirectly_drawn drawn.Direct = false
is_indirectly_drawn drawn.Anonymous = false

-- whether an Anonymous one does
abbrev pub is_anonymously_drawn : Drawn → Bool
is_anonymously_drawn drawn.Nobody = false
is_anonymously_drawn drawn.Indirect = false
is_anonymously_drawn drawn.Direct = false
is_anonymously_drawn drawn.Anonymous = true

-- whether a column was found, and it passes a test
abbrev pub found_as : (ℕ → Bool) → Found → Bool
found_as t None = false
found_as t (Some p) = t p

-- whether that column was found
abbrev pub is_at : Found → ℕ → Bool
is_at f i = found_as (λ p. eqb p i) f

-- ---- how far the entries' columns reach (`AncestorColumnBounds`)

-- the leftmost cell that passes a test, counted from i, or c where that is farther left (`AncestorColumnBounds::new`)
abbrev pub leftmost : (Drawn → Bool) → List Drawn → ℕ → ℕ → ℕ
leftmost t [] i c = c
leftmost t (d ∷ ds) i c = min (cond (t d) i c) (leftmost t ds (suc i) c)

-- the rightmost one (`AncestorColumnBounds::new`)
abbrev pub rightmost : (Drawn → Bool) → List Drawn → ℕ → ℕ → ℕ
rightmost t [] i c = c
rightmost t (d ∷ ds) i c = max (cond (t d) i c) (rightmost t ds (suc i) c)

-- how far entries, and direct ones, reach to either side of the node's column c (`AncestorColumnBounds::new`)
abbrev pub bounds_of : List Drawn → ℕ → AncestorColumnBounds
bounds_of ds c =
    record {
      target = c;
      min_ancestor = leftmost is_drawn ds 0 c;
      min_parent = leftmost is_directly_drawn ds 0 c;
      max_parent = rightmost is_directly_drawn ds 0 c;
      max_ancestor = rightmost is_drawn ds 0 c;
    }

-- ---- the marks

-- whether cell i lies between the outermost direct entries (`horizontal_line`)
abbrev pub inner : AncestorColumnBounds → ℕ → Bool
inner b i = ltb b.min_parent i && ltb i b.max_parent

-- whether it lies between the outermost entries (`horizontal_line`)
abbrev pub outer : AncestorColumnBounds → ℕ → Bool
outer b i = ltb b.min_ancestor i && ltb i b.max_ancestor

-- whether it lies between the node and the column given up in a swap (`next_row_shape`)
abbrev pub swap_bar : AncestorColumnBounds → Swap → ℕ → Bool
swap_bar b w i = ltb b.target i && found_as (ltb i) w.given_up

-- whether a solid stroke passes cell i: the swap's strokes are solid if the column given up was Parent before the row
abbrev pub passes_solid : AncestorColumnBounds → Swap → ℕ → Bool
passes_solid b w i = inner b i || (swap_bar b w i && w.was_direct)

-- whether a dashed stroke passes it
abbrev pub passes_dashed : AncestorColumnBounds → Swap → ℕ → Bool
passes_dashed b w i = (not (inner b i) && outer b i) || (swap_bar b w i && not w.was_direct)

-- the marks of cell i that come from the node, where d draws in it (`link_line_from_node` in `next_row_shape`, `ancestor_to_link_line`)
abbrev pub from_node : AncestorColumnBounds → Swap → ℕ → Drawn → Marks
from_node b w i d =
    let c : ℕ = b.target in
    let here : Bool = eqb i c in
    let gone : Bool = is_at w.given_up i in
    let bend : Bool = here && found_as (λ p. true) w.given_up in
    let solid : Bool = w.was_direct in
    let direct : Bool = is_directly_drawn d in
    let indirect : Bool = is_indirectly_drawn d in
    record {
      horiz_parent = not here && passes_solid b w i;
      horiz_ancestor = not here && passes_dashed b w i;
      vert_parent = here && direct;
      vert_ancestor = here && indirect;
      left_fork_parent = ltb c i && direct;
      left_fork_ancestor = ltb c i && indirect;
      right_fork_parent = (ltb i c && direct) || (bend && solid);
      right_fork_ancestor = (ltb i c && indirect) || (bend && not solid);
      left_merge_parent = (here && ltb b.min_parent c) || (gone && solid);
      left_merge_ancestor = (here && (not (ltb b.min_parent c) && ltb b.min_ancestor c)) || (gone && not solid);
      right_merge_parent = here && ltb c b.max_parent;
      right_merge_ancestor = here && (not (ltb c b.max_parent) && ltb c b.max_ancestor);
      child = here && is_drawn d;
    }

-- those, with the line of the column before the entries, which goes straight on but where the column is given up (`column_to_link_line`)
abbrev pub with_uprights : Bool → Column → Marks → Marks
with_uprights gone b m =
    record {
      horiz_parent = m.horiz_parent;
      horiz_ancestor = m.horiz_ancestor;
      vert_parent = (is_parent b && not gone) || m.vert_parent;
      vert_ancestor = (is_ancestor b && not gone) || m.vert_ancestor;
      left_fork_parent = m.left_fork_parent;
      left_fork_ancestor = m.left_fork_ancestor;
      right_fork_parent = m.right_fork_parent;
      right_fork_ancestor = m.right_fork_ancestor;
      left_merge_parent = m.left_merge_parent;
      left_merge_ancestor = m.left_merge_ancestor;
      right_merge_parent = m.right_merge_parent;
      right_merge_ancestor = m.right_merge_ancestor;
      child = m.child;
    }

-- there is a link line where an entry's column, or the one given up, is not the node's own (`need_link_line`)
abbrev pub linked : AncestorColumnBounds → Swap → Bool
linked b w = found_as (λ p. true) w.given_up || (ltb b.min_ancestor b.target || ltb b.target b.max_ancestor)
