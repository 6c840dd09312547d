-- Machines that R-9 must rule out: ours, or a wrong one of demand 3, with one thing wrong in what is drawn from the node, or where its column is. Each breaks the clause
-- named with it. The Rust with the same thing wrong runs in `oracle/no_gap`, for `stray_fork` as `stray_fork`; where one clause is named, no other fails of it there.
use Rattle.std.specs.Prelude.{ℕ, suc, ◌-◌, max, Bool, true, false, cond, not, ◌&&◌, ◌||◌, List, [], ◌∷◌, ◌++◌, eqb, ltb, length, get_or, Some, None}
use Rattle.std.specs.Int.Bits.{bit_and}
use Rattle.std.specs.List.{list_any}
use Rattle.column.specs.Found.{Found}
use Rattle.column.specs.Columns.{find}
use Rattle.render.specs.declared.render.LinkLine.{LinkLine}
use Rattle.render.specs.declared.types.RowShape.{RowShape}
use Rattle.render.specs.Link.{meets, joined, no_marks}
use Rattle.shaper.specs.Shaper.{View}
use Rattle.placing.specs.Placing.{place}
use Rattle.cells.specs.Cells.{cells_from}
use Rattle.glyphs.specs.declared.Renderer.TheVariants.{Curved}
use Rattle.glyphs.specs.Marks.{horizontal, horiz_parent, left_fork_parent, right_fork_parent, left_merge_parent, right_merge_parent, child, any_fork_or_merge}
use Rattle.history.specs.Account.{Call, Reserve, Row}
use Rattle.history.specs.Ours.{Item, shape_of, item_shape, ours}
use Rattle.history.specs.Wrong.{unswapping, far, far_from_own}
use Rattle.no_gap.specs.NoGap.{marks_in, facing_right, Links}
use Rattle.no_gap.specs.EntryColumns.{merged_into, is_in, marks_from_node, term_cells}
use Rattle.no_gap.specs.OurLinks.{links_by}

-- whether a shape has a link line
abbrev pub is_linked : RowShape → Bool
is_linked g = g.link_line

-- ours with other marks, another link line and other term cells, made of the shape
abbrev pub drawn_by : (RowShape → List LinkLine) → (RowShape → Bool) → (RowShape → List Bool) → Links (ours Curved)
drawn_by marks linked terms =
    record { marks = λ (v : View) (k : Item). marks (item_shape v k); linked = λ (v : View) (k : Item). linked (item_shape v k); terms = λ (v : View) (k : Item). terms (item_shape v k) }

-- the marks alone
abbrev pub with_marks : (RowShape → List LinkLine) → Links (ours Curved)
with_marks marks = drawn_by marks is_linked term_cells

-- a cell without some marks
abbrev pub without : LinkLine → LinkLine → LinkLine
without m a = record { bits = m.bits - bit_and m.bits a.bits }

-- ---- strokes that are missing

-- the first HORIZONTAL cell without these marks
abbrev pub uncrossed : List LinkLine → List LinkLine
uncrossed [] = []
uncrossed (m ∷ ms) = cond (meets m horizontal) (without m horizontal ∷ ms) (m ∷ uncrossed ms)

-- `across`: one HORIZ mark is left out
abbrev pub gapped : Links (ours Curved)
gapped = with_marks (λ g. uncrossed (marks_from_node g))

-- the cells but the node's without forks and merges
abbrev pub unforked_marks : RowShape → List LinkLine
unforked_marks g =
    let ms : List LinkLine = marks_from_node g in
    cells_from (λ i. cond (eqb i g.node_column) (get_or ms i no_marks) (without (get_or ms i no_marks) any_fork_or_merge)) 0 (length ms)

-- `left` and `right`: the columns that are reached do not face the node
abbrev pub unforked : Links (ours Curved)
unforked = with_marks unforked_marks

-- ---- forks and merges that lead nowhere

-- a mark in the cell past those of the row, where there is a link line
abbrev pub strayed : LinkLine → RowShape → List LinkLine
strayed m g = cond (is_linked g) (marks_from_node g ++ (m ∷ [])) (marks_from_node g)

-- `no_left`: a fork in a further cell
abbrev pub stray_fork : Links (ours Curved)
stray_fork = with_marks (strayed left_fork_parent)

-- `no_right`: a merge in a further cell
abbrev pub stray_merge : Links (ours Curved)
stray_merge = with_marks (strayed right_merge_parent)

-- ---- a link to a column that no entry has

-- what a further link from column c to column t, right of it, adds to the marks m of cell i
abbrev pub further : ℕ → ℕ → ℕ → LinkLine → LinkLine
further c t i m =
    cond (eqb i t) left_fork_parent (cond (eqb i c) (cond (eqb (marks_in m facing_right) 0) right_merge_parent no_marks) (cond (ltb c i && ltb i t) horiz_parent no_marks))

-- the marks with a link to the second column past those of the row
abbrev pub further_marks : RowShape → List LinkLine
further_marks g =
    let t : ℕ = suc g.width in
    cells_from (λ i. let m : LinkLine = get_or (marks_from_node g) i no_marks in joined m (further g.node_column t i m)) 0 (suc t)

-- `terms`: a link to a column that no entry has, claimed as an Anonymous one's
abbrev pub false_term : Links (ours Curved)
false_term = drawn_by further_marks (λ g. true) (λ g. term_cells g ++ (false ∷ true ∷ []))

-- ---- link lines

-- `straight` and others: no link line where a column beside the node's is reached
abbrev pub dropped_link : Links (ours Curved)
dropped_link = drawn_by (λ g. []) (λ g. false) term_cells

-- `unmarked`: a mark in the node's cell where there is no link line
abbrev pub marked_unlinked : Links (ours Curved)
marked_unlinked = with_marks (λ g. cond (is_linked g) (marks_from_node g) (cells_from (λ i. cond (eqb i g.node_column) child no_marks) 0 (suc g.node_column)))

-- ---- where a named parent waits

-- `waits`: the id of a single entry to the right of the node stays where it is; the marks are true
abbrev pub unmoved : Links unswapping
unmoved = links_by unswapping (λ (s : View × View) (k : Call). shape_of s.0 k)

-- the last of a column and some others
abbrev pub last_of : ℕ → List ℕ → ℕ
last_of c [] = c
last_of c (t ∷ ts) = max t (last_of c ts)

-- the marks of cell i, where links lead from column c to each of some columns
abbrev pub leading : ℕ → List ℕ → ℕ → LinkLine
leading c ts i =
    joined (cond (list_any (λ t. (ltb c i && ltb i t) || (ltb t i && ltb i c)) ts) horiz_parent no_marks)
    (cond (eqb i c)
    (joined (cond (list_any (λ t. ltb t c) ts) left_merge_parent no_marks) (cond (list_any (ltb c) ts) right_merge_parent no_marks))
    (cond (is_in i ts) (cond (ltb c i) left_fork_parent right_fork_parent) no_marks))

-- of a row whose id a column holds the one, of any other the other
abbrev pub if_held {ℓ} : {A : Type ℓ} → Found → A → A → A
if_held (Some i) one other = one
if_held None one other = other

-- the columns that a row's entries merge into
abbrev pub merged : View → Call → List ℕ
merged v (Reserve n) = []
merged v (Row n es) = merged_into (place v n es).column es (place v n es).bare

-- whether a column holds the id of a row
abbrev pub held_node : View → Call → Found
held_node v (Reserve n) = None
held_node v (Row n es) = find n v.columns

-- `arrives`: a node whose id waits stands far to the right of where it waited, and its links are drawn from there
abbrev pub elsewhere : Links far_from_own
elsewhere =
    record {
      marks = λ (s : View × View) (k : Call).
          let c : ℕ = far s.0 in
          let ts : List ℕ = merged s.0 k in
          if_held (held_node s.0 k) (cells_from (leading c ts) 0 (suc (last_of c ts))) (marks_from_node (shape_of s.0 k));
      linked = λ (s : View × View) (k : Call). if_held (held_node s.0 k) (list_any (λ t. not (eqb t (far s.0))) (merged s.0 k)) (is_linked (shape_of s.0 k));
      terms = λ (s : View × View) (k : Call). term_cells (shape_of s.0 k);
    }
