-- Laws of the definitions in specs/Width.antt, worded for the functions over slots.
use Prim.Native.Nat.{ℕ, ◌+◌, ◌-◌, ◌≤◌, min}
use mathlib.Core.Path.{◌≡◌, refl, ap, ◌∙◌, sym}
use mathlib.Core.Bool.{Bool, true, false, cond, not}
use mathlib.Core.List.{List, [], ◌∷◌, map}
use lib.ListN.{length, take}
use borrow.Author.Tests.{le-ltb}
use Rattle.std.specs.List.{count_by, fold}
use Rattle.std.specs.Prelude.{Option, Some, None}
use Rattle.column.specs.declared.Slot.{Slot}
use Rattle.column.specs.Columns.{column_limit, is_empty, find, live}
use Rattle.slices.proofs.Front.{length_front, front-clamp}
use Rattle.column.proofs.Laws.{column_of}
use Rattle.render.specs.declared.render.Entries.{Entries}
use Rattle.render.specs.declared.render.Entry.{Entry}
use Rattle.render.specs.Entries.{given, listed, is_too_many}
use Rattle.render.proofs.EntryLaws.{few-given}
use Rattle.width.specs.declared.Room.{Room}
use Rattle.shaper.specs.declared.Shaper.{Shaper}
use Rattle.shaper.specs.Shaper.{view_of}
use Rattle.shaper.specs.NodeColumn.{dense}
use Rattle.shaper.proofs.NodeLaws.{is-dense}
use Rattle.width.specs.Width.{unheld, apart, take_one, for_node, width}
use Rattle.width.specs.Promises.{Widths}

-- a count of what a function gives
module _ {A B : Type 0} (t : B → Bool) (f : A → B) where
  count-from : (k : ℕ) (l : List A) → fold (λ (n : ℕ) (b : B). n + cond (t b) 1 0) k (map f l) ≡ fold (λ (n : ℕ) (a : A). n + cond (t (f a)) 1 0) k l
  count-from k [] = refl
  count-from k (a ∷ l) = count-from (k + cond (t (f a)) 1 0) l

  count-map : (l : List A) → count_by t (map f l) ≡ count_by (λ a. t (f a)) l
  count-map = count-from 0

-- the columns of the live slots, by their number
columns-live : (m n : ℕ) (l : List Slot) → m ≡ min n column_limit → length l ≡ column_limit → map column_of (take m l) ≡ live n l
columns-live m n l h long = front-clamp column_of m n l (h ∙ ap (min n) (sym long))

-- what is left where a node that no column holds is kept out of the previous node's column
pub room_apart : (s : Shaper) (r : Room) (o : Option ℕ) (n m i : ℕ) (a q : Room) → o ≡ Some n → find n (live s.count s.slots) ≡ None → not s.options.stagger_consecutive_disconnected_nodes ≡ false
    → s.options.min_row_height ≤ 1 → s.previous_node_column ≡ Some i → m ≡ min s.count column_limit → length s.slots ≡ column_limit
    → a ≡ apart (Some i) (map column_of (take m s.slots)) r → q ≡ take_one a → q ≡ for_node (view_of s) o r
room_apart s r o n m i a q z f t h p e long g k =
    let d : dense (view_of s) ≡ true = is-dense s.options.stagger_consecutive_disconnected_nodes s.options.min_row_height (rw t (le-ltb 1 s.options.min_row_height h)) in
    let w : a ≡ apart (Some i) (live s.count s.slots) r = g ∙ ap (λ cs. apart (Some i) cs r) (columns-live m s.count s.slots e long) in
    rw (z, f, d, p, ← w) k

-- ---- the width call
module _ (s : Shaper) (n : Option ℕ) (es : Entries) where
  pub width-refused : is_too_many (listed es) ≡ true → Widths s n es (record { refusal = 3; width = 0 })
  unfolding width
  width-refused h = record { reply = rw h }

  pub width-done : is_too_many (listed es) ≡ false → length s.slots ≡ column_limit → (m free : ℕ) (q : Room) (u b x : ℕ)
      → m ≡ min s.count column_limit → free ≡ count_by (λ (t : Slot). is_empty t.column) (take m s.slots)
      → q ≡ for_node (view_of s) n (record { wide = m; free = free })
      → u ≡ count_by (λ (e : Entry). unheld (live s.count s.slots) e.ancestor) (take es.count es.list) → b ≡ u - q.free → x ≡ b - 1
      → Widths s n es (record { refusal = 0; width = q.wide + x })
  unfolding width
  width-done h long m free q u b x w f r e g k =
      let o : length (live s.count s.slots) ≡ m = rw (length_front column_of s.count s.slots, long) (sym w) in
      let v : free ≡ count_by is_empty (live s.count s.slots) = f ∙ sym (count-map is_empty column_of (take m s.slots)) ∙ ap (count_by is_empty) (columns-live m s.count s.slots w long) in
      let y : u ≡ count_by (unheld (live s.count s.slots)) (given es) = e ∙ sym (count-map (unheld (live s.count s.slots)) (λ (t : Entry). t.ancestor) (take es.count es.list)) in
      record { reply = rw (h, o, ← v, ← r, few-given es h, ← y, ← g, ← k) }
