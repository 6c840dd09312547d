-- Laws of cells written at the start of a line: what a writer of the line cites.
use mathlib.Core.Path.{◌≡◌, sym, ap, ap₂, ◌∙◌}
use mathlib.Core.Bool.{Bool, cond}
use mathlib.Core.List.{List, [], ◌++◌, append_assoc}
use Prim.Native.Nat.{ℕ, ◌+◌, ◌≤◌}
use lib.ListN.{length, take, drop, length-append}
use lib.Seq.{drop-drop}
use borrow.Author.Tests.{le-leb}
use Rattle.slices.specs.Joins.{over}
use Rattle.glyphs.specs.Tables.{WritesCells}

-- cells for which there is room, with so many bytes behind them
module _ (text : List ℕ) (behind : ℕ) (d o : List ℕ) (r : ℕ) (w : WritesCells text behind d o r) (h : length text + behind ≤ length d) where
  pub cells_count : r ≡ length text
  cells_count = w.count ∙ ap (λ (b : Bool). cond b (length text) 0) (le-leb (length text + behind) (length d) h)

  cells-bytes : take r o ≡ text
  cells-bytes = w.bytes ∙ ap (λ (b : Bool). cond b text []) (le-leb (length text + behind) (length d) h)

  cells_rest : drop (length text + behind) o ≡ drop (length text + behind) d
  cells_rest = rw (le-leb (length text + behind) (length d) h) at w.rest

-- then the bytes behind them were written
pub cells-then : (text rest d o : List ℕ) (r : ℕ) → WritesCells text (length rest) d o r → length text + length rest ≤ length d
    → {z : List ℕ} → z ≡ take r o ++ over rest (drop r o) → z ≡ over (text ++ rest) d
cells-then text rest d o r w h e =
    let n : length text + length rest ≡ length (text ++ rest) = sym (length-append text rest) in
    let b : drop (length rest) (drop r o) ≡ drop (length (text ++ rest)) d
    = drop-drop (length rest) r o ∙ ap (λ (k : ℕ). drop (k + length rest) o) (cells_count text (length rest) d o r w h)
    ∙ cells_rest text (length rest) d o r w h ∙ ap (λ (k : ℕ). drop k d) n in
    e ∙ ap₂ (λ (a c : List ℕ). a ++ (rest ++ c)) (cells-bytes text (length rest) d o r w h) b ∙ sym (append_assoc text rest (drop (length (text ++ rest)) d))
