-- Laws of a line's cells written one by one out of a table: what the writers of cells cite.
use mathlib.Core.Path.{◌≡◌, refl, sym, ap, ap₂, ◌∙◌}
use mathlib.Core.List.{List, [], ◌∷◌, ◌++◌, map, append-nil, reverse}
use Prim.Native.Nat.{ℕ, zero, suc, ◌+◌, ◌-◌, ◌*◌, ◌<◌, ◌≤◌, min, zero-le}
use native.Mathlib.Nat.{add-zero}
use native.Mathlib.Numerals.{add-one}
use native.Mathlib.Omega.{arith}
use lib.ListN.{length, take, drop, get_or, set, length-append, length-take, length-drop, take-append-drop, drop_of_length-le}
use lib.Seq.{take-take, take_all, take-suc, drop-cons, drop-drop, take-append-le, take-append-add, drop-append-add, length-take-le, drop-append_seam, take-append_seam}
use borrow.Author.Tests.{le-leb, lt-leb}
use Rattle.std.specs.List.{sum_by}
use Rattle.std.proofs.lemmas.List.{get_or_read, get_or-reverse, length-reverse}
use Rattle.std.proofs.lemmas.List.Recursion.{is_sum_by}
use Rattle.column.specs.Columns.{column_limit}
use Rattle.message.specs.Message.{trim_end}
use Rattle.message.proofs.MessageLaws.{trim-front, trim-behind, trim-length}
use Rattle.slices.specs.Joins.{joins, over, Writes}
use Rattle.slices.proofs.JoinLaws.{joins-append, so-short}
use Rattle.slices.proofs.OverLaws.{writes-all, writes-none, part_length}
use Rattle.glyphs.specs.Inner.{WritesWithin}
use Rattle.glyphs.specs.Tables.{glyph_at, cells_text, first_cells, WritesCells}
use Rattle.glyphs.proofs.TableLaws.{glyph-short, glyph-there}

-- nothing has no first bytes
take-nil : (n : ℕ) → ◌≡◌ {A = List ℕ} (take n []) []
take-nil zero = refl
take-nil (suc n) = refl

empty : (l : List ℕ) → length l ≡ 0 → l ≡ []
empty [] h = refl
empty (x ∷ l) h = absurd (omega (arith, h))

-- ---- one glyph

-- the eight places of a glyph
abbrev pub eight : List ℕ → ℕ → List ℕ
eight t n = map (λ (j : ℕ). get_or t (n * 9 + j) 0) (1 ∷ 2 ∷ 3 ∷ 4 ∷ 5 ∷ 6 ∷ 7 ∷ 8 ∷ [])

module _ (t : List ℕ) (n : ℕ) (there : n * 9 + 9 ≤ length t) where
  pub glyph-counted : (r : ℕ) → r ≡ min (get_or t (n * 9) 0) 8 → r ≡ length (glyph_at t n)
  glyph-counted r e = rw (glyph-there t n there, length-take) (omega (arith, e))

  -- the places stand one behind the other in the table
  eight_is : eight t n ≡ take 8 (drop (n * 9 + 1) t)
  eight_is =
      let k : (j : ℕ) → j < 9 → drop (n * 9 + j) t ≡ get_or t (n * 9 + j) 0 ∷ drop (n * 9 + suc j) t
      = λ j h. let b : n * 9 + j < length t = omega arith in let s : suc (n * 9 + j) ≡ n * 9 + suc j = omega arith in drop-cons t (n * 9 + j) 0 b ∙ ap (λ (i : ℕ). get_or t (n * 9 + j) 0 ∷ drop i t) s in
      sym (rw (k 1 (omega arith), k 2 (omega arith), k 3 (omega arith), k 4 (omega arith), k 5 (omega arith), k 6 (omega arith), k 7 (omega arith), k 8 (omega arith)))

  glyph-is : glyph_at t n ≡ take (min (get_or t (n * 9) 0) 8) (drop (n * 9 + 1) t)
  glyph-is =
      let m : min (get_or t (n * 9) 0) 8 ≤ 8 = omega arith in
      glyph-there t n there ∙ ap (take (min (get_or t (n * 9) 0) 8)) eight_is ∙ take-take (min (get_or t (n * 9) 0) 8) 8 (drop (n * 9 + 1) t) m

  -- as a slice of the table
  pub glyph-slice : (count : ℕ) → count ≡ min (get_or t (n * 9) 0) 8 → take (n * 9 + 1 + count - (n * 9 + 1)) (drop (n * 9 + 1) t) ≡ glyph_at t n
  glyph-slice count e =
      let k : n * 9 + 1 + count - (n * 9 + 1) ≡ min (get_or t (n * 9) 0) 8 = omega (arith, e) in
      rw k (sym glyph-is)

-- eight bytes stored one by one
pub eight-stored : (o : List ℕ) (a b c d e f g h : ℕ) → 8 ≤ length o
    → set (set (set (set (set (set (set (set o 0 a) 1 b) 2 c) 3 d) 4 e) 5 f) 6 g) 7 h ≡ over (a ∷ b ∷ c ∷ d ∷ e ∷ f ∷ g ∷ h ∷ []) o
eight-stored [] a b c d e f g h k = absurd (omega (arith, k))
eight-stored (_ ∷ []) a b c d e f g h k = absurd (omega (arith, k))
eight-stored (_ ∷ _ ∷ []) a b c d e f g h k = absurd (omega (arith, k))
eight-stored (_ ∷ _ ∷ _ ∷ []) a b c d e f g h k = absurd (omega (arith, k))
eight-stored (_ ∷ _ ∷ _ ∷ _ ∷ []) a b c d e f g h k = absurd (omega (arith, k))
eight-stored (_ ∷ _ ∷ _ ∷ _ ∷ _ ∷ []) a b c d e f g h k = absurd (omega (arith, k))
eight-stored (_ ∷ _ ∷ _ ∷ _ ∷ _ ∷ _ ∷ []) a b c d e f g h k = absurd (omega (arith, k))
eight-stored (_ ∷ _ ∷ _ ∷ _ ∷ _ ∷ _ ∷ _ ∷ []) a b c d e f g h k = absurd (omega (arith, k))
eight-stored (_ ∷ _ ∷ _ ∷ _ ∷ _ ∷ _ ∷ _ ∷ _ ∷ o) a b c d e f g h k = refl

-- ---- within a line

-- nothing
pub within_none : (end : ℕ) (o : List ℕ) → WritesWithin [] end o o 0
within_none end o = record { count = refl; bytes = refl; behind = refl }

-- a glyph by its eight places
pub within-eight : (t : List ℕ) (n : ℕ) (o p : List ℕ) (r : ℕ) → n * 9 + 9 ≤ length t → p ≡ over (eight t n) o → r ≡ min (get_or t (n * 9) 0) 8
    → WritesWithin (glyph_at t n) 8 o p r
within-eight t n o p r there e f =
    let m : min (get_or t (n * 9) 0) 8 ≤ 8 = omega arith in
    record {
      count = glyph-counted t n there r f;
      bytes = rw (e, f, glyph-there t n there) (take-append-le (min (get_or t (n * 9) 0) 8) (eight t n) (drop 8 o) m);
      behind = rw e (drop-append_seam (eight t n) (drop 8 o));
    }

-- where the line has more bytes than these places
pub within_more : (bs : List ℕ) (k end : ℕ) (o p : List ℕ) (r : ℕ) → length bs ≤ k → k ≤ end → WritesWithin bs k o p r → WritesWithin (take end bs) end o p r
within_more bs k end o p r h j w =
    let e : take end bs ≡ bs = take_all end bs (omega arith) in
    let d : end ≡ k + (end - k) = omega arith in
    record {
      count = rw e w.count;
      bytes = rw e w.bytes;
      behind = rw d (sym (drop-drop (end - k) k p) ∙ ap (drop (end - k)) w.behind ∙ drop-drop (end - k) k o);
    }

-- its own bytes
pub within-own : (bs : List ℕ) (end : ℕ) (o p : List ℕ) (r : ℕ) → length bs ≤ end → r ≡ length bs → p ≡ over bs o → WritesWithin bs end o p r
within-own bs end o p r h e f =
    let d : end ≡ length bs + (end - length bs) = omega arith in
    record {
      count = e;
      bytes = rw (e, f) (take-append_seam bs (drop (length bs) o));
      behind = rw (f, d) (drop-append-add bs (drop (length bs) o) (end - length bs) ∙ drop-drop (end - length bs) (length bs) o);
    }

-- a part from `at` on was lent to such a writer, and came back as p
module _ (o p bs : List ℕ) (at k r : ℕ) (h : at ≤ length o) (w : WritesWithin bs k (take (length o - at) (drop at o)) p r) where
  part-is : take (length o - at) (drop at o) ≡ drop at o
  part-is = take_all (length o - at) (drop at o) (rw (length-drop at o) (omega arith))

  joined_is : take at o ++ (p ++ drop (length o - at) (drop at o)) ≡ take at o ++ p
  joined_is =
      let e : length (drop at o) ≤ length o - at = rw (length-drop at o) (omega arith) in
      rw (drop_of_length-le (drop at o) e, append-nil)

  start-long : length (take at o) ≡ at
  start-long = length-take-le at o h

  part_bytes : take (at + r) (take at o ++ (p ++ drop (length o - at) (drop at o))) ≡ take at o ++ bs
  part_bytes =
      rw joined_is (ap (λ (i : ℕ). take (i + r) (take at o ++ p)) (sym start-long) ∙ take-append-add (take at o) p r ∙ ap (λ (l : List ℕ). take at o ++ l) w.bytes)

  part-behind : drop (at + k) (take at o ++ (p ++ drop (length o - at) (drop at o))) ≡ drop (at + k) o
  part-behind =
      rw joined_is
      (ap (λ (i : ℕ). drop (i + k) (take at o ++ p)) (sym start-long) ∙ drop-append-add (take at o) p k ∙ w.behind ∙ ap (drop k) part-is ∙ drop-drop k at o)

length-joins : (f : ℕ → List ℕ) (xs : List ℕ) → length (joins f xs) ≡ sum_by (λ (x : ℕ). length (f x)) xs
length-joins f = is_sum_by (λ (xs : List ℕ). length (joins f xs)) (λ (x : ℕ). length (f x)) refl (λ x xs. length-append (f x) (joins f xs))

-- ---- the cells one by one
module _ (t numbers : List ℕ) where
  -- the bytes of the first i
  abbrev pub front : ℕ → List ℕ
  front i = joins (glyph_at t) (take i numbers)

  pub front-short : (i : ℕ) → length (front i) ≤ 8 * i
  front-short i = so-short (glyph_at t) numbers i 8 (glyph-short t)

  pub front-all : (i : ℕ) → length numbers ≤ i → front i ≡ cells_text t numbers
  front-all i h = ap (joins (glyph_at t)) (take_all i numbers h)

  -- as many as a row has, of eight bytes each at most
  pub few_short : length numbers ≤ column_limit → length (cells_text t numbers) ≤ 512
  few_short h = omega (arith, front-short column_limit, ap length (front-all column_limit h))

  -- the count of their bytes is the sum of the counts
  pub counted-sum : (r : ℕ) → r ≡ sum_by (λ (n : ℕ). length (glyph_at t n)) numbers → r ≡ length (cells_text t numbers)
  counted-sum r e = e ∙ sym (length-joins (glyph_at t) numbers)

  -- one more
  module _ (i v : ℕ) (h : i < length numbers) (e : v ≡ get_or numbers i 0) where
    pub front-next : front (i + 1) ≡ front i ++ glyph_at t v
    front-next =
        rw (add-one, take-suc numbers i 0 h, joins-append, ← e, append-nil)

  -- ---- up to a line's end
  pub record First (end : ℕ) (before : List ℕ) (i at : ℕ) (o : List ℕ) : Type 0 where
    pub within : i ≤ length numbers
    pub count : at ≡ length (take end (front i))
    pub bytes : take at o ≡ take end (front i)
    pub behind : drop end o ≡ drop end before
    pub long : length o ≡ length before

  pub first-start : (end : ℕ) (before : List ℕ) → First end before 0 0 before
  first-start end before = record { within = zero-le; count = rw (take-nil end); bytes = rw (take-nil end); behind = refl; long = refl }

  pub first-at : (end : ℕ) (before : List ℕ) (i at : ℕ) (o : List ℕ) → First end before i at o → at ≤ end
  first-at end before i at o s = omega (arith, s.count, length-take end (front i))

  module _ (end : ℕ) (before : List ℕ) (room : end ≤ length before) (i at : ℕ) (o : List ℕ) (s : First end before i at o) (v : ℕ)
      (h : i < length numbers) (e : v ≡ get_or numbers i 0) where
    pub first_next : (p : List ℕ) (r : ℕ) → WritesWithin (take (end - at) (glyph_at t v)) (end - at) (take (length o - at) (drop at o)) p r
        → length p ≡ length (take (length o - at) (drop at o))
        → First end before (i + 1) (at + r) (take at o ++ (p ++ drop (length o - at) (drop at o)))
    first_next p r w k =
        let few : at ≤ end = first-at end before i at o s in
        let z : at ≤ length o = omega (arith, s.long) in
        let d : end - length (front i) ≡ end - at = omega (arith, s.count, length-take end (front i)) in
        let f : take end (front (i + 1)) ≡ take end (front i) ++ take (end - at) (glyph_at t v)
        = ap (take end) (front-next i v h e) ∙ take-two end (front i) (glyph_at t v) ∙ ap (λ (j : ℕ). take end (front i) ++ take j (glyph_at t v)) d in
        let j : at + (end - at) ≡ end = omega arith in
        record {
          within = omega arith;
          count = rw (f, length-append) (omega (arith, s.count, w.count));
          bytes = part_bytes o p (take (end - at) (glyph_at t v)) at (end - at) r z w ∙ ap (λ (l : List ℕ). l ++ take (end - at) (glyph_at t v)) s.bytes ∙ sym f;
          behind = (rw j at (part-behind o p (take (end - at) (glyph_at t v)) at (end - at) r z w)) ∙ s.behind;
          long = part_length o p at k z ∙ s.long;
        }
      where
        take-two : (n : ℕ) (xs ys : List ℕ) → take n (xs ++ ys) ≡ take n xs ++ take (n - length xs) ys
        take-two n [] ys = let q : n - 0 ≡ n = omega arith in rw (q, take-nil n)
        take-two zero (x ∷ xs) ys = let q : 0 - suc (length xs) ≡ 0 = omega arith in rw q
        take-two (suc n) (x ∷ xs) ys = let q : suc n - suc (length xs) ≡ n - length xs = omega arith in rw q (ap (λ (l : List ℕ). x ∷ l) (take-two n xs ys))

  pub first-end : (end : ℕ) (before : List ℕ) (i at : ℕ) (o : List ℕ) → First end before i at o → length numbers ≤ i
      → WritesWithin (take end (cells_text t numbers)) end before o at
  first-end end before i at o s h =
      let e : take end (front i) ≡ take end (cells_text t numbers) = ap (take end) (front-all i h) in
      record { count = s.count ∙ ap length e; bytes = s.bytes ∙ e; behind = s.behind }

  -- ---- by eight places each
  pub record Eights (before : List ℕ) (i at : ℕ) (o : List ℕ) : Type 0 where
    pub within : i ≤ length numbers
    pub count : at ≡ length (front i)
    pub bytes : take at o ≡ front i
    pub behind : drop (at + 8) o ≡ drop (at + 8) before
    pub long : length o ≡ length before

  pub eights-start : (before : List ℕ) → Eights before 0 0 before
  eights-start before = record { within = zero-le; count = refl; bytes = refl; behind = refl; long = refl }

  pub eights_at : (before : List ℕ) (i at : ℕ) (o : List ℕ) → Eights before i at o → at ≤ 8 * i
  eights_at before i at o s = omega (arith, s.count, front-short i)

  module _ (before : List ℕ) (i at : ℕ) (o : List ℕ) (s : Eights before i at o) (v : ℕ) (h : i < length numbers) (e : v ≡ get_or numbers i 0) where
    pub eights-next : (p : List ℕ) (r : ℕ) → at ≤ length o → WritesWithin (glyph_at t v) 8 (take (length o - at) (drop at o)) p r
        → length p ≡ length (take (length o - at) (drop at o))
        → Eights before (i + 1) (at + r) (take at o ++ (p ++ drop (length o - at) (drop at o)))
    eights-next p r z w k =
        let f : front (i + 1) ≡ front i ++ glyph_at t v = front-next i v h e in
        let j : at + r + 8 ≡ at + 8 + r = omega arith in
        let g : drop (at + 8) (take at o ++ (p ++ drop (length o - at) (drop at o))) ≡ drop (at + 8) before = part-behind o p (glyph_at t v) at 8 r z w ∙ s.behind in
        record {
          within = omega arith;
          count = rw (f, length-append) (omega (arith, s.count, w.count));
          bytes = part_bytes o p (glyph_at t v) at 8 r z w ∙ ap (λ (l : List ℕ). l ++ glyph_at t v) s.bytes ∙ sym f;
          behind = rw j (sym (drop-drop r (at + 8) (take at o ++ (p ++ drop (length o - at) (drop at o)))) ∙ ap (drop r) g ∙ drop-drop r (at + 8) before);
          long = part_length o p at k z ∙ s.long;
        }

  pub eights-end : (before : List ℕ) (i at : ℕ) (o : List ℕ) → Eights before i at o → length numbers ≤ i
      → WritesWithin (cells_text t numbers) (at + 8) before o at
  eights-end before i at o s h =
      let e : front i ≡ cells_text t numbers = front-all i h in
      record { count = s.count ∙ ap length e; bytes = s.bytes ∙ e; behind = s.behind }

  -- ---- blanks at the end
  pub record Tail (n blanks : ℕ) : Type 0 where
    pub within : n ≤ length numbers
    pub sum : length (cells_text t numbers) ≡ length (front n) + blanks
    pub same : trim_end (cells_text t numbers) ≡ trim_end (front n)

  -- the cell k from the end
  pub tail-cell : (k v : ℕ) → (k < length (reverse numbers)) × (v ≡ get_or (reverse numbers) k v) → (0 < length numbers - k) × (v ≡ get_or numbers (length numbers - k - 1) 0)
  tail-cell k v h =
      let b : k < length numbers = omega (arith, h.0, length-reverse numbers) in
      let j : length numbers - 1 - k ≡ length numbers - k - 1 = omega arith in
      (omega arith, get_or_read (reverse numbers) k v h.0 h.1 0 ∙ get_or-reverse numbers k 0 b ∙ ap (λ (m : ℕ). get_or numbers m 0) j)

  pub tail-start : (n : ℕ) → n ≡ length numbers → Tail n 0
  tail-start n e =
      let f : front n ≡ cells_text t numbers = front-all n (omega arith) in
      record { within = omega arith; sum = rw (f, add-zero); same = rw f }

  module _ (n blanks v more : ℕ) (s : Tail n blanks) (h : 0 < n) (e : v ≡ get_or numbers (n - 1) 0)
      (m : more ≡ length (glyph_at t v) - length (trim_end (glyph_at t v))) where
    one_less : n - 1 < length numbers
    one_less = omega (arith, s.within)

    last_one : front n ≡ front (n - 1) ++ glyph_at t v
    last_one =
        let k : n - 1 + 1 ≡ n = omega arith in
        rw k at (front-next (n - 1) v one_less e)

    last-length : length (front n) ≡ length (front (n - 1)) + length (glyph_at t v)
    last-length = ap length last_one ∙ length-append (front (n - 1)) (glyph_at t v)

    pub tail-stop : (0 < length (trim_end (glyph_at t v)))
        → blanks + more ≡ length (cells_text t numbers) - length (trim_end (cells_text t numbers))
    tail-stop k =
        let f : trim_end (cells_text t numbers) ≡ front (n - 1) ++ trim_end (glyph_at t v) = s.same ∙ ap trim_end last_one ∙ trim-behind (front (n - 1)) (glyph_at t v) k in
        omega (arith, s.sum, last-length, m, trim-length (glyph_at t v), ap length f ∙ length-append (front (n - 1)) (trim_end (glyph_at t v)))

    pub tail-next : length (trim_end (glyph_at t v)) ≡ 0 → Tail (n - 1) (blanks + more)
    tail-next k =
        record {
          within = omega (arith, one_less);
          sum = omega (arith, s.sum, last-length, m, k);
          same = s.same ∙ ap trim_end last_one ∙ trim-front (front (n - 1)) (glyph_at t v) (empty (trim_end (glyph_at t v)) k);
        }

  pub tail-end : (n blanks : ℕ) → Tail n blanks → n ≤ 0
      → blanks ≡ length (cells_text t numbers) - length (trim_end (cells_text t numbers))
  tail-end n blanks s h =
      let z : n ≡ 0 = omega arith in
      let f : front n ≡ [] = ap front z in
      let g : trim_end (cells_text t numbers) ≡ [] = s.same ∙ ap trim_end f in
      omega (arith, s.sum, ap length f, ap length g)

-- what the first of some numbers draw: no more cells than a row has, of eight bytes each at most
module _ (t numbers : List ℕ) (width : ℕ) where
  pub cells-few : length (first_cells width numbers) ≤ column_limit
  cells-few = rw (length-take (min width column_limit) numbers) (omega arith)

  pub all_short : length (cells_text t (first_cells width numbers)) ≤ 512
  all_short = few_short t (first_cells width numbers) cells-few

-- ---- a whole line

-- its cells and what stands behind them
module _ (text : List ℕ) (behind : ℕ) (o : List ℕ) where
  pub cells-none : length o < length text + behind → WritesCells text behind o o 0
  cells-none h =
      let e = lt-leb (length text + behind) (length o) h in
      record { count = rw e; bytes = rw e; rest = refl }

  pub cells-written : (p : List ℕ) (end r : ℕ) → length text + behind ≤ length o → end ≤ length text + behind → WritesWithin text end o p r → WritesCells text behind o p r
  cells-written p end r h k w =
      let e = le-leb (length text + behind) (length o) h in
      let d : end + (length text + behind - end) ≡ length text + behind = omega arith in
      record {
        count = rw e w.count;
        bytes = rw e w.bytes;
        rest = rw e (rw d at (sym (drop-drop (length text + behind - end) end p) ∙ ap (drop (length text + behind - end)) w.behind ∙ drop-drop (length text + behind - end) end o));
      }

-- up to its end, where that is the bytes' own
pub own-end : (bs o p : List ℕ) (r : ℕ) → length bs ≤ length o → WritesWithin bs (length bs) o p r → Writes bs o p r
own-end bs o p r h w =
    writes-all bs o p r h w.count
    (sym (take-append-drop r p) ∙ ap₂ (λ (x y : List ℕ). x ++ y) w.bytes (ap (λ (i : ℕ). drop i p) w.count ∙ w.behind))

module _ (t numbers o p : List ℕ) (r : ℕ) where
  abbrev line : List ℕ
  line = cells_text t numbers

  within-eights : length line ≤ 8 * length numbers
  within-eights =
      let n : ℕ = length numbers in
      omega (arith, front-short t numbers n, ap length (front-all t numbers n (omega arith)))

  -- by eight places each
  pub wide-done : (behind count : ℕ) → count ≡ length numbers → (8 ≤ behind) × (8 * count + behind ≤ length o) → WritesWithin line (r + 8) o p r
      → WritesCells line behind o p r
  wide-done behind count e h w =
      cells-written line behind o p (r + 8) r (omega (arith, within-eights, e, h.1)) (omega (arith, w.count, h.0)) w

  -- up to the end
  pub exact-done : (behind all : ℕ) → all ≡ length line → all ≤ length o → behind ≤ length o - all → WritesWithin (take (all + behind) line) (all + behind) o p r
      → WritesCells line behind o p r
  exact-done behind all e h k w =
      let f : take (all + behind) line ≡ line = take_all (all + behind) line (omega arith) in
      cells-written line behind o p (all + behind) r (omega arith) (omega arith) (rw f at w)

  -- the line without so many bytes at its end
  module _ (blanks end : ℕ) (e : end ≡ length line - blanks) where
    pub finished-done : end ≤ length o → WritesWithin (take end line) end o p r → Writes (take (length line - blanks) line) o p r
    finished-done h w =
        let n : length (take end line) ≡ end = length-take-le end line (omega arith) in
        rw (← e) (own-end (take end line) o p r (omega (arith, n)) (rw n w))

    pub finished-none : length o < end → Writes (take (length line - blanks) line) o o 0
    finished-none h = rw (← e) (writes-none (take end line) o o 0 (omega (arith, length-take-le end line (omega arith))) refl refl)
