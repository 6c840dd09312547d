-- Laws of lines and of blanks at a line's end, for any bytes.
use mathlib.Core.Path.{◌≡◌, refl, sym, ap, ◌∙◌}
use mathlib.Core.Bool.{Bool, true, false, cond, ◌&&◌}
use mathlib.Core.List.{List, [], ◌∷◌, ◌++◌, reverse, reverse-cons}
use Prim.Native.Nat.{ℕ, suc, ◌+◌, ◌-◌, ◌<◌, ◌≤◌, min}
use native.Mathlib.Nat.{not-suc-le-zero}
use native.Mathlib.Omega.{arith}
use Rattle.std.specs.List.{fold, sum_by, position, position_or_len, suffix_len}
use Rattle.std.specs.Prelude.{Some, None}
use Rattle.std.proofs.lemmas.List.Recursion.{is_sum_by, is_position_or_len}
use Rattle.std.proofs.lemmas.List.{length-reverse}
use Rattle.std.proofs.lemmas.List.Folds.{prefix_len-append}
use Rattle.std.proofs.lemmas.Bool.Decides.{nat_tests}
use lib.Dec.{eqb, ltb, lit≤}
use lib.ListN.{length, take, drop, get_or, replicate, drop_of_length-le, length-append, length-take}
use lib.Seq.{drop-drop}
use borrow.Author.Tests.{eqb-true, eq-eqb, ne_eqb, ltb-true, ltb-false}
use Rattle.slices.specs.Characters.{newline, blank}
use Rattle.message.specs.Inner.{is_end, is_blank, ends, first_line, other_lines}
use Rattle.message.specs.Message.{all_of, onto, lines_of, line_length, trim_end, keep_last}

abbrev First-apart : List ℕ → Type 0
First-apart m = lines_of m ≡ first_line m ∷ lines_of (other_lines m)

-- the lines of what is not empty are the first one and the others
pub lines_next : (m : List ℕ) → 0 < length m → lines_of m ≡ first_line m ∷ lines_of (other_lines m)
lines_next [] h = absurd (not-suc-le-zero h)
lines_next (x ∷ xs) h = by-case x xs (eqb x 0x0a) refl (lines_next xs)
  where
    by-case : (x : ℕ) (ys : List ℕ) (b : Bool) → eqb x 0x0a ≡ b → (0 < length ys → First-apart ys) → First-apart (x ∷ ys)
    by-case x ys true e r = rw e refl
    by-case x [] false e r = rw e refl
    by-case x (y ∷ ys) false e r = rw (e, r (omega arith)) refl

-- ---- whether each byte passes a test, by a fold
pub all-folded : (t : ℕ → Bool) (a : Bool) (s : List ℕ) → fold (λ (x : Bool) (b : ℕ). x && t b) a s ≡ (a && all_of t s)
all-folded t true [] = refl
all-folded t false [] = refl
all-folded t true (x ∷ s) = all-folded t (t x) s
all-folded t false (x ∷ s) = all-folded t false s

-- ---- the count of line ends
pub ends-summed : (m : List ℕ) → sum_by (λ b. cond (is_end b) 1 0) m ≡ ends m
ends-summed m = sym (is_sum_by ends (λ b. cond (is_end b) 1 0) refl (λ _ _. refl) m)

pub ends-append : (a b : List ℕ) → ends (a ++ b) ≡ ends a + ends b
ends-append [] b = omega arith
ends-append (x ∷ a) b = rw (ends-append a b) (omega arith)

pub ends-few : (m : List ℕ) → ends m ≤ length m
ends-few [] = omega arith
ends-few (x ∷ m) = go (eqb x newline) (ends-few m)
  where
    go : (t : Bool) → ends m ≤ length m → cond t 1 0 + ends m ≤ suc (length m)
    go true h = omega arith
    go false h = omega arith

-- ---- the first line, by blocks
line-place : (m : List ℕ) → line_length m ≡ position_or_len is_end m
line-place m = is_position_or_len line_length is_end refl (λ x xs. ap (λ (n : ℕ). cond (is_end x) 0 n) (omega arith)) m

line-append : (a b : List ℕ) → line_length (a ++ b) ≡ cond (ltb (line_length a) (length a)) (line_length a) (length a + line_length b)
line-append [] b = omega arith
line-append (x ∷ a) b = go (eqb x newline) (line-append a b)
  where
    go : (t : Bool) → line_length (a ++ b) ≡ cond (ltb (line_length a) (length a)) (line_length a) (length a + line_length b)
        → cond t 0 (suc (line_length (a ++ b))) ≡ cond (ltb (cond t 0 (suc (line_length a))) (suc (length a))) (cond t 0 (suc (line_length a))) (suc (length a) + line_length b)
    go true e = grind (arith, nat_tests)
    go false e = grind (arith, nat_tests, e)

-- bytes that end no line are of one line
all-passed : (a : List ℕ) → ends a ≡ 0 → line_length a ≡ length a
all-passed [] e = refl
all-passed (x ∷ a) e = go (eqb x newline) (all-passed a) e
  where
    go : (t : Bool) → (ends a ≡ 0 → line_length a ≡ length a) → cond t 1 0 + ends a ≡ 0 → cond t 0 (suc (line_length a)) ≡ suc (length a)
    go true r e = absurd (omega arith)
    go false r e = ap suc (r (omega arith))

pub line-of-none : (a : List ℕ) → ends a ≡ 0 → position is_end a ≡ None
line-of-none a e =
    let p : position_or_len is_end a ≡ length a = sym (line-place a) ∙ all-passed a e in
    let q : ltb (position_or_len is_end a) (length a) ≡ false = grind (arith, nat_tests) in
    rw q refl

pub line-found : (a b : List ℕ) (e : ℕ) → position is_end a ≡ Some e → line_length (a ++ b) ≡ e
line-found a b e h =
    go (ltb (position_or_len is_end a) (length a)) refl h
  where
    go : (t : Bool) → ltb (position_or_len is_end a) (length a) ≡ t → cond t (Some (position_or_len is_end a)) None ≡ Some e → line_length (a ++ b) ≡ e
    go true q h =
        let f : position_or_len is_end a ≡ e = cc in
        line-append a b ∙ rw (line-place a, q) f
    go false q h = absurd (cc)

pub line-passed : (a b : List ℕ) → position is_end a ≡ None → line_length (a ++ b) ≡ length a + line_length b
line-passed a b h =
    go (ltb (position_or_len is_end a) (length a)) refl h
  where
    go : (t : Bool) → ltb (position_or_len is_end a) (length a) ≡ t → cond t (Some (position_or_len is_end a)) None ≡ None → line_length (a ++ b) ≡ length a + line_length b
    go true q h = absurd (cc)
    go false q h = line-append a b ∙ rw (line-place a, q) refl

onto-long : (b : ℕ) (l : List (List ℕ)) → 0 < length l → length (onto b l) ≡ length l
onto-long b [] h = absurd (not-suc-le-zero h)
onto-long b (x ∷ l) h = refl

-- 1 where the last byte ends no line
abbrev unended : List ℕ → ℕ
unended m = cond (eqb (get_or m (length m - 1) 0) newline) 0 1

lines-counted : (m : List ℕ) → 0 < length m → length (lines_of m) ≡ ends m + unended m
lines-counted [] h = absurd (not-suc-le-zero h)
lines-counted (x ∷ []) h = by-test (eqb x newline) refl
  where
    by-test : (b : Bool) → eqb x newline ≡ b → length (lines_of (x ∷ [])) ≡ ends (x ∷ []) + unended (x ∷ [])
    by-test true e = rw e
    by-test false e = rw e
lines-counted (x ∷ y ∷ ys) h = by-test (eqb x newline) refl (lines-counted (y ∷ ys) (omega arith))
  where
    same : unended (x ∷ y ∷ ys) ≡ unended (y ∷ ys)
    same = let k : length (x ∷ y ∷ ys) - 1 ≡ suc (length (y ∷ ys) - 1) = omega arith in rw k

    some : 0 < length (lines_of (y ∷ ys))
    some = rw (lines_next (y ∷ ys) (omega arith)) (omega arith)

    by-test : (b : Bool) → eqb x newline ≡ b → length (lines_of (y ∷ ys)) ≡ ends (y ∷ ys) + unended (y ∷ ys) → length (lines_of (x ∷ y ∷ ys)) ≡ ends (x ∷ y ∷ ys) + unended (x ∷ y ∷ ys)
    by-test true e r = rw (e, same) (omega (arith, r))
    by-test false e r = rw (e, same, onto-long x (lines_of (y ∷ ys)) some) (omega (arith, r))

module _ (m : List ℕ) (n k : ℕ) (e : k ≡ ends m) (l : n ≡ length m) where
  pub count_none : n ≡ 0 → 0 ≡ length (lines_of m)
  count_none h = go m (sym l ∙ h)
    where
      go : (m : List ℕ) → length m ≡ 0 → 0 ≡ length (lines_of m)
      go [] h = refl
      go (x ∷ xs) h = absurd (omega (arith, h))

  pub count-ended : 0 < n → get_or m (n - 1) 0 ≡ newline → k ≡ length (lines_of m)
  count-ended h q =
      let w : unended m ≡ 0 = rw (← l, eq-eqb (get_or m (n - 1) 0) newline q) in
      omega (arith, lines-counted m (rw (← l) h), w)

  pub count-open : 0 < n → (get_or m (n - 1) 0 ≡ newline → ⊥) → k + 1 ≡ length (lines_of m)
  count-open h q =
      let w : unended m ≡ 1 = rw (← l, ne_eqb (get_or m (n - 1) 0) newline q) in
      omega (arith, lines-counted m (rw (← l) h), w)

pub line-within : (s : List ℕ) → line_length s ≤ length s
line-within [] = lit≤ tt
line-within (x ∷ xs) = by-test (eqb x 0x0a) (line-within xs)
  where
    by-test : (b : Bool) → line_length xs ≤ length xs → cond b 0 (suc (line_length xs)) ≤ suc (length xs)
    by-test true h = omega arith
    by-test false h = omega arith

-- what is behind the line at a place is what is behind the line's end
pub behind : (s : List ℕ) (a : ℕ) → other_lines (drop a s) ≡ drop (suc (a + line_length (drop a s))) s
behind s a = drop-drop (suc (line_length (drop a s))) a s ∙ ap (λ (k : ℕ). drop k s) (reach a (line_length (drop a s)))
  where
    reach : (a b : ℕ) → a + suc b ≡ suc (a + b)
    reach a b = omega arith

-- nothing is behind the end
pub drop-capped : (s : List ℕ) (k : ℕ) → drop (min k (length s)) s ≡ drop k s
drop-capped s k = go (ltb k (length s)) refl
  where
    go : (b : Bool) → ltb k (length s) ≡ b → drop (min k (length s)) s ≡ drop k s
    go true e =
        let h : k < length s = ltb-true k (length s) e in
        let m : min k (length s) ≡ k = omega arith in
        ap (λ (n : ℕ). drop n s) m
    go false e =
        let h : length s ≤ k = ltb-false k (length s) e in
        let m : length s ≤ min k (length s) = omega arith in
        drop_of_length-le s m ∙ sym (drop_of_length-le s h)

-- ---- blanks at the end

-- one text behind another
pub trim-front : (xs ys : List ℕ) → trim_end ys ≡ [] → trim_end (xs ++ ys) ≡ trim_end xs
trim-front [] ys e = e
trim-front (x ∷ xs) ys e = ap (keep_last x) (trim-front xs ys e)

pub keep-more : (x : ℕ) (ys : List ℕ) → 0 < length ys → keep_last x ys ≡ x ∷ ys
keep-more x [] h = absurd (not-suc-le-zero h)
keep-more x (y ∷ ys) h = refl

pub trim-behind : (xs ys : List ℕ) → 0 < length (trim_end ys) → trim_end (xs ++ ys) ≡ xs ++ trim_end ys
trim-behind [] ys h = refl
trim-behind (x ∷ xs) ys h =
    ap (keep_last x) (trim-behind xs ys h) ∙ keep-more x (xs ++ trim_end ys) (rw (length-append xs (trim_end ys)) (omega arith))

-- what is left is a front
pub trim-take : (s : List ℕ) → take (length (trim_end s)) s ≡ trim_end s
trim-take [] = refl
trim-take (x ∷ xs) = kept x (trim_end xs) xs (trim-take xs)
  where
    kept : (x : ℕ) (t xs : List ℕ) → take (length t) xs ≡ t → take (length (keep_last x t)) (x ∷ xs) ≡ keep_last x t
    kept x [] xs e = by-case (eqb x 0x20)
      where
        by-case : (b : Bool) → take (length (cond b [] (x ∷ []))) (x ∷ xs) ≡ cond b [] (x ∷ [])
        by-case true = refl
        by-case false = refl
    kept x (y ∷ t) xs e = ap (λ (l : List ℕ). x ∷ l) e

pub trim-length : (s : List ℕ) → length (trim_end s) ≤ length s
trim-length s = omega (arith, ap length (trim-take s), length-take (length (trim_end s)) s)

-- bytes are what is left of them, and the blanks that it lacks
pub trim-blanks : (s : List ℕ) → s ≡ trim_end s ++ replicate (length s - length (trim_end s)) blank
trim-blanks [] = refl
trim-blanks (x ∷ xs) = go (trim_end xs) (trim-blanks xs)
  where
    go : (t : List ℕ) → xs ≡ t ++ replicate (length xs - length t) blank → x ∷ xs ≡ keep_last x t ++ replicate (suc (length xs) - length (keep_last x t)) blank
    go [] e = by-test (eqb x blank) refl
      where
        z : length xs - 0 ≡ length xs
        z = omega arith

        by-test : (b : Bool) → eqb x blank ≡ b → x ∷ xs ≡ keep_last x [] ++ replicate (suc (length xs) - length (keep_last x [])) blank
        by-test true q =
            let k : suc (length xs) - 0 ≡ suc (length xs) = omega arith in
            rw (q, k, eqb-true x blank q) (ap (λ (l : List ℕ). blank ∷ l) (rw z at e))
        by-test false q =
            let k : suc (length xs) - 1 ≡ length xs - 0 = omega arith in
            rw (q, k) (ap (λ (l : List ℕ). x ∷ l) e)
    go (y ∷ t) e =
        let k : suc (length xs) - suc (suc (length t)) ≡ length xs - suc (length t) = omega arith in
        rw k (ap (λ (l : List ℕ). x ∷ l) e)

-- how many blanks it lacks, counted from the end
pub trim-counted : (s : List ℕ) → length (trim_end s) + suffix_len is_blank s ≡ length s
trim-counted [] = refl
trim-counted (x ∷ xs) =
    let e : suffix_len is_blank (x ∷ xs) ≡ cond (eqb (suffix_len is_blank xs) (length xs)) (length xs + cond (is_blank x) 1 0) (suffix_len is_blank xs) =
    rw (reverse-cons x xs, prefix_len-append is_blank (reverse xs) (x ∷ []), length-reverse xs) (by-test (is_blank x)) in
    go (trim_end xs) (suffix_len is_blank xs) (eqb x blank) refl (trim-counted xs) e
  where
    go : (t : List ℕ) (k : ℕ) (b : Bool) → eqb x blank ≡ b → length t + k ≡ length xs → suffix_len is_blank (x ∷ xs) ≡ cond (eqb k (length xs)) (length xs + cond b 1 0) k
        → length (keep_last x t) + suffix_len is_blank (x ∷ xs) ≡ suc (length xs)
    go [] k true q h e = rw q (grind (arith, nat_tests))
    go [] k false q h e = rw q (grind (arith, nat_tests))
    go (y ∷ t) k b q h e = grind (arith, nat_tests)

    by-test : (b : Bool) → cond (eqb (suffix_len is_blank xs) (length xs)) (length xs + cond b (1 + 0) 0) (suffix_len is_blank xs) ≡ cond (eqb (suffix_len is_blank xs) (length xs)) (length xs + cond b 1 0) (suffix_len is_blank xs)
    by-test true = refl
    by-test false = refl

pub trim-by-count : (s : List ℕ) (k : ℕ) → k ≡ suffix_len is_blank s → (length s - k ≡ length (trim_end s)) × (take (length s - k) s ≡ trim_end s)
trim-by-count s k e =
    let h : length s - k ≡ length (trim_end s) = omega (arith, e, trim-counted s) in
    (h, ap (λ (n : ℕ). take n s) h ∙ trim-take s)

-- what is left has no more to lose
pub trim-again : (s : List ℕ) → trim_end (trim_end s) ≡ trim_end s
trim-again [] = refl
trim-again (x ∷ xs) = go (trim_end xs) (trim-again xs)
  where
    go : (t : List ℕ) → trim_end t ≡ t → trim_end (keep_last x t) ≡ keep_last x t
    go [] e = by-test (eqb x blank) refl
      where
        by-test : (b : Bool) → eqb x blank ≡ b → trim_end (keep_last x []) ≡ keep_last x []
        by-test true q = rw q refl
        by-test false q = rw q (rw q refl)
    go (y ∷ t) e = ap (keep_last x) e

-- the length of one text behind another, trimmed
pub trim-append : (xs ys : List ℕ)
    → length (trim_end (xs ++ ys)) ≡ cond (eqb (length (trim_end ys)) 0) (length (trim_end xs)) (length xs + length (trim_end ys))
trim-append xs ys = go (trim_end ys) refl
  where
    go : (t : List ℕ) → trim_end ys ≡ t → length (trim_end (xs ++ ys)) ≡ cond (eqb (length t) 0) (length (trim_end xs)) (length xs + length t)
    go [] e = ap length (trim-front xs ys e)
    go (y ∷ t) e =
        let h : 0 < length (trim_end ys) = rw e (omega arith) in
        rw (trim-behind xs ys h, length-append xs (trim_end ys), e, ne_eqb (suc (length t)) 0 (λ z. omega arith)) refl

-- a message has no more lines than bytes
pub lines-few : (m : List ℕ) → length (lines_of m) ≤ length m
lines-few [] = lit≤ tt
lines-few (b ∷ bs) = go (eqb b 0x0a) (lines_of bs) (lines-few bs)
  where
    go : (t : Bool) (ls : List (List ℕ)) → length ls ≤ length bs → length (cond t ([] ∷ ls) (onto b ls)) ≤ suc (length bs)
    go true ls h = omega arith
    go false [] h = omega arith
    go false (l ∷ ls) h = omega arith
