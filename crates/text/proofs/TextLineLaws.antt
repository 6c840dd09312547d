-- Laws of one line of text: its lengths, and how it is written.
use mathlib.Core.Path.{◌≡◌, refl, sym, ap, ◌∙◌}
use mathlib.Core.Bool.{Bool, true, false, cond}
use mathlib.Core.List.{List, [], ◌∷◌, ◌++◌, append_assoc, append-nil}
use Prim.Native.Nat.{ℕ, zero, suc, ◌+◌, ◌-◌, ◌<◌, ◌≤◌}
use native.Mathlib.Omega.{arith}
use lib.Dec.{eqb}
use lib.ListN.{length, take, drop, set, replicate, length-append, length-drop, length-replicate, drop_of_length-le}
use lib.Seq.{take_all, length-take-le}
use Rattle.std.specs.List.{copy_within}
use borrow.Author.Tests.{eqb-true, eqb-false, eq-eqb, ne_eqb}
use Rattle.slices.specs.Characters.{newline, blank}
use Rattle.slices.specs.Joins.{over, Writes}
use Rattle.slices.proofs.OverLaws.{over-one, length_over, part_room, part-written, wrote, wrote_count}
use Rattle.message.specs.Message.{trim_end}
use Rattle.message.proofs.MessageLaws.{keep-more, trim-length, trim-front, trim-behind, trim-take}
use Rattle.glyphs.specs.Tables.{WritesCells}
use Rattle.glyphs.proofs.WriteLaws.{cells_count, cells-then}
use Rattle.output.specs.Output.{ended}
use Rattle.text.specs.declared.lines.Lengths.{Lengths}
use Rattle.text.specs.Inner.{Measured, line_with, measure_with, behind_finished, prefix_again, WritesLine, WritesLineAt}

-- ---- blanks at the end
nothing : (l : List ℕ) → length l ≡ 0 → l ≡ []
nothing [] e = refl
nothing (x ∷ l) e = absurd (omega (arith, e))

blanks-go : (n : ℕ) → trim_end (replicate n blank) ≡ []
blanks-go zero = refl
blanks-go (suc n) = rw (blanks-go n) refl

-- ---- a finished line: xs, a blank and a message line
pub ended-length : (l : List ℕ) → length (ended l) ≡ length l + 1
ended-length l = length-append l (newline ∷ [])

module _ (xs part : List ℕ) where
  -- it is no longer than its parts
  pub line-short : length (line_with xs part) ≤ length xs + 1 + length part
  line-short = omega (arith, trim-length (xs ++ (blank ∷ part)), length-append xs (blank ∷ part))

  -- a message line of blanks
  pub line-none : length (trim_end part) ≡ 0 → line_with xs part ≡ trim_end xs
  line-none e = trim-front xs (blank ∷ part) (rw (nothing (trim_end part) e) refl)

  -- and one of more
  pub line-some : 0 < length (trim_end part) → line_with xs part ≡ xs ++ (blank ∷ trim_end part)
  line-some some =
      let e : trim_end (blank ∷ part) ≡ blank ∷ trim_end part = keep-more blank (trim_end part) some in
      trim-behind xs (blank ∷ part) (rw e (omega arith)) ∙ ap (λ (l : List ℕ). xs ++ l) e

-- ---- the lengths
pub lengths-done : (xs : List ℕ) (a b : ℕ) → a ≡ length xs → b ≡ length xs - length (trim_end xs) → Measured xs (record { all = a; finished = a - b })
lengths-done xs a b e f = record { all = e; finished = omega (arith, e, f, trim-length xs) }

module _ (part : List ℕ) (n : ℕ) (e : n ≡ length (trim_end part)) where
  pub length_none : n ≡ 0 → (r : Lengths) (xs : List ℕ) → Measured xs r → r.finished + 1 ≡ length (ended (line_with xs part))
  length_none z r xs m = rw (line-none xs part (sym e ∙ z), ended-length (trim_end xs), m.finished) refl

  pub length_some : (n ≡ 0 → ⊥) → (r : Lengths) (xs : List ℕ) → Measured xs r → r.all + n + 2 ≡ length (ended (line_with xs part))
  length_some z r xs m =
      let some : 0 < length (trim_end part) = omega (arith, e, z) in
      omega (arith, ap length (line-some xs part some), length-append xs (blank ∷ trim_end part), ended-length (line_with xs part), m.all, e)

-- ---- a blank and a message line with its end
module _ (part d : List ℕ) (room : length part + 2 ≤ length d) where
  first-blank : set d 0 blank ≡ over (blank ∷ []) d
  first-blank = over-one [] d blank refl refl (omega arith)

  pub first-room : length (set d 0 blank) ≡ length d
  first-room = ap length first-blank ∙ length_over (blank ∷ []) d (omega arith)

  pub part-done : (p : List ℕ) (k : ℕ) → Writes (ended part) (take (length (set d 0 blank) - 1) (drop 1 (set d 0 blank))) p k
      → (1 + k ≡ length part + 2)
      × (take 1 (set d 0 blank) ++ (p ++ drop (length (set d 0 blank) - 1) (drop 1 (set d 0 blank))) ≡ over (blank ∷ ended part) d)
  part-done p k w =
      let o : List ℕ = set d 0 blank in
      let lent : List ℕ = take (length o - 1) (drop 1 o) in
      let h : length (ended part) ≤ length lent = omega (arith, part_room o 1, first-room, ended-length part) in
      (omega (arith, wrote_count (ended part) lent p k w h, ended-length part), part-written (blank ∷ []) (ended part) d first-blank refl (wrote (ended part) lent p k w h))

-- ---- a line with cells
module _ (xs part d : List ℕ) (whole n : ℕ) (e : n ≡ length (trim_end part)) (room : length (ended (line_with xs part)) ≤ length d) where
  -- a message line of blanks: the finished cells, and the end
  module _ (z : n ≡ 0) (blanks : ℕ) (f : blanks ≡ length xs - length (trim_end xs)) (o : List ℕ) (end : ℕ) (w : Writes (take (length xs - blanks) xs) d o end) where
    none-line : line_with xs part ≡ trim_end xs
    none-line = line-none xs part (sym e ∙ z)

    none-fits : length (trim_end xs) < length d
    none-fits = omega (arith, ap length none-line, ended-length (line_with xs part), room)

    finished-written : Writes (trim_end xs) d o end
    finished-written =
        let k : length xs - blanks ≡ length (trim_end xs) = omega (arith, f, trim-length xs) in
        rw (k, trim-take xs) at w

    none_end : end ≡ length (trim_end xs)
    none_end = wrote_count (trim_end xs) d o end finished-written (omega (arith, none-fits))

    pub none-room : end < length d
    none-room = omega (arith, none_end, none-fits)

    none_written : set o end newline ≡ over (ended (trim_end xs)) d
    none_written = over-one (trim_end xs) d newline (wrote (trim_end xs) d o end finished-written (omega (arith, none-fits))) none_end none-fits

    pub none_done : (m : ℕ) → m ≡ whole - blanks → WritesLine xs part whole d (set o end newline) (record { length = end + 1; measure = m })
    none_done m g =
        record {
          count = omega (arith, none_end, ap length none-line, ended-length (line_with xs part));
          output = none_written ∙ ap (λ (l : List ℕ). over (ended l) d) (sym none-line);
          measure = rw (eq-eqb (length (trim_end part)) 0 (sym e ∙ z), ← f) g;
        }

  -- and one of more: all cells, a blank, the message line and the end
  module _ (some : n ≡ 0 → ⊥) (t : take n part ≡ trim_end part) where
    abbrev rest : List ℕ
    rest = blank ∷ ended (trim_end part)

    some-line : line_with xs part ≡ xs ++ (blank ∷ trim_end part)
    some-line = line-some xs part (omega (arith, e, some))

    rest-length : length rest ≡ n + 2
    rest-length = omega (arith, ended-length (trim_end part), e)

    some_bytes : xs ++ rest ≡ ended (line_with xs part)
    some_bytes = rw some-line (sym (append_assoc xs (blank ∷ trim_end part) (newline ∷ [])))

    pub some-room : length xs + (n + 2) ≤ length d
    some-room = omega (arith, ap length some_bytes, length-append xs rest, rest-length, room)

    pub some-measure : whole + n + 1 ≡ measure_with whole xs part
    some-measure = rw (ne_eqb (length (trim_end part)) 0 (λ z. some (e ∙ z)), ← e) refl

    module _ (o : List ℕ) (at : ℕ) (w : WritesCells xs (n + 2) d o at) where
      pub some_end : at ≡ length xs
      some_end = cells_count xs (n + 2) d o at w some-room

      pub some-done : (p : List ℕ) (k : ℕ) → length o ≡ length d
          → (k ≡ length (take n part) + 2) × (p ≡ over (blank ∷ ended (take n part)) (take (length o - at) (drop at o)))
          → WritesLine xs part whole d (take at o ++ (p ++ drop (length o - at) (drop at o))) (record { length = at + k; measure = whole + n + 1 })
      some-done p k same (f, g) =
          let all : take (length o - at) (drop at o) ≡ drop at o = take_all (length o - at) (drop at o) (rw (length-drop at o) (omega arith)) in
          let gone : drop (length o - at) (drop at o) ≡ [] = drop_of_length-le (drop at o) {i = length o - at} (rw (length-drop at o) (omega arith)) in
          let p-is : p ≡ over rest (drop at o) = rw (t, all) at g in
          let back : take at o ++ (p ++ drop (length o - at) (drop at o)) ≡ take at o ++ over rest (drop at o) = rw (gone, append-nil, p-is) refl in
          record {
            count = omega (arith, some_end, f, ap length t, e, ap length some_bytes, length-append xs rest, rest-length);
            output = cells-then xs rest d o at (rw rest-length w) (rw rest-length some-room) back ∙ ap (λ (l : List ℕ). over l d) some_bytes;
            measure = some-measure;
          }

-- ---- the first bytes of d, copied to `at` of it
pub copied-within : (d : List ℕ) (count at : ℕ) {o : List ℕ} → o ≡ copy_within d 0 count at → o ≡ take at d ++ (take count d ++ drop (at + count) d)
copied-within d count at e =
    let z : count - 0 ≡ count = omega arith in
    e ∙ rw z (append_assoc (take at d) (take count d) (drop (at + count) d))

-- blanks over the start of d
pub filled : (d : List ℕ) (count : ℕ) {p : List ℕ} → count ≤ length d → p ≡ replicate (length (take count d)) blank → p ++ drop count d ≡ over (replicate count blank) d
filled d count h e =
    let z : length (replicate count blank) ≡ count = length-replicate count blank in
    rw (e, length-take-le count d h, z) refl

-- ---- what stands behind a finished prefix line
module _ (blanks : ℕ) (part : List ℕ) (n : ℕ) (e : n ≡ length (trim_end part)) where
  -- the end alone
  behind-end : n ≡ 0 → behind_finished blanks part ≡ newline ∷ []
  behind-end z = rw (eq-eqb (length (trim_end part)) 0 (sym e ∙ z)) refl

  -- or more
  module _ (some : n ≡ 0 → ⊥) where
    behind_more : behind_finished blanks part ≡ replicate blanks blank ++ (blank ∷ ended (trim_end part))
    behind_more = rw (ne_eqb (length (trim_end part)) 0 (λ z. some (e ∙ z))) refl

    behind-length : length (behind_finished blanks part) ≡ blanks + (n + 2)
    behind-length =
        omega (arith, ap length behind_more, length-append (replicate blanks blank) (blank ∷ ended (trim_end part)), length-replicate blanks blank, ended-length (trim_end part), e)

  module _ (d : List ℕ) (room : length (behind_finished blanks part) ≤ length d) where
    pub behind-none : n ≡ 0 → (1 ≡ length (behind_finished blanks part)) × (set d 0 newline ≡ over (behind_finished blanks part) d)
    behind-none z = rw (behind-end z) (refl, over-one [] d newline refl refl (omega (arith, ap length (behind-end z), room)))

    module _ (some : n ≡ 0 → ⊥) (t : take n part ≡ trim_end part) where
      pub behind-room : blanks + (n + 2) ≤ length d
      behind-room = omega (arith, behind-length some, room)

      pub behind-done : (o p : List ℕ) (k : ℕ) → o ≡ over (replicate blanks blank) d
          → (k ≡ length (take n part) + 2) × (p ≡ over (blank ∷ ended (take n part)) (take (length o - blanks) (drop blanks o)))
          → (blanks + k ≡ length (behind_finished blanks part))
          × (take blanks o ++ (p ++ drop (length o - blanks) (drop blanks o)) ≡ over (behind_finished blanks part) d)
      behind-done o p k f (g, h) = (
        omega (arith, g, ap length t, e, behind-length some),
        part-written (replicate blanks blank) (blank ∷ ended (trim_end part)) d f (sym (length-replicate blanks blank)) (rw t at h)
            ∙ ap (λ (l : List ℕ). over l d) (sym (behind_more some)),
      )

-- it has a byte at least, the end
pub behind-some : (blanks : ℕ) (part : List ℕ) → 0 < length (behind_finished blanks part)
behind-some blanks part = go (eqb (length (trim_end part)) 0)
  where
    go : (b : Bool) → 0 < length (cond b (newline ∷ []) (replicate blanks blank ++ (blank ∷ ended (trim_end part))))
    go true = omega arith
    go false = omega (arith, length-append (replicate blanks blank) (blank ∷ ended (trim_end part)))

-- ---- a prefix line once more
-- finished bytes, and what stands behind them
behind-line : (f part : List ℕ) (b : ℕ) → trim_end f ≡ f → f ++ behind_finished b part ≡ ended (line_with (f ++ replicate b blank) part)
behind-line f part b e = go (eqb (length (trim_end part)) 0) refl
  where
    whole : List ℕ
    whole = f ++ replicate b blank

    go : (t : Bool) → eqb (length (trim_end part)) 0 ≡ t → f ++ behind_finished b part ≡ ended (line_with whole part)
    go true q = rw (q, line-none whole part (eqb-true (length (trim_end part)) 0 q), trim-front f (replicate b blank) (blanks-go b), e) refl
    go false q =
        let n : length (trim_end part) ≡ 0 → ⊥ = eqb-false (length (trim_end part)) 0 q in
        rw (q, line-some whole part (omega (arith, n))) (simp append_assoc)

module _ (r : Lengths) (at : ℕ) (part d : List ℕ) (within : r.finished ≤ at) (e : trim_end (take r.finished d) ≡ take r.finished d)
    (room : at + length (ended (line_with (prefix_again r d) part)) ≤ length d) where
  abbrev front : List ℕ
  front = take r.finished d

  abbrev behind : List ℕ
  behind = behind_finished (r.all - r.finished) part

  again-line : front ++ behind ≡ ended (line_with (prefix_again r d) part)
  again-line = behind-line front part (r.all - r.finished) e

  front_length : length front ≡ r.finished
  front_length = length-take-le r.finished d (omega arith)

  pub again-length : r.finished + length (behind_finished (r.all - r.finished) part) ≡ length (ended (line_with (prefix_again r d) part))
  again-length = omega (arith, ap length again-line, length-append front behind, front_length)

  pub again-room : at + (r.finished + length (behind_finished (r.all - r.finished) part)) ≤ length d
  again-room = omega (arith, again-length, room)

  -- where it is written so, the end alone stands behind a message line of blanks, and else the blanks, a blank, the message line and the end
  module _ (k : ℕ) (c : k ≡ length (behind_finished (r.all - r.finished) part)) where
    end-alone : k ≡ 1 → length (trim_end part) ≡ 0
    end-alone z = go (length (trim_end part)) refl
      where
        go : (n : ℕ) → length (trim_end part) ≡ n → n ≡ 0
        go zero f = refl
        go (suc n) f = absurd (omega (arith, z, c, behind-length (r.all - r.finished) part (suc n) (sym f) (λ y. omega (arith, y))))

    more-than-end : (k ≡ 1 → ⊥) → length (trim_end part) ≡ 0 → ⊥
    more-than-end z f = z (c ∙ ap length (behind-end (r.all - r.finished) part 0 (sym f) refl))

    pub more-there : (k ≡ 1 → ⊥) → k ≡ (r.all - r.finished) + (length (trim_end part) + 2)
    more-there z = c ∙ behind-length (r.all - r.finished) part (length (trim_end part)) refl (more-than-end z)

  -- as it stands in the output
  again-line-there : (o p : List ℕ) → length o ≡ length d → o ≡ take at d ++ (take r.finished d ++ drop (at + r.finished) d)
      → p ≡ over (behind_finished (r.all - r.finished) part) (take (length o - (at + r.finished)) (drop (at + r.finished) o))
      → take (at + r.finished) o ++ (p ++ drop (length o - (at + r.finished)) (drop (at + r.finished) o))
      ≡ take at d ++ (ended (line_with (prefix_again r d) part) ++ drop (at + length (ended (line_with (prefix_again r d) part))) d)
  again-line-there o p same f h =
      let l : List ℕ = line_with (prefix_again r d) part in
      let from : ℕ = at + r.finished in
      let a : length (take at d) ≡ at = length-take-le at d (omega (arith, room)) in
      let b : length (take at d ++ front) ≡ from = omega (arith, length-append (take at d) front, a, front_length) in
      let o_is : o ≡ over (take at d ++ front) d = f ∙ sym (append_assoc (take at d) front (drop from d)) ∙ ap (λ (j : ℕ). (take at d ++ front) ++ drop j d) (sym b) in
      let w : (take at d ++ front) ++ behind ≡ take at d ++ ended l = append_assoc (take at d) front behind ∙ ap (λ (y : List ℕ). take at d ++ y) again-line in
      let v : length (take at d ++ ended l) ≡ at + length (ended l) = omega (arith, length-append (take at d) (ended l), a) in
      part-written (take at d ++ front) behind d o_is (sym b) h ∙ ap (λ (y : List ℕ). over y d) w
      ∙ append_assoc (take at d) (ended l) (drop (length (take at d ++ ended l)) d) ∙ ap (λ (j : ℕ). take at d ++ (ended l ++ drop j d)) v

  -- the blanks at its end
  again-blanks : length (prefix_again r d) - length (trim_end (prefix_again r d)) ≡ r.all - r.finished
  again-blanks =
      let b : ℕ = r.all - r.finished in
      omega (
        arith,
        ap length (trim-front front (replicate b blank) (blanks-go b) ∙ e),
        length-append front (replicate b blank),
        length-replicate b blank,
      )

  module _ (whole k : ℕ) (o p : List ℕ) (same : length o ≡ length d) (f : o ≡ take at d ++ (take r.finished d ++ drop (at + r.finished) d))
      (g : (k ≡ length (behind_finished (r.all - r.finished) part)) × (p ≡ over (behind_finished (r.all - r.finished) part) (take (length o - (at + r.finished)) (drop (at + r.finished) o)))) where
    pub again-none : k ≡ 1 → (m : ℕ) → m ≡ whole - (r.all - r.finished)
        → WritesLineAt (prefix_again r d) part whole at d (take (at + r.finished) o ++ (p ++ drop (length o - (at + r.finished)) (drop (at + r.finished) o)))
        (record { length = r.finished + 1; measure = m })
    again-none z m h =
        record {
          count = omega (arith, again-length, g.0, z);
          output = again-line-there o p same f g.1;
          measure = rw (eq-eqb (length (trim_end part)) 0 (end-alone k g.0 z), again-blanks) h;
        }

    pub again-some : (k ≡ 1 → ⊥)
        → WritesLineAt (prefix_again r d) part whole at d (take (at + r.finished) o ++ (p ++ drop (length o - (at + r.finished)) (drop (at + r.finished) o)))
        (record { length = r.finished + k; measure = whole + (k - (r.all - r.finished)) - 1 })
    again-some z =
        record {
          count = omega (arith, again-length, g.0);
          output = again-line-there o p same f g.1;
          measure = rw (ne_eqb (length (trim_end part)) 0 (more-than-end k g.0 z)) (omega (arith, more-there k g.0 z));
        }
