-- Laws of lines written behind each other, for any lines: what a writer of lines cites.
use mathlib.Core.Path.{◌≡◌, refl, sym, ap, ◌∙◌}
use mathlib.Core.Bool.{Bool, true, false, cond, ◌&&◌}
use mathlib.Core.List.{List, [], ◌∷◌, ◌++◌, map, append_assoc, append-nil}
use Prim.Native.Nat.{ℕ, zero, suc, ◌+◌, ◌-◌, ◌<◌, ◌≤◌, min, max, zero-le}
use native.Mathlib.Nat.{add-zero}
use native.Mathlib.Omega.{arith}
use lib.Dec.{eqb, ltb, leb, lit≤}
use borrow.Author.Tests.{ne_eqb, ltb-true, ltb-false, leb-true, le-leb, lt-leb}
use lib.ListN.{length, take, drop, set, length-append, length-take}
use lib.Seq.{take-append_seam}
use Rattle.std.proofs.lemmas.List.{take_min}
use Rattle.slices.specs.Characters.{newline}
use Rattle.slices.specs.Joins.{over, Writes}
use Rattle.slices.proofs.JoinLaws.{joins-append}
use Rattle.slices.proofs.OverLaws.{over-one, copied-over, writes-all, writes-none, wrote, wrote_count, part-written, part_room}
use Rattle.message.specs.Message.{trim_end}
use Rattle.message.proofs.MessageLaws.{trim-length}
use Rattle.output.specs.declared.Put.{Put}
use Rattle.output.specs.declared.TextState.{TextState}
use Rattle.output.specs.Measure.{measure_of}
use Rattle.output.specs.Output.{queue_limit, finish, ended, text_of, line_measure, text_view_of, flushed, lines_above, begin_row, Puts}

pub measure-append : (ls ms : List (List ℕ)) → line_measure (ls ++ ms) ≡ max (line_measure ls) (line_measure ms)
measure-append [] ms = omega arith
measure-append (l ∷ ls) ms = omega (arith, measure-append ls ms)

pub text-length : (ls ms : List (List ℕ)) → length (text_of (ls ++ ms)) ≡ length (text_of ls) + length (text_of ms)
text-length ls ms = ap length (joins-append ended ls ms) ∙ length-append (text_of ls) (text_of ms)

-- ---- the lines above a row
one_more : (n : ℕ) → eqb n 0 ≡ eqb (n + 1) 1
one_more zero = refl
one_more (suc n) = ne_eqb (suc n) 0 (λ e. omega arith) ∙ sym (ne_eqb (suc n + 1) 1 (λ e. omega arith))

module _ (t : TextState) where
  pub above-queued : t.is_queued ≡ true → eqb t.row_height 0 ≡ eqb (lines_above (text_view_of t)) 1
  above-queued e = rw e (one_more t.row_height)

  pub above-none : t.is_queued ≡ false → eqb t.row_height 1 ≡ eqb (lines_above (text_view_of t)) 1
  above-none e = rw (e, add-zero) refl

-- ---- the queued line
-- its array has 512 bytes
pub queue_long : (l : List ℕ) → length l ≡ 512 → length l ≡ queue_limit
queue_long l e = e

module _ (t : TextState) (long : length t.queued_pad_line ≡ queue_limit) where
  -- it has at most 513 bytes with its end
  pub queue-short : length (text_of (flushed finish (text_view_of t))) ≤ 513
  queue-short = go t.is_queued refl
    where
      go : (b : Bool) → t.is_queued ≡ b → length (text_of (flushed finish (text_view_of t))) ≤ 513
      go false e = rw e (lit≤ tt)
      go true e =
          let l : List ℕ = take t.queued_length t.queued_pad_line in
          rw (e, append-nil, length-append (trim_end l) (0x0a ∷ [])) (omega (arith, trim-length l, length-take t.queued_length t.queued_pad_line, long))

  module _ (n : ℕ) (e : t.is_queued ≡ true) (f : n ≡ min t.queued_length queue_limit) where
    -- the line is what the code reads
    queue-lines : flushed finish (text_view_of t) ≡ finish (take (n - 0) (drop 0 t.queued_pad_line)) ∷ []
    queue-lines =
        let z : n - 0 ≡ n = omega arith in
        let q : take n t.queued_pad_line ≡ take t.queued_length t.queued_pad_line
        = ap (λ (k : ℕ). take k t.queued_pad_line) (f ∙ ap (min t.queued_length) (sym long)) ∙ take_min t.queued_length t.queued_pad_line in
        rw (e, z, q) refl

    pub queue-written : (d o : List ℕ) (k : ℕ) → Writes (ended (finish (take (n - 0) (drop 0 t.queued_pad_line)))) d o k → Writes (text_of (flushed finish (text_view_of t))) d o k
    queue-written d o k w = rw (queue-lines, append-nil) w

-- ---- lines that fit, and lines that do not
module _ (ls : List (List ℕ)) (d o : List ℕ) (r : Put) where
  puts-all : length (text_of ls) ≤ length d → r.length ≡ length (text_of ls) → o ≡ over (text_of ls) d → r.measure ≡ line_measure ls → Puts ls d o r
  puts-all h e f g = record {
    bytes = writes-all (text_of ls) d o r.length h e f;
    measure = rw (le-leb (length (text_of ls)) (length d) h) g;
  }

  puts_none : length d < length (text_of ls) → r.length ≡ 0 → r.measure ≡ 0 → o ≡ d → Puts ls d o r
  puts_none h e f g = record {
    bytes = writes-none (text_of ls) d o r.length h e g;
    measure = rw (lt-leb (length (text_of ls)) (length d) h) f;
  }

  module _ (p : Puts ls d o r) (h : length (text_of ls) ≤ length d) where
    pub put_count : r.length ≡ length (text_of ls)
    put_count = wrote_count (text_of ls) d o r.length p.bytes h

    pub put-bytes : o ≡ over (text_of ls) d
    put-bytes = wrote (text_of ls) d o r.length p.bytes h

    pub put-measure : r.measure ≡ line_measure ls
    put-measure = p.measure ∙ ap (λ (b : Bool). cond b (line_measure ls) 0) (le-leb (length (text_of ls)) (length d) h)

-- what was written is no longer than the bytes, nor than the output
pub writes-few : (bs d o : List ℕ) (k : ℕ) → Writes bs d o k → (k ≤ length bs) × (k ≤ length d)
writes-few bs d o k w = go (leb (length bs) (length d)) refl
  where
    go : (b : Bool) → leb (length bs) (length d) ≡ b → (k ≤ length bs) × (k ≤ length d)
    go true e =
        let z : k ≡ length bs = rw e at w.count in
        (omega (arith, z), omega (arith, z, leb-true (length bs) (length d) e))
    go false e = let z : k ≡ 0 = rw e at w.count in (omega (arith, z), omega (arith, z))

-- ---- a line's end behind some bytes
module _ (bs d : List ℕ) where
  ended-length : length (ended bs) ≡ length bs + 1
  ended-length = length-append bs (newline ∷ [])

  pub ended-none : length d ≤ length bs → Writes (ended bs) d d 0
  ended-none h = writes-none (ended bs) d d 0 (omega (arith, ended-length)) refl refl

  pub ended-done : (o : List ℕ) → length bs < length d → o ≡ take (length bs) bs ++ drop (length bs) d → Writes (ended bs) d (set o (length bs) newline) (length bs + 1)
  ended-done o h e =
      writes-all (ended bs) d (set o (length bs) newline) (length bs + 1) (omega (arith, ended-length)) (sym ended-length)
      (over-one bs d newline (e ∙ copied-over bs d) refl h)

-- ---- a line that was written, measured in the output: k bytes are written, and all but the end are looked at
no-measure : measure_of [] ≡ 0
unfolding measure_of
no-measure = refl

module _ (d o : List ℕ) (k i m : ℕ) (e : i ≡ k - 1) (f : m ≡ measure_of (take i o)) where
  nothing-looked-at : k ≡ 0 → m ≡ 0
  nothing-looked-at z =
      let n : i ≡ 0 = omega arith in
      f ∙ ap (λ (j : ℕ). measure_of (take j o)) n ∙ no-measure

  none-measured : Writes (text_of []) d o k → Puts [] d o (record { length = k; measure = m })
  none-measured w =
      let z : k ≡ 0 = wrote_count [] d o k w zero-le in
      puts-all [] d o (record { length = k; measure = m }) zero-le z (wrote [] d o k w zero-le) (nothing-looked-at z)

  one-measured : (l : List ℕ) → Writes (text_of (l ∷ [])) d o k → Puts (l ∷ []) d o (record { length = k; measure = m })
  one-measured l w = go (ltb (length d) (length (text_of (l ∷ [])))) refl
    where
      long : length (text_of (l ∷ [])) ≡ length l + 1
      long = ap length (append-nil (ended l)) ∙ length-append l (newline ∷ [])

      go : (b : Bool) → ltb (length d) (length (text_of (l ∷ []))) ≡ b → Puts (l ∷ []) d o (record { length = k; measure = m })
      go true q =
          let h : length d < length (text_of (l ∷ [])) = ltb-true (length d) (length (text_of (l ∷ []))) q in
          let z : k ≡ 0 = rw (lt-leb (length (text_of (l ∷ []))) (length d) h) at w.count in
          let same : o ≡ d = rw (lt-leb (length (text_of (l ∷ []))) (length d) h) at w.output in
          puts_none (l ∷ []) d o (record { length = k; measure = m }) h z (nothing-looked-at z) same
      go false q =
          let h : length (text_of (l ∷ [])) ≤ length d = ltb-false (length d) (length (text_of (l ∷ []))) q in
          let c : k ≡ length (text_of (l ∷ [])) = wrote_count (text_of (l ∷ [])) d o k w h in
          let n : i ≡ length l = omega (arith, c, long) in
          let there : o ≡ l ++ (newline ∷ drop (length (ended l)) d)
          = wrote (text_of (l ∷ [])) d o k w h ∙ ap (λ (x : List ℕ). over x d) (append-nil (ended l)) ∙ append_assoc l (newline ∷ []) (drop (length (ended l)) d) in
          let front : take (length l) o ≡ l = rw there (take-append_seam l (newline ∷ drop (length (ended l)) d)) in
          puts-all (l ∷ []) d o (record { length = k; measure = m }) h c (wrote (text_of (l ∷ [])) d o k w h)
          (f ∙ ap (λ (j : ℕ). measure_of (take j o)) n ∙ ap measure_of front ∙ omega arith)

  -- the queued line, if there is one
  pub queue-measured : (t : TextState) → Writes (text_of (flushed finish (text_view_of t))) d o k → Puts (flushed finish (text_view_of t)) d o (record { length = k; measure = m })
  queue-measured t w = go t.is_queued w
    where
      go : (b : Bool) → Writes (text_of (map finish (cond b (take t.queued_length t.queued_pad_line ∷ []) []))) d o k
          → Puts (map finish (cond b (take t.queued_length t.queued_pad_line ∷ []) [])) d o (record { length = k; measure = m })
      go true w = one-measured (finish (take t.queued_length t.queued_pad_line)) w
      go false w = none-measured w

-- ---- what stands between two rows
pub none-queued : (t : TextState) → t.is_queued ≡ false → 0 ≡ length (text_of (flushed finish (text_view_of t)))
none-queued t e = rw e refl

pub queue-none : (t : TextState) (d : List ℕ) → t.is_queued ≡ false → Writes (text_of (flushed finish (text_view_of t))) d d 0
queue-none t d e = rw e (writes-all [] d d 0 zero-le refl refl)

module _ (b : Bool) (t : TextState) where
  module _ (e : (b && eqb (lines_above (text_view_of t)) 1) ≡ false) where
    none-there : flushed finish (text_view_of t) ≡ begin_row finish b (text_view_of t)
    none-there = rw (e, append-nil) refl

    pub length_none : (n : ℕ) → n ≡ length (text_of (flushed finish (text_view_of t))) → n ≡ length (text_of (begin_row finish b (text_view_of t)))
    length_none n f = f ∙ ap (λ (ls : List (List ℕ)). length (text_of ls)) none-there

    pub separator-none : (d o : List ℕ) (r : Put) → Puts (flushed finish (text_view_of t)) d o r → Puts (begin_row finish b (text_view_of t)) d o r
    separator-none d o r p = rw none-there at p

  module _ (e : (b && eqb (lines_above (text_view_of t)) 1) ≡ true) where
    one-there : flushed finish (text_view_of t) ++ ([] ∷ []) ≡ begin_row finish b (text_view_of t)
    one-there = rw e refl

    both_long : length (text_of (flushed finish (text_view_of t))) + 1 ≡ length (text_of (begin_row finish b (text_view_of t)))
    both_long = sym (text-length (flushed finish (text_view_of t)) ([] ∷ [])) ∙ ap (λ (ls : List (List ℕ)). length (text_of ls)) one-there

    pub length_more : (n : ℕ) → n ≡ length (text_of (flushed finish (text_view_of t))) → n + 1 ≡ length (text_of (begin_row finish b (text_view_of t)))
    length_more n f = omega (arith, f, both_long)

    -- the separator stands behind the queued line, which alone has a measure
    begin-measure : line_measure (begin_row finish b (text_view_of t)) ≡ line_measure (flushed finish (text_view_of t))
    begin-measure = ap line_measure (sym one-there) ∙ measure-append (flushed finish (text_view_of t)) ([] ∷ []) ∙ omega (arith, no-measure)

    pub begin-done : (d o p : List ℕ) (r w : Put) (k : ℕ) → length (text_of (begin_row finish b (text_view_of t))) ≤ length d → length o ≡ length d
        → Puts (flushed finish (text_view_of t)) d o r → Writes (ended []) (take (length o - r.length) (drop r.length o)) p k
        → w.length ≡ r.length + k → w.measure ≡ r.measure
        → Puts (begin_row finish b (text_view_of t)) d (take r.length o ++ (p ++ drop (length o - r.length) (drop r.length o))) w
    begin-done d o p r w k h same x y f g =
        let ls : List (List ℕ) = flushed finish (text_view_of t) in
        let part : List ℕ = take (length o - r.length) (drop r.length o) in
        let hx : length (text_of ls) ≤ length d = omega (arith, both_long) in
        let n : r.length ≡ length (text_of ls) = put_count ls d o r x hx in
        let hy : length (ended []) ≤ length part = omega (arith, part_room o r.length, n, both_long, same, h) in
        let c : k ≡ 1 = wrote_count (ended []) part p k y hy in
        let q : take r.length o ++ (p ++ drop (length o - r.length) (drop r.length o)) ≡ over (text_of ls ++ ended []) d
        = part-written (text_of ls) (ended []) d (put-bytes ls d o r x hx) n (wrote (ended []) part p k y hy) in
        puts-all (begin_row finish b (text_view_of t)) d _ w h (omega (arith, f, n, c, both_long))
        (q ∙ ap (λ (l : List ℕ). over l d) (sym (joins-append ended ls ([] ∷ [])) ∙ ap text_of one-there))
        (g ∙ put-measure ls d o r x hx ∙ sym begin-measure)

  pub begin-none : (d : List ℕ) (r : Put) (n : ℕ) → n ≡ length (text_of (begin_row finish b (text_view_of t))) → length d < n → r.length ≡ 0 → r.measure ≡ 0
      → Puts (begin_row finish b (text_view_of t)) d d r
  begin-none d r n e h f g = puts_none (begin_row finish b (text_view_of t)) d d r (omega (arith, e)) f g refl

  -- both have at most 514 bytes
  pub begin-short : length t.queued_pad_line ≡ queue_limit → length (text_of (begin_row finish b (text_view_of t))) ≤ 514
  begin-short long = go (b && eqb (lines_above (text_view_of t)) 1) refl
    where
      go : (w : Bool) → (b && eqb (lines_above (text_view_of t)) 1) ≡ w → length (text_of (begin_row finish b (text_view_of t))) ≤ 514
      go false e = omega (arith, length_none e _ refl, queue-short t long)
      go true e = omega (arith, both_long e, queue-short t long)
