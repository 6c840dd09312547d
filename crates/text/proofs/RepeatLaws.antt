-- Laws of lines that are repeated, each with the next line of a message.
use mathlib.Core.Path.{◌≡◌, refl, sym, ap, ap₂, ◌∙◌}
use mathlib.Core.Bool.{Bool, true, false, cond}
use mathlib.Core.List.{List, [], ◌∷◌, ◌++◌, map, append_assoc, append-nil}
use Prim.Native.Nat.{ℕ, zero, suc, ◌+◌, ◌*◌, ◌-◌, ◌<◌, ◌≤◌, min, max, zero-le}
use native.Mathlib.Nat.{not-suc-le-zero, suc-mul}
use native.Mathlib.Numerals.{add-one}
use native.Mathlib.Omega.{arith}
use lib.Dec.{lit≤}
use lib.ListN.{length, take, drop, get_or, replicate, length-replicate, replicate-append-replicate, length-append, length-take, length-drop, length-map, take-append-drop}
use lib.Seq.{take-suc, take-length, take-append-le, take-append_seam, drop-append-add, drop-drop}
use Rattle.slices.specs.Characters.{newline, blank}
use Rattle.slices.specs.Joins.{over}
use Rattle.slices.proofs.JoinLaws.{joins-append, joins-short}
use Rattle.slices.proofs.OverLaws.{part-written, part_length}
use Rattle.render.specs.declared.types.LinkLinePlacement.{LinkLinePlacement}
use Rattle.render.specs.declared.types.LinkLinePlacement.TheVariants.{Top, Bottom}
use Rattle.glyphs.specs.declared.Renderer.{Renderer}
use Rattle.glyphs.specs.declared.types.Line.{Line}
use Rattle.glyphs.specs.declared.types.Line.TheVariants.{PreNode, Node, PostNode, Link, SecondLink, Term, SecondTerm, Ancestry, PostAncestry}
use Rattle.glyphs.specs.declared.types.Row.{Row}
use Rattle.glyphs.specs.Cells.{is_present}
use Rattle.glyphs.specs.Tables.{glyph_at, cells_text}
use Rattle.glyphs.proofs.TableLaws.{glyph-short}
use Rattle.message.specs.Message.{lines_of, line_length, trim_end, keep_last}
use Rattle.message.specs.Inner.{first_line, other_lines}
use Rattle.message.proofs.MessageLaws.{lines_next, line-within, drop-capped, behind, trim-length, trim-front, trim-behind, trim-take, trim-blanks, trim-again}
use Rattle.output.specs.declared.Put.{Put}
use Rattle.output.specs.Output.{ended, text_of, greatest}
use Rattle.text.specs.declared.lines.Lengths.{Lengths}
use Rattle.text.specs.declared.prefix_lines_to_text.Counted.{Counted}
use Rattle.text.specs.declared.prefix_lines_to_text.Plan.{Plan}
use Rattle.text.specs.declared.prefix_lines_to_text.RowPut.{RowPut}
use Rattle.text.specs.Text.{times, with_messages}
use Rattle.text.proofs.TextLineLaws.{line-short}
use Rattle.text.specs.Inner.{line_with, measures_with, Measured, prefix_again, drawn, left_over, spread, line_times, WritesLine, WritesLineAt, RowPuts, Counts}

-- ---- one line

-- what a table's cells have at most
pub cells-short : (table numbers : List ℕ) → length (cells_text table numbers) ≤ 8 * length numbers
cells-short table numbers = joins-short (glyph_at table) 8 (glyph-short table) numbers

-- it begins with the finished prefix
line-front : (xs part : List ℕ) → take (length (trim_end xs)) (line_with xs part) ≡ trim_end xs
line-front xs part = go (trim_end part) refl
  where
    go : (t : List ℕ) → trim_end part ≡ t → take (length (trim_end xs)) (line_with xs part) ≡ trim_end xs
    go [] e = rw (trim-front xs (blank ∷ part) (rw e refl)) (take-length (trim_end xs))
    go (y ∷ t) e =
        let k : trim_end (blank ∷ part) ≡ blank ∷ y ∷ t = rw e refl in
        let h : length (trim_end xs) ≤ length xs = trim-length xs in
        rw (trim-behind xs (blank ∷ part) (rw k (omega arith)), take-append-le (length (trim_end xs)) xs (trim_end (blank ∷ part)) h) (trim-take xs)

line-long : (xs part : List ℕ) → length (trim_end xs) ≤ length (line_with xs part)
line-long xs part = omega (arith, ap length (line-front xs part), length-take (length (trim_end xs)) (line_with xs part))

-- lengths that some prefix line has
pub some_prefix : (r : Lengths) → r.finished ≤ r.all → Measured (replicate r.finished 0 ++ replicate (r.all - r.finished) blank) r
some_prefix r h =
    record {
      all = rw (length-append, length-replicate, length-replicate) (omega arith);
      finished = sym (ap length (trim-front (replicate r.finished 0) (replicate (r.all - r.finished) blank) (all-blank (r.all - r.finished)) ∙ no-blank r.finished) ∙ length-replicate r.finished 0);
    }
  where
    all-blank : (n : ℕ) → trim_end (replicate n blank) ≡ []
    all-blank zero = refl
    all-blank (suc n) = rw (all-blank n) refl

    no-blank : (n : ℕ) → trim_end (replicate n 0) ≡ replicate n 0
    no-blank zero = refl
    no-blank (suc n) = rw (no-blank n) (by_count n)
      where
        by_count : (n : ℕ) → keep_last 0 (replicate n 0) ≡ replicate (suc n) 0
        by_count zero = refl
        by_count (suc n) = refl

-- ---- lines behind lines

left-append : (xs ys : List (List ℕ)) (m : List ℕ) → left_over (xs ++ ys) m ≡ left_over ys (left_over xs m)
left-append [] ys m = refl
left-append (x ∷ xs) ys m = left-append xs ys (other_lines m)

drawn-append : (xs ys : List (List ℕ)) (m : List ℕ) → drawn (xs ++ ys) m ≡ drawn xs m ++ drawn ys (left_over xs m)
drawn-append [] ys m = refl
drawn-append (x ∷ xs) ys m = ap (λ (l : List (List ℕ)). line_with x (first_line m) ∷ l) (drawn-append xs ys (other_lines m))

measures-append : (whole : ℕ) (xs ys : List (List ℕ)) (m : List ℕ)
    → greatest (measures_with whole (xs ++ ys) m) ≡ max (greatest (measures_with whole xs m)) (greatest (measures_with whole ys (left_over xs m)))
measures-append whole [] ys m = omega arith
measures-append whole (x ∷ xs) ys m = omega (arith, measures-append whole xs ys (other_lines m))

text-append : (xs ys : List (List ℕ)) (m : List ℕ) → text_of (drawn (xs ++ ys) m) ≡ text_of (drawn xs m) ++ text_of (drawn ys (left_over xs m))
text-append xs ys m = ap text_of (drawn-append xs ys m) ∙ joins-append ended (drawn xs m) (drawn ys (left_over xs m))

length_both : (xs ys : List (List ℕ)) (m : List ℕ) → length (text_of (drawn (xs ++ ys) m)) ≡ length (text_of (drawn xs m)) + length (text_of (drawn ys (left_over xs m)))
length_both xs ys m = ap length (text-append xs ys m) ∙ length-append (text_of (drawn xs m)) (text_of (drawn ys (left_over xs m)))

-- where all lines fit, so do the first of them and the next ones
fits_next : (xs ys zs : List (List ℕ)) (m : List ℕ) (n : ℕ) → length (text_of (drawn ((xs ++ ys) ++ zs) m)) ≤ n
    → length (text_of (drawn xs m)) + length (text_of (drawn ys (left_over xs m))) ≤ n
fits_next xs ys zs m n h = omega (arith, length_both (xs ++ ys) zs m, length_both xs ys m)

-- each line with the next one of the message's lines, an empty one where there are no more
pub drawn-messages : {A : Type 0} (g : A → List ℕ) (ls : List A) (m : List ℕ)
    → map (λ (x : A × List ℕ). line_with (g x.0) x.1) (with_messages ls (lines_of m)) ≡ drawn (map g ls) m
drawn-messages g [] m = refl
drawn-messages g (l ∷ ls) [] = ap (λ (x : List (List ℕ)). line_with (g l) [] ∷ x) (drawn-messages g ls [])
drawn-messages g (l ∷ ls) (b ∷ bs) =
    let m : List ℕ = b ∷ bs in
    rw (lines_next m (omega arith)) (ap (λ (x : List (List ℕ)). line_with (g l) (first_line m) ∷ x) (drawn-messages g ls (other_lines m)))

-- ---- prefix lines of at most so many bytes
abbrev pub Short : ℕ → List (List ℕ) → Type 0
Short n [] = Unit {0}
Short n (p ∷ ps) = (length p ≤ n) × Short n ps

short-append : (n : ℕ) (ps qs : List (List ℕ)) → Short n ps → Short n qs → Short n (ps ++ qs)
short-append n [] qs s t = t
short-append n (p ∷ ps) qs s t = (s.0, short-append n ps qs s.1 t)

short-times : (n : ℕ) (p : List ℕ) → length p ≤ n → (k : ℕ) → Short n (replicate k p)
short-times n p h zero = tt
short-times n p h (suc k) = (h, short-times n p h k)

pub short-map : {A : Type 0} (n : ℕ) (f : A → List ℕ) → ((x : A) → length (f x) ≤ n) → (xs : List A) → Short n (map f xs)
short-map n f s [] = tt
short-map n f s (x ∷ xs) = (s x, short-map n f s xs)

-- of each line a blank and the end too, and the message once
pub drawn-short : (n : ℕ) (ps : List (List ℕ)) → Short n ps → (m : List ℕ) → length (text_of (drawn ps m)) ≤ length ps * (n + 2) + length m
drawn-short n [] s m = zero-le
drawn-short n (p ∷ ps) s m =
    let e : length m ≡ length (take (suc (line_length m)) m) + length (other_lines m) = sym (rw length-append at (ap length (take-append-drop (suc (line_length m)) m))) in
    let f : length (first_line m) ≤ length (take (suc (line_length m)) m) = omega (arith, length-take (line_length m) m, length-take (suc (line_length m)) m) in
    let k : suc (length ps) * (n + 2) ≡ n + 2 + length ps * (n + 2) = omega (arith, suc-mul (length ps) (n + 2)) in
    rw (length-append (ended (line_with p (first_line m))) (text_of (drawn ps (other_lines m))), length-append (line_with p (first_line m)) (newline ∷ []), k)
    (omega (arith, line-short p (first_line m), s.0, drawn-short n ps s.1 (other_lines m)))

-- ---- lines counted
module _ (message : List ℕ) where
  pub count_none : (start : ℕ) → start ≤ length message → Counts [] message start (record { length = 0; next = start })
  count_none start h = record { count = refl; next = refl; within = h }

  -- one line, and lines behind lines
  count-one : (l : List ℕ) (start n e : ℕ) (w : Counted) → e ≡ start + line_length (drop start message)
      → n ≡ length (ended (line_with l (take (e - start) (drop start message)))) → w.length ≡ n → w.next ≡ min (suc e) (length message)
      → Counts (l ∷ []) message start w
  count-one l start n e w q f a c =
      let z : e - start ≡ line_length (drop start message) = omega arith in
      record {
        count = a ∙ rw z at f ∙ ap length (sym (append-nil (ended (line_with l (first_line (drop start message))))));
        next = rw c (drop-capped message (suc e) ∙ ap (λ (k : ℕ). drop (suc k) message) q ∙ sym (behind message start));
        within = omega (arith, c);
      }

  count-append : (xs ys : List (List ℕ)) (start : ℕ) (r s w : Counted) → Counts xs message start r → Counts ys message r.next s
      → w.length ≡ r.length + s.length → w.next ≡ s.next → Counts (xs ++ ys) message start w
  count-append xs ys start r s w a b e n =
      record {
        count = e ∙ ap₂ ◌+◌ a.count (rw a.next at b.count) ∙ sym (length_both xs ys (drop start message));
        next = rw (n, left-append xs ys (drop start message), ← a.next) b.next;
        within = rw n b.within;
      }

  -- the next message line, from where the last one ended
  pub part-within : (next e : ℕ) → next ≤ length message → e ≡ next + line_length (drop next message) → (next ≤ e) × (e ≤ length message)
  part-within next e h q = (omega arith, omega (arith, line-within (drop next message), length-drop next message))

  pub part-short : (next e : ℕ) → length (take (e - next) (drop next message)) ≤ length message
  part-short next e = omega (arith, length-take (e - next) (drop next message), length-drop next message)

-- a loop that counts the lines with a prefix line again and again
module _ (lengths : Lengths) (message : List ℕ) (start : ℕ) where
  -- for each prefix line of these lengths
  pub record Counting (i : ℕ) (r : Counted) : Type 0 where
    pub counts : (prefix : List ℕ) → Measured prefix lengths → Counts (replicate i prefix) message start r
    pub within : r.next ≤ length message

  pub counting-none : start ≤ length message → Counting 0 (record { length = 0; next = start })
  counting-none h = record { counts = λ prefix e. count_none message start h; within = h }

  module _ (i : ℕ) (r : Counted) (g : Counting i r) where
    pub counting-next : (n e : ℕ) (w : Counted) → e ≡ r.next + line_length (drop r.next message)
        → ((prefix : List ℕ) → Measured prefix lengths → n ≡ length (ended (line_with prefix (take (e - r.next) (drop r.next message)))))
        → w.length ≡ r.length + n → w.next ≡ min (suc e) (length message) → Counting (i + 1) w
    counting-next n e w q f a c =
        record {
          counts = λ prefix m.
              rw (← replicate-append-replicate i 1 prefix)
              (count-append message (replicate i prefix) (prefix ∷ []) start r (record { length = n; next = w.next }) w (g.counts prefix m)
              (count-one message prefix r.next n e _ q (f prefix m) refl c) a refl);
          within = omega (arith, c);
        }

    -- how long they can be
    pub counting-short : lengths.finished ≤ lengths.all → lengths.all ≤ 512 → r.length ≤ i * 514 + length message
    counting-short h k =
        let p : List ℕ = replicate lengths.finished 0 ++ replicate (lengths.all - lengths.finished) blank in
        let m : Measured p lengths = some_prefix lengths h in
        let s : length p ≤ 512 = omega (arith, m.all) in
        omega (arith, (g.counts p m).count, drawn-short 512 (replicate i p) (short-times 512 p s i) (drop start message), length-drop start message, length-replicate i p)

-- the line itself
pub line-counted : (lengths : Lengths) (part : List ℕ) (n : ℕ) → lengths.finished ≤ lengths.all → lengths.all ≤ 512 → length part ≤ 512
    → ((prefix : List ℕ) → Measured prefix lengths → n ≡ length (ended (line_with prefix part))) → n ≤ 1026
line-counted lengths part n h k q f =
    let p : List ℕ = replicate lengths.finished 0 ++ replicate (lengths.all - lengths.finished) blank in
    let m : Measured p lengths = some_prefix lengths h in
    omega (arith, f p m, m.all, line-short p part, length-append (line_with p part) (newline ∷ []))

-- ---- lines written

-- bytes written from `at` on, behind those that were written before
behind-written : (xs bs d : List ℕ) {o p : List ℕ} {at : ℕ} → o ≡ over xs d → at ≡ length xs → p ≡ take at o ++ (bs ++ drop (at + length bs) o) → p ≡ over (xs ++ bs) d
behind-written xs bs d {o} {p} {at} e f g =
    let a : take at o ≡ xs = rw (e, f) (take-append_seam xs (drop (length xs) d)) in
    let z : length xs + length bs ≡ length (xs ++ bs) = sym (length-append xs bs) in
    let b : drop (at + length bs) o ≡ drop (length (xs ++ bs)) d
    = rw (e, f) (drop-append-add xs (drop (length xs) d) (length bs) ∙ drop-drop (length bs) (length xs) d ∙ ap (λ (k : ℕ). drop k d) z) in
    g ∙ ap₂ (λ (u w : List ℕ). u ++ (bs ++ w)) a b ∙ sym (append_assoc xs bs (drop (length (xs ++ bs)) d))

module _ (whole : ℕ) (message : List ℕ) where
  -- what was counted is what was written
  counted : (ps : List (List ℕ)) (start : ℕ) (d o : List ℕ) (r : RowPut) → RowPuts whole ps message start d o r → Counts ps message start (record { length = r.length; next = r.next })
  counted ps start d o r g = record { count = g.count; next = g.next; within = g.within }

  pub row-none : (start : ℕ) (d : List ℕ) → start ≤ length message → RowPuts whole [] message start d d (record { length = 0; measure = 0; next = start })
  row-none start d h = record { count = refl; output = refl; measure = refl; next = refl; within = h }

  -- one line
  row_one : (l : List ℕ) (start e : ℕ) (d o : List ℕ) (s : Put) (w : RowPut) → e ≡ start + line_length (drop start message)
      → WritesLine l (take (e - start) (drop start message)) whole d o s → w.length ≡ s.length → w.measure ≡ s.measure → w.next ≡ min (suc e) (length message)
      → RowPuts whole (l ∷ []) message start d o w
  row_one l start e d o s w q g a b c =
      let z : e - start ≡ line_length (drop start message) = omega arith in
      let n = count-one message l start s.length e (record { length = w.length; next = w.next }) q g.count a c in
      let line : List ℕ = line_with l (first_line (drop start message)) in
      record {
        count = n.count;
        output = rw z at g.output ∙ ap (λ (x : List ℕ). over x d) (sym (append-nil (ended line)));
        measure = b ∙ rw z at g.measure ∙ omega arith;
        next = n.next;
        within = n.within;
      }

  -- lines behind lines: p is the whole output, with the bytes of the others behind those of the first
  row-append : (xs ys : List (List ℕ)) (start : ℕ) (d o p : List ℕ) (r w : RowPut) (s : Counted) → RowPuts whole xs message start d o r → Counts ys message r.next s
      → p ≡ over (text_of (drawn xs (drop start message)) ++ text_of (drawn ys (drop r.next message))) d
      → w.length ≡ r.length + s.length → w.measure ≡ max r.measure (greatest (measures_with whole ys (drop r.next message))) → w.next ≡ s.next
      → RowPuts whole (xs ++ ys) message start d p w
  row-append xs ys start d o p r w s a b q e m n =
      let m₀ : List ℕ = drop start message in
      let c = count-append message xs ys start (record { length = r.length; next = r.next }) s (record { length = w.length; next = w.next }) (counted xs start d o r a) b e n in
      record {
        count = c.count;
        output = rw a.next at q ∙ ap (λ (x : List ℕ). over x d) (sym (text-append xs ys m₀));
        measure = m ∙ ap₂ max a.measure (ap (λ (x : List ℕ). greatest (measures_with whole ys x)) a.next) ∙ sym (measures-append whole xs ys m₀);
        next = c.next;
        within = c.within;
      }

  -- the part of the output behind them was lent to a writer of the others, and came back as p
  row-part : (xs ys : List (List ℕ)) (start : ℕ) (d o p : List ℕ) (r s w : RowPut) → RowPuts whole xs message start d o r
      → RowPuts whole ys message r.next (take (length o - r.length) (drop r.length o)) p s
      → w.length ≡ r.length + s.length → w.measure ≡ max r.measure s.measure → w.next ≡ s.next
      → RowPuts whole (xs ++ ys) message start d (take r.length o ++ (p ++ drop (length o - r.length) (drop r.length o))) w
  row-part xs ys start d o p r s w a b e m n =
      row-append xs ys start d o _ r w (record { length = s.length; next = s.next }) a (counted ys r.next _ p s b)
      (part-written (text_of (drawn xs (drop start message))) (text_of (drawn ys (drop r.next message))) d a.output a.count b.output)
      e (m ∙ ap (max r.measure) b.measure) n

-- ---- a loop that writes a line again and again
module _ (whole : ℕ) (message : List ℕ) (start : ℕ) (b : List ℕ) where
  -- what was written so far
  pub record Writing (ps : List (List ℕ)) (o : List ℕ) (r : RowPut) : Type 0 where
    pub same : length o ≡ length b
    pub rows : RowPuts whole ps message start b o r

  -- a line that is written so often: the first one fits
  pub first_fits : (l : List ℕ) (times e : ℕ) → length (text_of (drawn (replicate times l) (drop start message))) ≤ length b → 0 < times
      → e ≡ start + line_length (drop start message) → length (ended (line_with l (take (e - start) (drop start message)))) ≤ length b
  first_fits l zero e fits n q = absurd (not-suc-le-zero n)
  first_fits l (suc k) e fits n q =
      let z : e - start ≡ line_length (drop start message) = omega arith in
      rw z (omega (arith, fits, length-append (ended (line_with l (first_line (drop start message)))) (text_of (drawn (replicate k l) (other_lines (drop start message))))))

  pub first-written : (l : List ℕ) (e : ℕ) (o : List ℕ) (s : Put) (w : RowPut) → e ≡ start + line_length (drop start message)
      → WritesLine l (take (e - start) (drop start message)) whole b o s → length o ≡ length b → w.length ≡ s.length → w.measure ≡ s.measure → w.next ≡ min (suc e) (length message)
      → Writing (replicate 1 l) o w
  first-written l e o s w q g same a m n = record { same = same; rows = row_one whole message l start e b o s w q g a m n }

  -- the next one, if so many lines are left
  module _ (l : List ℕ) (lengths : Lengths) (m : Measured l lengths) (i : ℕ) (o : List ℕ) (r : RowPut) (g : Writing (replicate i l) o r) where
    line-fits : (times : ℕ) → length (text_of (drawn (replicate times l) (drop start message))) ≤ length b → i < times
        → r.length + length (ended (line_with l (first_line (drop r.next message)))) ≤ length b
    line-fits times fits h =
        let x : List ℕ = left_over (replicate i l) (drop start message) in
        let z : i + 1 + (times - (i + 1)) ≡ times = omega arith in
        let e : replicate times l ≡ (replicate i l ++ (l ∷ [])) ++ replicate (times - (i + 1)) l
        = sym (ap (λ (x : List (List ℕ)). x ++ replicate (times - (i + 1)) l) (replicate-append-replicate i 1 l)
        ∙ replicate-append-replicate (i + 1) (times - (i + 1)) l
        ∙ ap (λ (k : ℕ). replicate k l) z) in
        let k = fits_next (replicate i l) (l ∷ []) (replicate (times - (i + 1)) l) (drop start message) (length b) (rw e at fits) in
        rw g.rows.next (omega (arith, g.rows.count, k, ap length (append-nil (ended (line_with l (first_line x))))))

    -- the output begins with the finished prefix
    front-there : 0 < i → take lengths.finished o ≡ trim_end l
    front-there h = rw (m.finished, g.rows.output) (go i h)
      where
        go : (i : ℕ) → 0 < i → take (length (trim_end l)) (over (text_of (drawn (replicate i l) (drop start message))) b) ≡ trim_end l
        go zero h = absurd (not-suc-le-zero h)
        go (suc j) h =
            let part : List ℕ = first_line (drop start message) in
            let line : List ℕ = line_with l part in
            let rest : List ℕ = text_of (drawn (replicate j l) (other_lines (drop start message))) in
            let k : length (trim_end l) ≤ length line = line-long l part in
            let k₂ : length (trim_end l) ≤ length (ended line) = omega (arith, length-append line (newline ∷ [])) in
            let k₃ : length (trim_end l) ≤ length (ended line ++ rest) = omega (arith, length-append (ended line) rest) in
            take-append-le (length (trim_end l)) (ended line ++ rest) (drop (length (ended line ++ rest)) b) k₃
            ∙ take-append-le (length (trim_end l)) (ended line) rest k₂
            ∙ take-append-le (length (trim_end l)) line (newline ∷ []) k
            ∙ line-front l part

    prefix-again : 0 < i → prefix_again lengths o ≡ l
    prefix-again h =
        ap₂ (λ (x : List ℕ) (k : ℕ). x ++ replicate k blank) (front-there h) (ap₂ ◌-◌ m.all m.finished) ∙ sym (trim-blanks l)

    -- what the writer of one more line is asked
    pub again-asked : (times : ℕ) → length (text_of (drawn (replicate times l) (drop start message))) ≤ length b → 0 < i → i < times
        → (e : ℕ) → e ≡ r.next + line_length (drop r.next message)
        → ((lengths.finished ≤ lengths.all) × (lengths.finished ≤ r.length) × (trim_end (take lengths.finished o) ≡ take lengths.finished o))
        × (r.length + length (ended (line_with (prefix_again lengths o) (take (e - r.next) (drop r.next message)))) ≤ length o)
    again-asked times fits h k e q =
        let z : e - r.next ≡ line_length (drop r.next message) = omega arith in
        ((omega (arith, m.all, m.finished, trim-length l), first-long i h g.rows.count, rw (front-there h) (trim-again l)), rw (prefix-again h, z, g.same) (line-fits times fits k))
      where
        first-long : (i : ℕ) → 0 < i → r.length ≡ length (text_of (drawn (replicate i l) (drop start message))) → lengths.finished ≤ r.length
        first-long zero h e = absurd (not-suc-le-zero h)
        first-long (suc j) h e =
            let part : List ℕ = first_line (drop start message) in
            omega (arith, e, m.finished, line-long l part, length-append (line_with l part) (newline ∷ []), length-append (ended (line_with l part)) (text_of (drawn (replicate j l) (other_lines (drop start message)))))

    -- the line once more
    pub again-written : 0 < i → (e : ℕ) (p : List ℕ) (s : Put) (w : RowPut) → e ≡ r.next + line_length (drop r.next message) → length p ≡ length o
        → WritesLineAt (prefix_again lengths o) (take (e - r.next) (drop r.next message)) whole r.length o p s
        → w.length ≡ r.length + s.length → w.measure ≡ max r.measure s.measure → w.next ≡ min (suc e) (length message)
        → Writing (replicate (i + 1) l) p w
    again-written h e p s w q same u a c n =
        let z : e - r.next ≡ line_length (drop r.next message) = omega arith in
        let line : List ℕ = line_with l (first_line (drop r.next message)) in
        let v : WritesLineAt l (first_line (drop r.next message)) whole r.length o p s = rw (prefix-again h, z) at u in
        let k : s.length ≡ length (ended (line_with l (take (e - r.next) (drop r.next message)))) = rw z v.count in
        record {
          same = same ∙ g.same;
          rows = rw (← replicate-append-replicate i 1 l)
              (row-append whole message (replicate i l) (l ∷ []) start b o p r w (record { length = s.length; next = w.next }) g.rows
              (count-one message l r.next s.length e _ q k refl n)
              (rw (append-nil (ended line)) (behind-written (text_of (drawn (replicate i l) (drop start message))) (ended line) b g.rows.output g.rows.count v.output))
              a (c ∙ ap (max r.measure) (v.measure ∙ omega arith)) refl);
        }

pub some : (n : ℕ) → (n ≡ 0 → ⊥) → 0 < n
some zero h = absurd (h refl)
some (suc n) h = omega arith

-- ---- each line so many times
pub map-append : {A B : Type 0} (h : A → B) (xs ys : List A) → map h (xs ++ ys) ≡ map h xs ++ map h ys
map-append h [] ys = refl
map-append h (x ∷ xs) ys = ap (λ (l : List _). h x ∷ l) (map-append h xs ys)

pub map-times : {A B : Type 0} (h : A → B) (n : ℕ) (x : A) → map h (replicate n x) ≡ replicate n (h x)
map-times h zero x = refl
map-times h (suc n) x = ap (λ (l : List _). h x ∷ l) (map-times h n x)

module _ (t : Line → ℕ) where
  spread-append : (xs ys : List Line) → spread t (xs ++ ys) ≡ spread t xs ++ spread t ys
  spread-append [] ys = refl
  spread-append (x ∷ xs) ys = ap (λ (l : List Line). replicate (t x) x ++ l) (spread-append xs ys) ∙ sym (append_assoc (replicate (t x) x) (spread t xs) (spread t ys))

  spread-next : (xs : List Line) (k : ℕ) (d : Line) → k < length xs → spread t (take (k + 1) xs) ≡ spread t (take k xs) ++ replicate (t (get_or xs k d)) (get_or xs k d)
  spread-next xs k d h = rw (add-one, take-suc xs k d h, spread-append, append-nil) refl

  pub spread-length : (x : Line) (xs : List Line) → length (spread t (x ∷ xs)) ≡ t x + length (spread t xs)
  spread-length x xs = rw (length-append (replicate (t x) x) (spread t xs), length-replicate (t x) x) refl

  spread-short : (n : ℕ) → ((l : Line) → t l ≤ n) → (xs : List Line) → length (spread t xs) ≤ n * length xs
  spread-short n s [] = zero-le
  spread-short n s (x ∷ xs) = rw (spread-length x xs) (omega (arith, s x, spread-short n s xs))

-- ---- a loop over the lines of a row: f is a line's prefix, t how often it is written
module _ (f : Line → List ℕ) (t : Line → ℕ) (xs : List Line) (i : ℕ) where
  -- the lines so far
  abbrev pub first_lines : List (List ℕ)
  first_lines = map f (spread t (take i xs))

  -- the next one is not written
  pub none_more : (d : Line) → i < length xs → (x : Line) (n : ℕ) → x ≡ get_or xs i d → n ≡ t x → n ≡ 0 → map f (spread t (take (i + 1) xs)) ≡ first_lines
  none_more d h x n e q z = rw (spread-next t xs i d h, ← e, ← q, z, append-nil) refl

  -- the next one is written so often; l is what was drawn of it
  module _ (d : Line) (h : i < length xs) (x : Line) (n : ℕ) (e : x ≡ get_or xs i d) (q : n ≡ t x) (l : List ℕ) (drew : l ≡ f x) where
    lines_more : map f (spread t (take (i + 1) xs)) ≡ first_lines ++ replicate n l
    lines_more =
        rw (spread-next t xs i d h, ← e, ← q, map-append f (spread t (take i xs)) (replicate n x), map-times f n x, drew) refl

    lines-apart : map f (spread t xs) ≡ (first_lines ++ replicate n l) ++ map f (spread t (drop (i + 1) xs))
    lines-apart =
        ap (λ (ys : List Line). map f (spread t ys)) (sym (take-append-drop (i + 1) xs))
        ∙ ap (map f) (spread-append t (take (i + 1) xs) (drop (i + 1) xs))
        ∙ map-append f (spread t (take (i + 1) xs)) (spread t (drop (i + 1) xs))
        ∙ ap (λ (ps : List (List ℕ)). ps ++ map f (spread t (drop (i + 1) xs))) lines_more

    -- written: they fit behind the first ones, and then they stand there too
    module _ (message b o : List ℕ) (r : RowPut) (whole : ℕ) (g : Writing whole message 0 b first_lines o r) (fits : length (text_of (drawn (map f (spread t xs)) message)) ≤ length b) where
      pub next_fits : (r.length + length (text_of (drawn (replicate n l) (drop r.next message))) ≤ length o)
          × (length (text_of (drawn (replicate n l) (drop r.next message))) ≤ length (take (length o - r.length) (drop r.length o)))
      next_fits =
          let k = fits_next first_lines (replicate n l) (map f (spread t (drop (i + 1) xs))) message (length b) (rw lines-apart at fits) in
          rw g.rows.next (
            omega (arith, k, g.same, g.rows.count),
            omega (arith, k, g.same, g.rows.count, length-take (length o - r.length) (drop r.length o), length-drop r.length o),
          )

      pub next-written : (p : List ℕ) (s w : RowPut) → RowPuts whole (replicate n l) message r.next (take (length o - r.length) (drop r.length o)) p s
          → length p ≡ length (take (length o - r.length) (drop r.length o))
          → w.length ≡ r.length + s.length → w.measure ≡ max r.measure s.measure → w.next ≡ s.next
          → Writing whole message 0 b (map f (spread t (take (i + 1) xs))) (take r.length o ++ (p ++ drop (length o - r.length) (drop r.length o))) w
      next-written p s w u same a m z =
          record {
            same = part_length o p r.length same (omega (arith, next_fits.0)) ∙ g.same;
            rows = rw lines_more (row-part whole message first_lines (replicate n l) 0 b o p r s w g.rows u a m z);
          }

-- counted: none of the prefix lines has more than 512 bytes
pub record CountingRow (message : List ℕ) (ps : List (List ℕ)) (r : Counted) : Type 0 where
  pub few : length message ≤ 512
  pub short : Short 512 ps
  pub counts : Counts ps message 0 r

pub row-started : (message : List ℕ) → length message ≤ 512 → CountingRow message [] (record { length = 0; next = 0 })
row-started message h = record { few = h; short = tt; counts = count_none message 0 zero-le }

module _ (f : Line → List ℕ) (t : Line → ℕ) (xs : List Line) (i : ℕ) (message : List ℕ) (r : Counted) (g : CountingRow message (map f (spread t (take i xs))) r) where
  pub row-counted : (d : Line) → i < length xs → (x : Line) (n : ℕ) → x ≡ get_or xs i d → n ≡ t x → (l : List ℕ) → length l ≤ 512 → l ≡ f x
      → (s w : Counted) → Counts (replicate n l) message r.next s → w.length ≡ r.length + s.length → w.next ≡ s.next
      → CountingRow message (map f (spread t (take (i + 1) xs))) w
  row-counted d h x n e q l k drew s w u a z =
      let ps : List (List ℕ) = map f (spread t (take i xs)) in
      rw (lines_more f t xs i d h x n e q l drew)
      (record {
        few = g.few;
        short = short-append 512 ps (replicate n l) g.short (short-times 512 l k n);
        counts = count-append message ps (replicate n l) 0 r s w g.counts u a z;
      })

  -- how long they can be
  pub row-short : ((l : Line) → t l ≤ 512) → i ≤ 9 → r.length ≤ 514 * (512 * 9) + 512
  row-short h k =
      omega (
        arith,
        g.few,
        g.counts.count,
        drawn-short 512 (map f (spread t (take i xs))) g.short message,
        length-map (spread t (take i xs)) f,
        spread-short t 512 h (take i xs),
        length-take i xs,
      )

pub repeated-short : (message l : List ℕ) (n start : ℕ) (s : Counted) → length message ≤ 512 → length l ≤ 512 → n ≤ 512 → Counts (replicate n l) message start s → s.length ≤ 514 * 512 + 512
repeated-short message l n start s h k m g =
    omega (arith, g.count, drawn-short 512 (replicate n l) (short-times 512 l k n) (drop start message), length-drop start message, length-replicate n l)

-- ---- how often a line is written
times-short : (p : LinkLinePlacement) (n : ℕ) → n ≤ 512 → (l : Line) → times p n l ≤ 512
times-short p n h PreNode = lit≤ tt
times-short p n h Node = lit≤ tt
times-short Top n h PostNode = lit≤ tt
times-short Bottom n h PostNode = h
times-short p n h Link = lit≤ tt
times-short p n h SecondLink = lit≤ tt
times-short p n h Term = lit≤ tt
times-short p n h SecondTerm = lit≤ tt
times-short p n h Ancestry = lit≤ tt
times-short Top n h PostAncestry = h
times-short Bottom n h PostAncestry = lit≤ tt

pub plan-short : (p : Plan) (q : Renderer) (r : Row) → p.needed ≤ 512 → (l : Line) → line_times p q r l ≤ 512
plan-short p q r h l = go (is_present q r l)
  where
    go : (b : Bool) → cond b (times p.placement p.needed l) 0 ≤ 512
    go true = times-short p.placement p.needed h l
    go false = lit≤ tt
