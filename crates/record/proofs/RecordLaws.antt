-- Laws of records: for each loop its turn and its end, and for each return of the record call what it gives.
use Prim.Native.Nat.{ℕ, zero, suc, ◌+◌, ◌-◌, ◌<◌, ◌≤◌}
use mathlib.Core.Path.{◌≡◌, refl, sym, ap, ◌∙◌}
use mathlib.Core.Bool.{Bool, true, false}
use mathlib.Core.List.{List, [], ◌∷◌, ◌++◌, map, append_assoc}
use native.Mathlib.Numerals.{add-one}
use native.Mathlib.Omega.{arith}
use lib.Dec.{eqb, lit≤}
use lib.ListN.{length, get_or, take, drop, set, replicate, length-append, length-map, length-take}
use lib.Seq.{take_at, set_at}
use Rattle.std.specs.Prelude.{◌||◌, cond, ltb, Some, None, Ok, Err, position, unwrap_or}
use Rattle.std.specs.Array.{IsFirstChunk}
use Rattle.render.specs.declared.refusals.Refusal.TheVariants.{RecordCutShort, TooManyParents, KindAboveLimit}
use Rattle.record.specs.declared.Record.{Record}
use Rattle.std.specs.List.{list_any, position_or_len, range_with_len}
use Rattle.std.proofs.Common.{take_all}
use Rattle.std.proofs.lemmas.List.{get_or-take, drop-take}
use Rattle.std.proofs.lemmas.List.Recursion.{is_position_or_len}
use borrow.Author.Tests.{lt-ltb, le-ltb, lt-leb}
use Rattle.render.specs.declared.render.Ancestor.{Ancestor}
use Rattle.render.specs.declared.render.Ancestor.TheVariants.{Anonymous}
use Rattle.render.specs.declared.render.Entry.{Entry}
use Rattle.render.specs.declared.render.Entries.{Entries}
use Rattle.render.specs.Entries.{entry_limit, listed, is_too_many, pushed}
use Rattle.render.specs.Refusals.{record_cut_short, too_many_parents, kind_above_limit, refusal}
use Rattle.record.specs.Record.{record_length, parent_count, id_at, kind_limit, message_room, RawEntry, written_at, written_from, used, entry_of, entry_place, any_above, up_to_zero, room_of, RecordView, record_of, no_record, Outcome, Ready, Ended, Refused, RecordReply, outcome_of, record_checks, next_record, outcome_number}
use Rattle.record.specs.Promises.{RecordAnswer, entry, entries_with, record_with, record_view_of, record_answer_from, Records}

-- ---- room that is filled from its start

-- one more is put where the room begins
pub fill : {A : Type 0} (m : List A) (z a : A) (size i : ℕ) → length m ≡ i → i < size
    → set (m ++ replicate (size - i) z) i a ≡ (m ++ (a ∷ [])) ++ replicate (size - suc i) z
fill m z a size i e h =
    let q : size - i ≡ suc (size - suc i) = omega arith in
    ap (λ k. set (m ++ replicate k z) i a) q
    ∙ set_at m z (replicate (size - suc i) z) a i e
    ∙ sym (append_assoc m (a ∷ []) (replicate (size - suc i) z))

map_last : {A B : Type 0} (f : A → B) (l : List A) (a : A) → map f (l ++ (a ∷ [])) ≡ map f l ++ (f a ∷ [])
map_last f [] a = refl
map_last f (b ∷ l) a = ap (λ r. f b ∷ r) (map_last f l a)

-- ---- the entries as they are written
module _ (s : List ℕ) where
  written_last : (k n : ℕ) → written_from s k (suc n) ≡ written_from s k n ++ (written_at s (k + n) ∷ [])
  written_last k zero = let e : k ≡ k + 0 = omega arith in ap (λ (j : ℕ). written_at s j ∷ []) e
  written_last k (suc n) =
      let e : suc k + n ≡ k + suc n = omega arith in
      ap (λ (l : List RawEntry). written_at s k ∷ l) (written_last (suc k) n ∙ ap (λ (j : ℕ). written_from s (suc k) n ++ (written_at s j ∷ [])) e)

  pub written-length : (k n : ℕ) → length (written_from s k n) ≡ n
  written-length k zero = refl
  written-length k (suc n) = ap suc (written-length (suc k) n)

  -- a search for a kind above the highest goes over the entries' places
  pub any-range : (m k n : ℕ) → any_above m (written_from s k n) ≡ list_any (λ i. ltb m (get_or s (entry_place i) 0)) (range_with_len k n)
  any-range m k zero = refl
  any-range m k (suc n) =
      ap (λ (b : Bool). ltb m (get_or s (entry_place k) 0) || b)
      (any-range m (suc k) n ∙ ap (λ (j : ℕ). list_any (λ i. ltb m (get_or s (entry_place i) 0)) (range_with_len j n)) (sym (add-one k)))

  -- ---- a whole record's bytes, the first ones of what is left

  id-first : (at : ℕ) → at + 4 ≤ record_length → id_at (take record_length s) at ≡ id_at s at
  id-first at h =
      rw (get_or-take record_length s at 0 (omega arith), get_or-take record_length s (at + 1) 0 (omega arith), get_or-take record_length s (at + 2) 0 (omega arith), get_or-take record_length s (at + 3) 0 (omega arith)) refl

  written_first-at : (k : ℕ) → k < entry_limit → written_at (take record_length s) k ≡ written_at s k
  written_first-at k h = rw (get_or-take record_length s (entry_place k) 0 (omega arith), id-first (entry_place k + 1) (omega arith)) refl

  pub written-first : (k n : ℕ) → k + n ≤ entry_limit → written_from (take record_length s) k n ≡ written_from s k n
  written-first k zero h = refl
  written-first k (suc n) h = rw (written_first-at k (omega arith), written-first (suc k) n (omega arith)) refl

  pub count-first : parent_count (take record_length s) ≡ parent_count s
  count-first = get_or-take record_length s 5 0 (lit≤ tt)

  pub record-first : parent_count s ≤ entry_limit → record_of (take record_length s) ≡ record_of s
  record-first h =
      rw (id-first 0 (lit≤ tt), get_or-take record_length s 4 0 (lit≤ tt), count-first, written-first 0 (parent_count s) (omega arith), drop-take 46 message_room s, take_all message_room (take message_room (drop 46 s)) (omega (arith, length-take message_room (drop 46 s)))) refl

-- ---- the entries of a struct

-- one entry more
pub push-with : (l : List Ancestor) (a : Ancestor) → length l < entry_limit → pushed (entries_with l) (entry a) ≡ entries_with (l ++ (a ∷ []))
push-with l a h =
    rw (lt-leb entry_limit (length l) h)
    (ap (λ (x : List Entry × ℕ). record { list = x.0; count = x.1; too_many = false }) (pairs lists counts))
  where
    counts : suc (length l) ≡ length (l ++ (a ∷ []))
    counts = rw (length-append l (a ∷ [])) (omega arith)

    lists : set (map entry l ++ replicate (entry_limit - length l) (entry Anonymous)) (length l) (entry a)
        ≡ map entry (l ++ (a ∷ [])) ++ replicate (entry_limit - length (l ++ (a ∷ []))) (entry Anonymous)
    lists =
        fill (map entry l) (entry Anonymous) (entry a) entry_limit (length l) (length-map l entry) h
        ∙ rw (map_last entry l a, ← counts) refl

    pairs : {x y : List Entry} {n m : ℕ} → x ≡ y → n ≡ m → ◌≡◌ {A = List Entry × ℕ} (x, n) (y, m)
    pairs p q = cc

pub listed-with : (l : List Ancestor) → length l ≤ entry_limit → listed (entries_with l) ≡ l
listed-with l h =
    rw (le-ltb entry_limit (length l) h)
    (ap (map (λ (e : Entry). e.ancestor)) (take_at (map entry l) (replicate (entry_limit - length l) (entry Anonymous)) (length l) (length-map l entry)) ∙ back l)
  where
    back : (l : List Ancestor) → map (λ (e : Entry). e.ancestor) (map entry l) ≡ l
    back [] = refl
    back (a ∷ l) = ap (λ (r : List Ancestor). a ∷ r) (back l)

pub few-with : (l : List Ancestor) → length l ≤ entry_limit → is_too_many (listed (entries_with l)) ≡ false
few-with l h = ap is_too_many (listed-with l h) ∙ le-ltb entry_limit (length l) h

-- one entry more of the first ones
pub entries_next : (s : List ℕ) (i : ℕ) {es r : Entries} {e : Entry} → es ≡ entries_with (map entry_of (written_from s 0 i)) → e ≡ entry (entry_of (written_at s i))
    → r ≡ pushed es e → i < entry_limit → r ≡ entries_with (map entry_of (written_from s 0 (i + 1)))
entries_next s i p q f h =
    let n : length (map entry_of (written_from s 0 i)) ≡ i = length-map (written_from s 0 i) entry_of ∙ written-length s 0 i in
    let z : 0 + i ≡ i = omega arith in
    let l : written_from s 0 (i + 1) ≡ written_from s 0 i ++ (written_at s i ∷ []) =
    ap (written_from s 0) (add-one i) ∙ written_last s 0 i ∙ ap (λ (k : ℕ). written_from s 0 i ++ (written_at s k ∷ [])) z in
    f ∙ rw (p, q) (push-with (map entry_of (written_from s 0 i)) (entry_of (written_at s i)) (omega arith))
    ∙ ap entries_with (sym (ap (map entry_of) l ∙ map_last entry_of (written_from s 0 i) (written_at s i)))

-- ---- a message

pub zero-within : (s : List ℕ) → length (up_to_zero s) ≤ length s
zero-within [] = lit≤ tt
zero-within (b ∷ bs) = go (eqb b 0) refl (zero-within bs)
  where
    go : (t : Bool) → eqb b 0 ≡ t → length (up_to_zero bs) ≤ length bs → length (up_to_zero (b ∷ bs)) ≤ suc (length bs)
    go true e h = rw e (omega arith)
    go false e h = rw e (omega arith)

abbrev is_zero : ℕ → Bool
is_zero b = eqb b 0

zero-length : (s : List ℕ) → length (up_to_zero s) ≡ position_or_len is_zero s
zero-length = is_position_or_len (λ (s : List ℕ). length (up_to_zero s)) is_zero refl (λ b bs. go b bs (eqb b 0))
  where
    go : (b : ℕ) (bs : List ℕ) (t : Bool) → length (cond t [] (b ∷ up_to_zero bs)) ≡ cond t 0 (1 + length (up_to_zero bs))
    go b bs true = refl
    go b bs false = omega arith

zero-take : (s : List ℕ) → take (length (up_to_zero s)) s ≡ up_to_zero s
zero-take [] = refl
zero-take (b ∷ bs) = go (eqb b 0) (zero-take bs)
  where
    go : (t : Bool) → take (length (up_to_zero bs)) bs ≡ up_to_zero bs → take (length (cond t [] (b ∷ up_to_zero bs))) (b ∷ bs) ≡ cond t [] (b ∷ up_to_zero bs)
    go true h = refl
    go false h = ap (λ (l : List ℕ). b ∷ l) h

-- the first zero byte, or the end, is where a message ends
pub message-ends : (s : List ℕ) (n : ℕ) → n ≡ unwrap_or (position (λ b. eqb b 0) s) (length s) → (n ≡ length (up_to_zero s)) × (take n s ≡ up_to_zero s)
message-ends s n e = (k, rw k (zero-take s))
  where
    go : (k n : ℕ) → k ≤ n → unwrap_or (cond (ltb k n) (Some k) None) n ≡ k
    go k n h = grind arith

    within : position_or_len is_zero s ≤ length s
    within = rw (← zero-length s) (zero-within s)

    k : n ≡ length (up_to_zero s)
    k = e ∙ go (position_or_len is_zero s) (length s) within ∙ sym (zero-length s)

-- ---- the call

-- what a struct holds that was made of a record
view-with : (v : RecordView) → length v.entries ≤ entry_limit → record_view_of (record_with v) ≡ v
view-with v h =
    rw (listed-with v.entries h, take_at v.message (replicate (message_room - length v.message) 0) (length v.message) refl) refl

outcome-number : (n : ℕ) (left : List ℕ) → outcome_number (outcome_of n left) ≡ n
outcome-number zero [] = refl
outcome-number zero (b ∷ bs) = refl
outcome-number (suc n) left = refl

next-number : (left : List ℕ) → outcome_number (next_record left).outcome ≡ refusal (record_checks left)
unfolding next_record
next-number left = outcome-number (refusal (record_checks left)) left

records-with : (left : List ℕ) (o : Outcome) (v : RecordView) (r : RecordAnswer) → next_record left ≡ record { outcome = o; view = v } → r.outcome ≡ o
    → r.«record» ≡ record_with v → length v.entries ≤ entry_limit → length v.message ≤ message_room → Records left r
records-with left o v r d p q h k =
    record {
      reply = rw (p, q, view-with v h) (sym d);
      number = rw p (ap (λ (a : RecordReply). outcome_number a.outcome) (sym d) ∙ next-number left);
      few = rw q (few-with v.entries h);
      short = rw q k;
      rest = q ∙ ap (λ (a : RecordReply). record_with a.view) (sym d);
    }

module _ (left : List ℕ) where
  -- an answer without a record
  without : (o : Outcome) → next_record left ≡ record { outcome = o; view = no_record } → Records left (record { outcome = o; «record» = record_with no_record })
  without o d = records-with left o no_record (record { outcome = o; «record» = record_with no_record }) d refl refl (lit≤ tt) (lit≤ tt)

  pub ended-done : length left ≡ 0 → Records left (record_answer_from (Ok None))
  unfolding next_record
  ended-done h = without Ended (go left h)
    where
      go : (left : List ℕ) → length left ≡ 0 → next_record left ≡ record { outcome = Ended; view = no_record }
      go [] h = refl
      go (b ∷ bs) h = absurd (omega arith)

  module _ (some : length left ≡ 0 → ⊥) where
    pub short-done : length left < record_length → Records left (record_answer_from (Err RecordCutShort))
    unfolding next_record
    short-done h = without (Refused record_cut_short) (rw (lt-ltb 0 (length left) (omega arith), lt-ltb (length left) record_length h) refl)

    module _ (bytes : List ℕ) (first : IsFirstChunk left bytes record_length) (parents : ℕ) (p : parents ≡ parent_count bytes) where
      count : parents ≡ parent_count left
      count = p ∙ ap parent_count first.same ∙ count-first left

      pub many-done : entry_limit < parents → Records left (record_answer_from (Err TooManyParents))
      unfolding next_record
      many-done h =
          let m : entry_limit < parent_count left = omega (arith, count) in
          without (Refused too_many_parents)
          (rw (lt-ltb 0 (length left) (omega arith), le-ltb (length left) record_length first.enough, lt-ltb entry_limit (parent_count left) m) refl)

      module _ (few : parents ≤ entry_limit) where
        kinds : {t : Bool} → t ≡ any_above kind_limit (written_from bytes 0 parents) → any_above kind_limit (used left) ≡ t
        kinds a =
            sym (a ∙ ap (λ (l : List ℕ). any_above kind_limit (written_from l 0 parents)) first.same
            ∙ ap (any_above kind_limit) (written-first left 0 parents (omega (arith, few)))
            ∙ ap (λ (n : ℕ). any_above kind_limit (written_from left 0 n)) count)

        pub kind-done : true ≡ any_above kind_limit (written_from bytes 0 parents) → Records left (record_answer_from (Err KindAboveLimit))
        unfolding next_record
        kind-done a =
            let m : parent_count left ≤ entry_limit = omega (arith, count) in
            without (Refused kind_above_limit)
            (rw (lt-ltb 0 (length left) (omega arith), le-ltb (length left) record_length first.enough, le-ltb entry_limit (parent_count left) m, kinds a) refl)

        pub ready-done : false ≡ any_above kind_limit (written_from bytes 0 parents) → (r : Record) → r ≡ record_with (record_of bytes) → Records left (record_answer_from (Ok (Some r)))
        unfolding next_record
        ready-done a r q =
            let m : parent_count left ≤ entry_limit = omega (arith, count) in
            records-with left Ready (record_of left) (record { outcome = Ready; «record» = r })
            (rw (lt-ltb 0 (length left) (omega arith), le-ltb (length left) record_length first.enough, le-ltb entry_limit (parent_count left) m, kinds a, ready left some) refl)
            refl
            (q ∙ ap record_with (ap record_of first.same ∙ record-first left m))
            (rw (length-map (used left) entry_of, written-length left 0 (parent_count left)) (omega arith))
            (omega (arith, zero-within (room_of left), length-take message_room (drop 46 left)))
          where
            ready : (l : List ℕ) → (length l ≡ 0 → ⊥) → outcome_of 0 l ≡ Ready
            ready [] h = absurd (h refl)
            ready (b ∷ bs) h = refl
