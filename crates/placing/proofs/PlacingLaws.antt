-- Laws of the definitions in specs/Placing.antt, worded for the row call: an entry's column, the node's column Empty, and the walk over the
-- entries on slots.
use Prim.Native.Nat.{ℕ, zero, suc, ◌+◌, ◌≤◌, ◌<◌, min, max}
use mathlib.Core.Path.{◌≡◌, refl, ap, ◌∙◌, sym}
use mathlib.Core.Bool.{Bool, true, false, cond, ◌&&◌, ◌||◌, false≢true}
use mathlib.Core.List.{List, [], ◌∷◌, map}
use native.Mathlib.Numerals.{add-one}
use native.Mathlib.Omega.{arith}
use lib.Dec.{ltb, eqb}
use lib.ListN.{length, get_or, take, drop, set, replicate, length-set, drop_of_length-le, length-replicate, get_or-replicate, get_or-eq_default}
use lib.Seq.{drop-cons, take-set-le, get_or-set_same, get_or-set_other}
use borrow.Author.Tests.{ltb-true, ltb-false, eqb-true, eqb-false}
use Rattle.column.specs.declared.Column.{Column}
use Rattle.column.specs.declared.Column.TheVariants.{Empty, Blocked, Reserved, Ancestor, Parent}
use Rattle.std.specs.Prelude.{Some, None, unwrap_or}
use Rattle.std.specs.List.{position, list_any}
use Rattle.column.specs.declared.Slot.{Slot}
use Rattle.column.specs.Found.{Found}
use Rattle.column.specs.Columns.{column_limit, is_empty, is_named, first, find_empty, merge, at, put, live, origins, origin_at, empty_slot}
use Rattle.slices.proofs.Front.{length_front, front-get_or, front-set}
use Rattle.column.proofs.Laws.{column_of as slot_column, first-live, first_below, live_at, origins-at, live-put, put-set}
use Rattle.column.proofs.Positions.{at-put-same, at-put-other, length-put, put-skip, at-live, past_end}
use Rattle.render.specs.declared.render.Ancestor.{Ancestor as Entry}
use Rattle.render.specs.declared.render.Entry.{Entry as Entry₁}
use Rattle.render.specs.declared.render.Ancestor.TheVariants.{Ancestor as Indirect, Parent as Direct, Anonymous}
use Rattle.render.specs.Entries.{is_anonymous}
use Rattle.links.specs.declared.Drawn.{Drawn}
use Rattle.links.specs.declared.Drawn.TheVariants as drawn
use Rattle.links.specs.Links.{drawn_by}
use Rattle.links.specs.Inner.{kind_at}
use Rattle.placing.specs.Placing.{column_of, held_by, column_of_parent, enter, walk, Met, Nobody, By, kind_of, met_by, line_origin}
use Rattle.placing.specs.Inner.{holds_entry, entered, column_before}

none-held : (cs : List Column) → first (holds_entry Anonymous) cs ≡ None
none-held [] = refl
none-held (c ∷ cs) = rw (none-held cs)

-- the column that holds an entry's id is the first that passes the test
pub held_first : (e : Entry) (cs : List Column) → held_by e cs ≡ first (holds_entry e) cs
held_first (Indirect n) cs = refl
held_first (Direct n) cs = refl
held_first Anonymous cs = sym (none-held cs)

-- and so the library's first position of the live slots
pub held-live : (m n : ℕ) (l : List Slot) (e : Entry) → m ≡ min n column_limit → length l ≡ column_limit → position (λ (s : Slot). holds_entry e s.column) (take m l) ≡ held_by e (live n l)
held-live m n l e h k = first-live (holds_entry e) m n l h k ∙ sym (held_first e (live n l))

-- ---- the column of an entry
module _ (c : ℕ) (e : Entry) (cs : List Column) where
  pub parent-column-held : (i : ℕ) → held_by e cs ≡ Some i → i ≡ column_of_parent c e cs
  parent-column-held i h = rw h

  pub parent-column-free : (i : ℕ) → held_by e cs ≡ None → find_empty c cs ≡ Some i → i ≡ column_of_parent c e cs
  parent-column-free i h f = rw (h, f)

  -- where the node's own column is not Empty, the first Empty one is what is found, else a new last one
  pub parent-column-else : (i : ℕ) (f : Found) → held_by e cs ≡ None → find_empty c cs ≡ f → i ≡ unwrap_or f (length cs) → i ≡ column_of_parent c e cs
  parent-column-else i f h g k = rw (h, g) k

  held-within : (e : Entry) (i : ℕ) → held_by e cs ≡ Some i → i < length cs
  held-within (Indirect n) i h = first_below _ cs i h
  held-within (Direct n) i h = first_below _ cs i h
  held-within Anonymous i h = let z : ◌≡◌ {A = ℕ} 0 1 = cc in absurd (omega arith)

  known : (c : ℕ) → is_empty (get_or cs c Blocked) ≡ true → c < length cs
  known c h = go (ltb c (length cs)) refl
    where
      go : (b : Bool) → ltb c (length cs) ≡ b → c < length cs
      go true q = ltb-true _ _ q
      go false q =
          let d : get_or cs c Blocked ≡ Blocked = get_or-eq_default cs Blocked {n = c} (ltb-false _ _ q) in
          let f : is_empty Blocked ≡ true = rw d at h in
          let z : ◌≡◌ {A = ℕ} 0 1 = cc in
          absurd (omega arith)

  free-within : (b : Bool) → is_empty (get_or cs c Blocked) ≡ b → (f : Found) → first is_empty cs ≡ f → unwrap_or (cond b (Some c) f) (length cs) ≤ length cs
  free-within true q f g = let h : c < length cs = known c q in omega arith
  free-within false q (Some i) g = omega (arith, first_below is_empty cs i g)
  free-within false q None g = omega arith

  -- an entry's column is one there is, or a new last one
  pub parent-column-within : column_of_parent c e cs ≤ length cs
  parent-column-within = go (held_by e cs) refl
    where
      go : (f : Found) → held_by e cs ≡ f → unwrap_or f (unwrap_or (find_empty c cs) (length cs)) ≤ length cs
      go (Some i) h = omega (arith, held-within e i h)
      go None h = free-within (is_empty (get_or cs c Blocked)) refl (first is_empty cs) refl

-- ---- a walk never takes a column away
pub walk_more : (c : ℕ) (es : List Entry) (cs : List Column) → length cs ≤ length (walk c es cs)
walk_more c [] cs = omega arith
walk_more c (e ∷ es) cs = omega (arith, walk_more c es (enter c e cs), length-put cs (column_of_parent c e cs) (merge (at cs (column_of_parent c e cs)) (column_of e)))

-- what the columns carry on the way, in a row of x: os is what the columns bs carried before the entries
pub record Carrying (x : ℕ) (bs : List Column) (os : List ℕ) (slots : List Slot) (count : ℕ) : Type 0 where
  pub origin : (i : ℕ) → is_named (at (live count slots) i) ≡ true → (get_or slots i empty_slot).origin ≡ line_origin x bs os i
  pub stays : (i : ℕ) → is_named (at bs i) ≡ true → is_named (at (live count slots) i) ≡ true

-- ---- the node's column Empty

put-past : (xs : List Column) (n c : ℕ) → length xs ≡ n → c ≡ suc n → put (put xs n Empty) c Empty ≡ put xs c Empty
put-past xs n c e f = rw (f, ← e) (put-skip xs Empty)

-- an array l of which n slots are live; the node's column c is one there is, a new last one, or one past that
module _ (l : List Slot) (n c : ℕ) (long : length l ≡ column_limit) (few : n ≤ column_limit) (h : c < column_limit) (near : c ≤ suc n) where
  abbrev cs : List Column
  cs = live n l

  count-is : length cs ≡ n
  count-is = rw (length_front slot_column n l, long) (omega arith)

  module _ (k m : ℕ) (k-is : k ≡ min n c) (m-is : m ≡ min (max n (c + 1)) column_limit) where
    -- two stores: a placeholder before a new last column, else the node's own slot twice
    abbrev pub opened : List Slot
    opened = set (set l k empty_slot) c empty_slot

    pub opened-long : length opened ≡ column_limit
    opened-long = length-set (set l k empty_slot) c empty_slot ∙ length-set l k empty_slot ∙ long

    beside_long : length (set l k empty_slot) ≡ column_limit
    beside_long = length-set l k empty_slot ∙ long

    -- a column there is
    inside : c < n → live m opened ≡ put cs c Empty
    inside z =
        let e : k ≡ c = omega arith in
        let w : m ≡ n = omega arith in
        front-set slot_column m (set l k empty_slot) c empty_slot
        ∙ ap (λ (y : List Column). set y c Empty) (front-set slot_column m l k empty_slot)
        ∙ rw (e, w, ← put-set cs c Empty (rw count-is z)) (sym (put-set (put cs c Empty) c Empty (rw (length-put cs c Empty) (omega arith))) ∙ put-twice cs c)
      where
        put-twice : (xs : List Column) (i : ℕ) → put (put xs i Empty) i Empty ≡ put xs i Empty
        put-twice [] zero = refl
        put-twice [] (suc i) = ap (λ (r : List Column). Empty ∷ r) (put-twice [] i)
        put-twice (x ∷ xs) zero = refl
        put-twice (x ∷ xs) (suc i) = ap (λ (r : List Column). x ∷ r) (put-twice xs i)

    -- a new last one, or one past that
    behind : n ≤ c → live m opened ≡ put cs c Empty
    behind z = go (ltb n c) refl
      where
        e : k ≡ n
        e = omega arith

        go : (b : Bool) → ltb n c ≡ b → live m opened ≡ put cs c Empty
        go false q =
            let w : c ≡ n = omega (arith, ltb-false n c q) in
            let kept : live n (set l k empty_slot) ≡ cs = rw (take-set-le n l k empty_slot (omega arith)) in
            live-put n c m (set l k empty_slot) empty_slot (rw beside_long h) (rw (kept, count-is) (omega arith)) (rw beside_long m-is)
            ∙ ap (λ (y : List Column). put y c Empty) kept
        go true q =
            let w : c ≡ suc n = omega (arith, ltb-true n c q) in
            let one : live (suc n) (set l k empty_slot) ≡ put cs n Empty =
            rw e (live-put n n (suc n) l empty_slot (omega (arith, long)) (rw count-is (omega arith)) (omega (arith, long))) in
            live-put (suc n) c m (set l k empty_slot) empty_slot (rw beside_long h) (rw (one, length-put, count-is) (omega arith)) (rw beside_long (omega arith))
            ∙ ap (λ (y : List Column). put y c Empty) one
            ∙ put-past cs n c count-is w

    -- the columns with the node's Empty
    pub opened-is : live m opened ≡ put cs c Empty
    opened-is = go (ltb c n) refl
      where
        go : (b : Bool) → ltb c n ≡ b → live m opened ≡ put cs c Empty
        go true q = inside (ltb-true c n q)
        go false q = behind (ltb-false c n q)

    -- what the columns carry before the entries
    pub opened-carries : (x : ℕ) (os : List ℕ) → os ≡ origins n l → Carrying x (put cs c Empty) os opened m
    opened-carries x os o = record { origin = λ i h. carries i (sym (ap (λ (y : List Column). is_named (at y i)) opened-is) ∙ h); stays = λ i h. ap (λ (y : List Column). is_named (at y i)) opened-is ∙ h }
      where
        not-node : (i : ℕ) → is_named (at (put cs c Empty) i) ≡ true → i ≡ c → ⊥
        not-node i h e =
            let z : at (put cs c Empty) i ≡ Empty = rw e (at-put-same cs c Empty) in
            false≢true (sym (ap is_named z) ∙ h)

        carries : (i : ℕ) → is_named (at (put cs c Empty) i) ≡ true → (get_or opened i empty_slot).origin ≡ line_origin x (put cs c Empty) os i
        carries i h =
            let e : i ≡ c → ⊥ = not-node i h in
            let z : is_named (at cs i) ≡ true = sym (ap is_named (at-put-other cs c Empty i e)) ∙ h in
            let y : i < n = below i z (ltb i n) refl in
            let w : i < length l = omega (arith, long) in
            let d : is_named (get_or l i empty_slot).column ≡ true = sym (ap is_named (live_at n l i y w)) ∙ z in
            ap (λ (s : Slot). s.origin) (get_or-set_other (set l k empty_slot) c i empty_slot empty_slot e ∙ get_or-set_other l k i empty_slot empty_slot (λ q. omega (arith, q)))
            ∙ rw (h, o, origins-at n l i y w, d)
          where
            below : (i : ℕ) → is_named (at cs i) ≡ true → (b : Bool) → ltb i n ≡ b → i < n
            below i z true q = ltb-true i n q
            below i z false q = absurd (false≢true (sym (ap is_named (past_end cs i (rw count-is (ltb-false i n q)))) ∙ z))

  -- what stood in a column before the entries
  pub before-is : (i : ℕ) → i < column_limit → column_before (get_or l i empty_slot) i n c ≡ at (put cs c Empty) i
  before-is i k = go (eqb i c) refl
    where
      go : (b : Bool) → eqb i c ≡ b → column_before (get_or l i empty_slot) i n c ≡ at (put cs c Empty) i
      go true q = let e : i ≡ c = eqb-true i c q in rw (q, never (ltb i n)) (rw e (sym (at-put-same cs c Empty)))
        where
          never : (x : Bool) → (x && false) ≡ false
          never true = refl
          never false = refl
      go false q = rw (q, always (ltb i n)) (sym (at-put-other cs c Empty i (eqb-false i c q) ∙ at-live n l i (rw long k)))
        where
          always : (x : Bool) → (x && true) ≡ x
          always true = refl
          always false = refl

-- ---- the walk over the entries

-- the column of the last entry
abbrev pub last_column : ℕ → List Entry → List Column → ℕ → ℕ
last_column c [] cs d = d
last_column c (e ∷ es) cs d = last_column c es (enter c e cs) (column_of_parent c e cs)

-- the kind of who draws in column i, else d
abbrev pub kind_by : ℕ → ℕ → List Entry → List Column → Drawn → Drawn
kind_by i c [] cs d = d
kind_by i c (e ∷ es) cs d = kind_by i c es (enter c e cs) (cond (eqb i (column_of_parent c e cs)) (drawn_by e) d)

kind-chosen : (b : Bool) (e : Entry) (m : Met) → kind_of (cond b (By e) m) ≡ cond b (drawn_by e) (kind_of m)
kind-chosen true e m = refl
kind-chosen false e m = refl

kind-met : (i c : ℕ) (es : List Entry) (cs : List Column) (m : Met) → kind_by i c es cs (kind_of m) ≡ kind_of (met_by i c es cs m)
kind-met i c [] cs m = refl
kind-met i c (e ∷ es) cs m =
    ap (kind_by i c es (enter c e cs)) (sym (kind-chosen (eqb i (column_of_parent c e cs)) e m))
    ∙ kind-met i c es (enter c e cs) (cond (eqb i (column_of_parent c e cs)) (By e) m)

-- who draws once an entry drew in column i
kind-set : (l : List Drawn) (i j : ℕ) (e : Entry) → i < length l → kind_at (set l i (drawn_by e)) j ≡ cond (eqb j i) (drawn_by e) (kind_at l j)
kind-set l i j e h = go (eqb j i) refl
  where
    go : (b : Bool) → eqb j i ≡ b → kind_at (set l i (drawn_by e)) j ≡ cond b (drawn_by e) (kind_at l j)
    go true q = rw (eqb-true j i q) (get_or-set_same l i (drawn_by e) drawn.Nobody h)
    go false q = get_or-set_other l i j (drawn_by e) drawn.Nobody (eqb-false j i q)

-- nobody draws at first
kind-none : (j : ℕ) → kind_at (replicate column_limit drawn.Nobody) j ≡ drawn.Nobody
kind-none j = go (ltb j column_limit) refl
  where
    go : (b : Bool) → ltb j column_limit ≡ b → kind_at (replicate column_limit drawn.Nobody) j ≡ drawn.Nobody
    go true q = rw (get_or-replicate column_limit j drawn.Nobody drawn.Nobody (ltb-true _ _ q))
    go false q =
        rw (get_or-eq_default (replicate column_limit drawn.Nobody) drawn.Nobody {n = j} (rw (length-replicate column_limit drawn.Nobody) (ltb-false _ _ q)))

or_assoc : (x y z : Bool) → ((x || y) || z) ≡ (x || (y || z))
or_assoc true y z = refl
or_assoc false y z = refl

or-none : (x : Bool) → (x || false) ≡ x
or-none true = refl
or-none false = refl

-- what the walk keeps once i entries are in: bs are the columns before them, and the rest is what is left to do from there
pub record Going (bs : List Column) (c : ℕ) (es : List Entry) (i : ℕ) (slots : List Slot) (count : ℕ) (parents : List Drawn) (last : ℕ) (said : Bool) : Type 0 where
  pub long : length slots ≡ column_limit
  pub wide : length parents ≡ column_limit
  pub fits : count ≤ column_limit
  pub within : last < column_limit
  pub columns : walk c (drop i es) (live count slots) ≡ walk c es bs
  pub kinds : (j : ℕ) → kind_by j c (drop i es) (live count slots) (kind_at parents j) ≡ kind_by j c es bs drawn.Nobody
  pub last-left : last_column c (drop i es) (live count slots) last ≡ last_column c es bs 0
  pub said-left : (said || list_any is_anonymous (drop i es)) ≡ list_any is_anonymous es

-- what it gives
pub record Gone (bs : List Column) (c : ℕ) (es : List Entry) (slots : List Slot) (count : ℕ) (parents : List Drawn) (last : ℕ) (said : Bool) : Type 0 where
  pub long : length slots ≡ column_limit
  pub wide : length parents ≡ column_limit
  pub fits : count ≤ column_limit
  pub within : last < column_limit
  pub columns : live count slots ≡ walk c es bs
  pub kinds : (j : ℕ) → kind_at parents j ≡ kind_of (met_by j c es bs Nobody)
  pub last-is : last ≡ last_column c es bs 0
  pub said-is : said ≡ list_any is_anonymous es

-- merging leaves a named column named
pub merge-stays : (c d : Column) → is_named c ≡ true → is_named (merge c d) ≡ true
merge-stays Empty d h = absurd (false≢true h)
merge-stays Blocked d h = absurd (false≢true h)
merge-stays (Reserved n) d h = absurd (false≢true h)
merge-stays (Ancestor n) Empty h = refl
merge-stays (Ancestor n) Blocked h = refl
merge-stays (Ancestor n) (Reserved m) h = refl
merge-stays (Ancestor n) (Ancestor m) h = refl
merge-stays (Ancestor n) (Parent m) h = refl
merge-stays (Parent n) Empty h = refl
merge-stays (Parent n) Blocked h = refl
merge-stays (Parent n) (Reserved m) h = refl
merge-stays (Parent n) (Ancestor m) h = refl
merge-stays (Parent n) (Parent m) h = refl

module _ (bs : List Column) (c : ℕ) (es : List Entry) where
  pub going_start : (slots : List Slot) (count : ℕ) (parents : List Drawn) → length slots ≡ column_limit → count ≤ column_limit → live count slots ≡ bs
      → parents ≡ replicate column_limit drawn.Nobody → Going bs c es 0 slots count parents 0 false
  going_start slots count parents long h b p =
      record {
        long = long;
        wide = rw p (length-replicate column_limit drawn.Nobody);
        fits = h;
        within = omega arith;
        columns = rw b;
        kinds = λ j. rw (b, p, kind-none j);
        last-left = rw b;
        said-left = refl;
      }

  module _ (i : ℕ) (slots : List Slot) (count : ℕ) (parents : List Drawn) (last : ℕ) (said : Bool) (g : Going bs c es i slots count parents last said) where
    module _ (e : Entry) (d : drop i es ≡ e ∷ drop (suc i) es) (index : ℕ) (k : index ≡ column_of_parent c e (live count slots)) where
      abbrev now : List Column
      now = live count slots

      near : index ≤ length now
      near = rw k (parent-column-within c e now)

      -- a column past the limit: the node line would be too long
      pub going-over : column_limit ≤ index → column_limit < length (walk c es bs)
      going-over h =
          let w : walk c (drop (suc i) es) (enter c e now) ≡ walk c es bs = ap (λ (r : List Entry). walk c r now) (sym d) ∙ g.columns in
          rw (← w) (omega (arith, walk_more c (drop (suc i) es) (enter c e now), length-put now (column_of_parent c e now) (merge (at now (column_of_parent c e now)) (column_of e))))

      module _ (h : index < column_limit) (m : ℕ) (q : m ≡ min (max count (index + 1)) column_limit) (s : Slot)
          (x : ℕ) (f : s ≡ entered (get_or slots index empty_slot) index count e x) (p : Drawn) (o : p ≡ drawn_by e) (t : Bool) (y : t ≡ is_anonymous e) where
        a : index < length slots
        a = rw g.long h

        r : m ≡ min (max count (index + 1)) (length slots)
        r = rw g.long q

        next : live m (set slots index s) ≡ enter c e now
        next = live-put count index m slots s a near r ∙ rw (f, ← at-live count slots index a, k)

        pub going_next : Going bs c es (i + 1) (set slots index s) m (set parents index p) index (said || t)
        going_next =
            record {
              long = length-set slots index s ∙ g.long;
              wide = length-set parents index p ∙ g.wide;
              fits = omega arith;
              within = h;
              columns = rw (add-one i, next) (ap (λ (l : List Entry). walk c l now) (sym d) ∙ g.columns);
              kinds = λ j.
                  rw (add-one i, next, o, kind-set parents index j e (rw g.wide h), k)
                  (ap (λ (l : List Entry). kind_by j c l now (kind_at parents j)) (sym d) ∙ g.kinds j);
              last-left = rw (add-one i, next, k) (ap (λ (l : List Entry). last_column c l now last) (sym d) ∙ g.last-left);
              said-left =
                  rw (add-one i, y)
                  (or_assoc said (is_anonymous e) (list_any is_anonymous (drop (suc i) es))
                  ∙ ap (λ (l : List Entry). said || list_any is_anonymous l) (sym d)
                  ∙ g.said-left);
            }

        -- the entry's column carries the row's node, unless it was named before
        pub carrying-next : (os : List ℕ) → Carrying x bs os slots count → Carrying x bs os (set slots index s) m
        carrying-next os w = record { origin = λ j. here j (eqb j index) refl; stays = λ j. there j (eqb j index) refl }
          where
            old : Column
            old = at now index

            slot : Slot
            slot = get_or slots index empty_slot

            not-before : (v : Bool) → is_named old ≡ false → is_named (at bs index) ≡ v → cond v (origin_at os index) x ≡ x
            not-before true z u = absurd (false≢true (sym z ∙ w.stays index u))
            not-before false z u = refl

            kept : (v : Bool) → is_named old ≡ v → cond v slot.origin x ≡ line_origin x bs os index
            kept true z = w.origin index z
            kept false z = sym (not-before (is_named (at bs index)) z refl)

            entered-origin : s.origin ≡ line_origin x bs os index
            entered-origin = ap (λ (z : Slot). z.origin) f ∙ rw (← at-live count slots index a) (kept (is_named old) refl)

            entered-column : at (live m (set slots index s)) index ≡ merge old (column_of e)
            entered-column = rw (next, ← k) (at-put-same now index (merge old (column_of e)))

            other-column : (j : ℕ) → (j ≡ index → ⊥) → at (live m (set slots index s)) j ≡ at now j
            other-column j n = rw (next, ← k) (at-put-other now index (merge old (column_of e)) j n)

            here : (j : ℕ) (b : Bool) → eqb j index ≡ b → is_named (at (live m (set slots index s)) j) ≡ true → (get_or (set slots index s) j empty_slot).origin ≡ line_origin x bs os j
            here j true z u = let v : j ≡ index = eqb-true j index z in rw v (ap (λ (y : Slot). y.origin) (get_or-set_same slots index s empty_slot a) ∙ entered-origin)
            here j false z u =
                let v : j ≡ index → ⊥ = eqb-false j index z in
                ap (λ (y : Slot). y.origin) (get_or-set_other slots index j s empty_slot v) ∙ w.origin j (sym (ap is_named (other-column j v)) ∙ u)

            there : (j : ℕ) (b : Bool) → eqb j index ≡ b → is_named (at bs j) ≡ true → is_named (at (live m (set slots index s)) j) ≡ true
            there j true z u =
                let v : j ≡ index = eqb-true j index z in
                rw v (ap is_named entered-column ∙ merge-stays old (column_of e) (w.stays index (sym (ap (λ (y : ℕ). is_named (at bs y)) v) ∙ u)))
            there j false z u = ap is_named (other-column j (eqb-false j index z)) ∙ w.stays j u

    pub going_end : drop i es ≡ [] → Gone bs c es slots count parents last said
    going_end d =
        record {
          long = g.long;
          wide = g.wide;
          fits = g.fits;
          within = g.within;
          columns = ap (λ (t : List Entry). walk c t (live count slots)) (sym d) ∙ g.columns;
          kinds = λ j. ap (λ (t : List Entry). kind_by j c t (live count slots) (kind_at parents j)) (sym d) ∙ g.kinds j ∙ kind-met j c es bs Nobody;
          last-is = ap (λ (t : List Entry). last_column c t (live count slots) last) (sym d) ∙ g.last-left;
          said-is = sym (or-none said) ∙ ap (λ (t : List Entry). said || list_any is_anonymous t) (sym d) ∙ g.said-left;
        }

-- ---- the entries of an array
abbrev pub entries_in : ℕ → List Entry₁ → List Entry
entries_in n l = map (λ (e : Entry₁). e.ancestor) (take n l)

module _ (n : ℕ) (l : List Entry₁) (i : ℕ) where
  pub given-next : (d : Entry₁) → i < n → i < length l → drop i (entries_in n l) ≡ (get_or l i d).ancestor ∷ drop (suc i) (entries_in n l)
  given-next d h k =
      let f : Entry₁ → Entry = λ (e : Entry₁). e.ancestor in
      let w : i < length (entries_in n l) = rw length_front (omega arith) in
      drop-cons (entries_in n l) i (get_or l i d).ancestor w ∙ rw (front-get_or f n l i d (get_or l i d).ancestor h k)

  pub given-end : n ≤ i → drop i (entries_in n l) ≡ []
  given-end h = drop_of_length-le (entries_in n l) {i = i} (rw length_front (omega arith))
