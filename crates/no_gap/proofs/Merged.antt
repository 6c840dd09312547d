-- Who draws in a column is who merged into it: an entry, and an Anonymous one where one merged; nobody merges into a Blocked column, so that each Anonymous entry has a column of its own.
use Prim.Native.Nat.{ℕ, zero, suc, ◌+◌, ◌≤◌, ◌<◌}
use mathlib.Core.Path.{◌≡◌, refl, sym, ◌∙◌, ap}
use mathlib.Core.Logic.{◌≢◌}
use mathlib.Core.Bool.{Bool, true, false, cond, ◌||◌, or-true, or-false, false≢true}
use mathlib.Core.List.{List, [], ◌∷◌}
use mathlib.Core.Option.{none-ne-some}
use native.Mathlib.Omega.{arith}
use native.Mathlib.Decide.{ℕ_discrete}
use borrow.Author.Tests.{eqb-true, eq-eqb, ne_eqb}
use lib.Dec.{eqb}
use lib.ListN.{length}
use Rattle.column.specs.declared.Column.{Column}
use Rattle.column.specs.declared.Column.TheVariants.{Blocked}
use Rattle.column.specs.Columns.{rank, id_of, merge, at}
use Rattle.column.proofs.Positions.{at-put-same, at-put-other, length-put}
use Rattle.render.specs.declared.render.Ancestor.{Ancestor as Entry}
use Rattle.render.specs.declared.render.Ancestor.TheVariants.{Ancestor as Indirect, Parent as Direct, Anonymous}
use Rattle.render.specs.Entries.{entry_id, is_anonymous}
use Rattle.links.specs.Links.{drawn_by, is_drawn, is_anonymously_drawn}
use Rattle.placing.specs.Placing.{column_of, column_of_parent, enter, walk, Met, By, kind_of, met_by}
use Rattle.placing.proofs.PlacingLaws.{walk_more}
use Rattle.cells.specs.Cells.{cells_from}
use Rattle.marked.proofs.Holding.{Spot, taken, free, spot_is, merge-empty}
use Rattle.no_gap.specs.NoGap.{count_of, is_set}
use Rattle.no_gap.specs.EntryColumns.{merged_into, anonymous_in, is_in, In}

-- ---- somebody draws in a column exactly if an entry merged into it
pub entry-draws : (e : Entry) → is_drawn (drawn_by e) ≡ true
entry-draws (Indirect n) = refl
entry-draws (Direct n) = refl
entry-draws Anonymous = refl

pub met-merged : (i c : ℕ) (es : List Entry) (cs : List Column) (m : Met) → is_drawn (kind_of (met_by i c es cs m)) ≡ (is_drawn (kind_of m) || is_in i (merged_into c es cs))
met-merged i c [] cs m = sym (or-false (is_drawn (kind_of m)))
met-merged i c (e ∷ es) cs m = met-merged i c es (enter c e cs) (cond (eqb i (column_of_parent c e cs)) (By e) m) ∙ go (eqb i (column_of_parent c e cs)) (is_in i (merged_into c es (enter c e cs)))
  where
    go : (t y : Bool) → (is_drawn (kind_of (cond t (By e) m)) || y) ≡ (is_drawn (kind_of m) || (t || y))
    go true y = rw (entry-draws e) (sym (or-true (is_drawn (kind_of m))))
    go false y = refl

-- what an entry merges into is a column of the row
pub merged-below : (c : ℕ) (es : List Entry) (cs : List Column) (t : ℕ) → In (merged_into c es cs) t → t < length (walk c es cs)
merged-below c [] cs t h = absurd (false≢true h)
merged-below c (e ∷ es) cs t h = go (merged-below c es (enter c e cs) t) (eqb t (column_of_parent c e cs)) refl h
  where
    p : ℕ
    p = column_of_parent c e cs

    go : (In (merged_into c es (enter c e cs)) t → t < length (walk c es (enter c e cs))) → (b : Bool) → eqb t p ≡ b → (b || is_in t (merged_into c es (enter c e cs))) ≡ true
        → t < length (walk c es (enter c e cs))
    go rest true q z = omega (arith, eqb-true t p q, walk_more c es (enter c e cs), length-put cs p (merge (at cs p) (column_of e)))
    go rest false q z = rest z

-- ---- nobody merges into a Blocked column
not-blocked : (e : Entry) (cs : List Column) (k : ℕ) → Spot (entry_id e) cs k → at cs k ≢ Blocked
not-blocked e cs k (taken n z q) b = none-ne-some n (sym (ap id_of b) ∙ q)
not-blocked e cs k (free z f) b = omega (arith, ap rank (sym z ∙ b))

stays-blocked : (c : ℕ) (e : Entry) (cs : List Column) (i : ℕ) → at cs i ≡ Blocked → (i ≢ column_of_parent c e cs) × (at (enter c e cs) i ≡ Blocked)
stays-blocked c e cs i b =
    let n : i ≢ column_of_parent c e cs = λ z. not-blocked e cs (column_of_parent c e cs) (spot_is c e cs) (ap (at cs) (sym z) ∙ b) in
    (n, at-put-other cs (column_of_parent c e cs) (merge (at cs (column_of_parent c e cs)) (column_of e)) i n ∙ b)

pub blocked-unmerged : (c : ℕ) (es : List Entry) (cs : List Column) (i : ℕ) → at cs i ≡ Blocked → is_in i (merged_into c es cs) ≡ false
blocked-unmerged c [] cs i b = refl
blocked-unmerged c (e ∷ es) cs i b =
    let s = stays-blocked c e cs i b in
    rw (ne_eqb i (column_of_parent c e cs) s.0) (blocked-unmerged c es (enter c e cs) i s.1)

-- ---- the Anonymous entries' columns
pub anonymous-in : (es : List Entry) (ps : List ℕ) (t : ℕ) → In (anonymous_in es ps) t → In ps t
anonymous-in [] ps t h = absurd (false≢true h)
anonymous-in (e ∷ es) [] t h = absurd (false≢true h)
anonymous-in (e ∷ es) (p ∷ ps) t h = go (anonymous-in es ps t) (is_anonymous e) (eqb t p) refl h
  where
    go : (In (anonymous_in es ps) t → In ps t) → (a x : Bool) → eqb t p ≡ x → In (cond a (p ∷ anonymous_in es ps) (anonymous_in es ps)) t → (x || is_in t ps) ≡ true
    go more a true q z = refl
    go more true false q z = more (rw q at z)
    go more false false q z = more z

anonymous-out : (es : List Entry) (ps : List ℕ) (t : ℕ) → is_in t ps ≡ false → is_in t (anonymous_in es ps) ≡ false
anonymous-out es ps t h = go (is_in t (anonymous_in es ps)) refl
  where
    go : (x : Bool) → is_in t (anonymous_in es ps) ≡ x → x ≡ false
    go true e = absurd (false≢true (sym h ∙ anonymous-in es ps t e))
    go false e = refl

-- an Anonymous entry's column is Blocked by it
anonymous-blocks : (c : ℕ) (e : Entry) (cs : List Column) → is_anonymous e ≡ true → at (enter c e cs) (column_of_parent c e cs) ≡ Blocked
anonymous-blocks c (Indirect n) cs a = absurd (false≢true a)
anonymous-blocks c (Direct n) cs a = absurd (false≢true a)
anonymous-blocks c Anonymous cs a = at-put-same cs k (merge (at cs k) Blocked) ∙ go (spot_is c Anonymous cs)
  where
    k : ℕ
    k = column_of_parent c Anonymous cs

    go : Spot (entry_id Anonymous) cs k → merge (at cs k) Blocked ≡ Blocked
    go (taken n z q) = absurd (none-ne-some n z)
    go (free z f) = merge-empty (at cs k) Anonymous z

pub anonymous-draws : (e : Entry) → is_anonymously_drawn (drawn_by e) ≡ is_anonymous e
anonymous-draws (Indirect n) = refl
anonymous-draws (Direct n) = refl
anonymous-draws Anonymous = refl

-- an Anonymous entry draws in a column exactly if one merged into it: then it is Blocked, and nobody else comes
pub anonymous-merged : (i c : ℕ) (es : List Entry) (cs : List Column) (m : Met) → (is_anonymously_drawn (kind_of m) ≡ true → at cs i ≡ Blocked)
    → is_anonymously_drawn (kind_of (met_by i c es cs m)) ≡ (is_anonymously_drawn (kind_of m) || is_in i (anonymous_in es (merged_into c es cs)))
anonymous-merged i c [] cs m b = sym (or-false (is_anonymously_drawn (kind_of m)))
anonymous-merged i c (e ∷ es) cs m b = go (anonymous-merged i c es (enter c e cs)) (ℕ_discrete i (column_of_parent c e cs))
  where
    k : ℕ
    k = column_of_parent c e cs

    rest : List ℕ
    rest = anonymous_in es (merged_into c es (enter c e cs))

    elsewhere : i ≢ k → (a : Bool) → is_in i rest ≡ is_in i (cond a (k ∷ rest) rest)
    elsewhere n true = rw (ne_eqb i k n)
    elsewhere n false = refl

    here : i ≡ k → (a : Bool) → (a || is_in i rest) ≡ is_in i (cond a (k ∷ rest) rest)
    here z true = rw (eq-eqb i k z)
    here z false = refl

    unmet : i ≡ k → (t : Bool) → is_anonymously_drawn (kind_of m) ≡ t → t ≡ false
    unmet z true q = absurd (not-blocked e cs k (spot_is c e cs) (ap (at cs) (sym z) ∙ b q))
    unmet z false q = refl

    go : ((m : Met) → (is_anonymously_drawn (kind_of m) ≡ true → at (enter c e cs) i ≡ Blocked)
        → is_anonymously_drawn (kind_of (met_by i c es (enter c e cs) m)) ≡ (is_anonymously_drawn (kind_of m) || is_in i rest))
        → Dec (i ≡ k) → is_anonymously_drawn (kind_of (met_by i c es (enter c e cs) (cond (eqb i k) (By e) m))) ≡ (is_anonymously_drawn (kind_of m) || is_in i (cond (is_anonymous e) (k ∷ rest) rest))
    go more (no n) =
        rw (ne_eqb i k n)
        (more m (λ q. at-put-other cs k (merge (at cs k) (column_of e)) i n ∙ b q) ∙ ap (λ (t : Bool). is_anonymously_drawn (kind_of m) || t) (elsewhere n (is_anonymous e)))
    go more (yes z) =
        rw (eq-eqb i k z, unmet z (is_anonymously_drawn (kind_of m)) refl)
        (more (By e) (λ q. ap (at (enter c e cs)) z ∙ anonymous-blocks c e cs (sym (anonymous-draws e) ∙ q)) ∙ rw (anonymous-draws e) (here z (is_anonymous e)))

-- ---- how many they are

-- one place more is set
place-past : (f : ℕ → Bool) (p j n : ℕ) → p < j → count_of is_set (cells_from (λ i. eqb i p || f i) j n) ≡ count_of is_set (cells_from f j n)
place-past f p j zero h = refl
place-past f p j (suc n) h = rw (ne_eqb j p (λ z. omega arith), place-past f p (suc j) n (omega arith))

place-more : (f : ℕ → Bool) (p j n : ℕ) → f p ≡ false → j ≤ p → p < j + n → count_of is_set (cells_from (λ i. eqb i p || f i) j n) ≡ 1 + count_of is_set (cells_from f j n)
place-more f p j zero q h l = absurd (omega arith)
place-more f p j (suc n) q h l = go (λ k. place-more f p (suc j) n q k (omega arith)) (ℕ_discrete j p)
  where
    go : (suc j ≤ p → count_of is_set (cells_from (λ i. eqb i p || f i) (suc j) n) ≡ 1 + count_of is_set (cells_from f (suc j) n)) → Dec (j ≡ p)
        → (cond (eqb j p || f j) 1 0 + count_of is_set (cells_from (λ i. eqb i p || f i) (suc j) n)) ≡ 1 + (cond (f j) 1 0 + count_of is_set (cells_from f (suc j) n))
    go more (yes e) = rw (eq-eqb j p e, place-past f p (suc j) n (omega arith), e, q) (omega arith)
    go more (no m) = rw (ne_eqb j p m) (omega (arith, more (omega (arith, m))))

pub unset : (j n : ℕ) → count_of is_set (cells_from (λ i. false) j n) ≡ 0
unset j zero = refl
unset j (suc n) = omega (arith, unset (suc j) n)

-- each Anonymous entry has a column of its own
pub anonymous-count : (c : ℕ) (es : List Entry) (cs : List Column) (w : ℕ) → ((t : ℕ) → In (merged_into c es cs) t → t < w)
    → count_of is_set (cells_from (λ i. is_in i (anonymous_in es (merged_into c es cs))) 0 w) ≡ count_of is_anonymous es
anonymous-count c [] cs w b = unset 0 w
anonymous-count c (e ∷ es) cs w b = go (anonymous-count c es (enter c e cs) w (λ t h. b t (rw h (or-true (eqb t k))))) (is_anonymous e) refl
  where
    k : ℕ
    k = column_of_parent c e cs

    rest : List ℕ
    rest = anonymous_in es (merged_into c es (enter c e cs))

    go : count_of is_set (cells_from (λ i. is_in i rest) 0 w) ≡ count_of is_anonymous es
        → (a : Bool) → is_anonymous e ≡ a → count_of is_set (cells_from (λ i. is_in i (cond a (k ∷ rest) rest)) 0 w) ≡ cond a 1 0 + count_of is_anonymous es
    go more true q =
        place-more (λ i. is_in i rest) k 0 w (anonymous-out es (merged_into c es (enter c e cs)) k (blocked-unmerged c es (enter c e cs) k (anonymous-blocks c e cs q))) (omega arith)
        (omega (arith, b k (rw (eq-eqb k k refl))))
        ∙ ap (λ (n : ℕ). 1 + n) more
    go more false q = omega (arith, more)
