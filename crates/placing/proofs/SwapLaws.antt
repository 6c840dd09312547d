-- What the swap gives, on slots and on who draws, in the words of the definitions in specs/Placing.antt.
use Prim.Native.Nat.{ℕ, zero, suc, ◌<◌}
use mathlib.Core.Path.{◌≡◌, refl, ap, ◌∙◌, sym}
use mathlib.Core.Bool.{Bool, true, false, cond, ◌&&◌, false≢true}
use mathlib.Core.List.{List, [], ◌∷◌}
use native.Mathlib.Omega.{arith}
use lib.Dec.{ltb, eqb}
use lib.ListN.{length, get_or, set, length-set}
use lib.Seq.{get_or-set_same, get_or-set_other}
use borrow.Author.Tests.{ltb-true, ne_eqb, eqb-true, eqb-false}
use Rattle.column.specs.declared.Column.{Column}
use Rattle.column.specs.declared.Column.TheVariants.{Empty}
use Rattle.std.specs.Prelude.{Some, None, unwrap_or}
use Rattle.column.specs.declared.Slot.{Slot}
use Rattle.column.specs.Found.{Found}
use Rattle.column.specs.Columns.{column_limit, is_named, merge, at, put, live, empty_slot}
use Rattle.slices.proofs.Front.{length_front, front-set}
use Rattle.column.proofs.Laws.{column_of as slot_column, live_at, put-set}
use Rattle.column.proofs.Positions.{at-put-same, at-put-other, length-put}
use Rattle.render.specs.declared.render.Ancestor.{Ancestor as Entry}
use Rattle.render.specs.declared.render.Ancestor.TheVariants.{Ancestor as Indirect, Parent as Direct, Anonymous}
use Rattle.links.specs.declared.Drawn.{Drawn}
use Rattle.links.specs.declared.Drawn.TheVariants as drawn
use Rattle.links.specs.Links.{is_at}
use Rattle.links.specs.Inner.{kind_at}
use Rattle.placing.specs.Placing.{column_of, column_of_parent, enter, walk, gave_up, swapped, Met, Nobody, By, kind_of, met_by, draws_at, source, line_origin}
use Rattle.placing.proofs.PlacingLaws.{walk_more, Gone, Carrying}

-- a value stored where it stands changes nothing, twice
set_back : {A : Type 0} (l : List A) (i : ℕ) (d : A) → set (set l i (get_or l i d)) i (get_or l i d) ≡ l
set_back [] i d = refl
set_back (x ∷ l) zero d = refl
set_back {A} (x ∷ l) (suc i) d = ap (λ (r : List A). x ∷ r) (set_back l i d)

-- the column given up, if any, is one of those after the walk
up-inside : (c : ℕ) (es : List Entry) (bs : List Column) → c < length bs → unwrap_or (gave_up c es bs) c < length (walk c es bs)
up-inside c [] bs h = h
up-inside c (e ∷ []) bs h = go (ltb c (column_of_parent c e bs))
  where
    k : ℕ
    k = column_of_parent c e bs

    l : length (enter c e bs) ≡ length (put bs k (merge (at bs k) (column_of e)))
    l = refl

    go : (b : Bool) → unwrap_or (cond b (Some k) None) c < length (enter c e bs)
    go true = omega (arith, length-put bs k (merge (at bs k) (column_of e)))
    go false = omega (arith, length-put bs k (merge (at bs k) (column_of e)))
up-inside c (e ∷ f ∷ es) bs h = omega (arith, walk_more c (e ∷ f ∷ es) bs)

-- a column that is given up lies right of the node's
pub up_right : (c : ℕ) (es : List Entry) (bs : List Column) (p : ℕ) → gave_up c es bs ≡ Some p → c < p
up_right c [] bs p u = let z : ◌≡◌ {A = ℕ} 0 1 = cc in absurd (omega arith)
up_right c (e ∷ []) bs p u = go (ltb c (column_of_parent c e bs)) refl u
  where
    go : (b : Bool) → ltb c (column_of_parent c e bs) ≡ b → cond b (Some (column_of_parent c e bs)) None ≡ Some p → c < p
    go true q z = let y : column_of_parent c e bs ≡ p = cc in omega (arith, ltb-true c (column_of_parent c e bs) q)
    go false q z = let y : ◌≡◌ {A = ℕ} 0 1 = cc in absurd (omega arith)
up_right c (e ∷ f ∷ es) bs p u = let z : ◌≡◌ {A = ℕ} 0 1 = cc in absurd (omega arith)

-- in a swap the node's column is Empty after the walk
pub left-empty : (c : ℕ) (es : List Entry) (bs : List Column) (p : ℕ) → gave_up c es bs ≡ Some p → at bs c ≡ Empty → at (walk c es bs) c ≡ Empty
left-empty c [] bs p u h = h
left-empty c (e ∷ []) bs p u h = at-put-other bs k (merge (at bs k) (column_of e)) c beside ∙ h
  where
    k : ℕ
    k = column_of_parent c e bs

    given : (b : Bool) → cond b (Some k) None ≡ Some p → k ≡ p
    given true z = cc
    given false z = let y : ◌≡◌ {A = ℕ} 0 1 = cc in absurd (omega arith)

    beside : c ≡ k → ⊥
    beside z = omega (arith, z, given (ltb c k) u, up_right c (e ∷ []) bs p u)
left-empty c (e ∷ f ∷ es) bs p u h = let z : ◌≡◌ {A = ℕ} 0 1 = cc in absurd (omega arith)

-- the row's single entry, by the code's test
pub gave-up : (c : ℕ) (es : List Entry) (bs : List Column) (n last : ℕ) (r : Found) → n ≡ length es
    → ((e : Entry) → es ≡ e ∷ [] → last ≡ column_of_parent c e bs) → r ≡ cond (eqb n 1 && ltb c last) (Some last) None → r ≡ gave_up c es bs
gave-up c [] bs n last r e k q = rw e at q
gave-up c (a ∷ []) bs n last r e k q = q ∙ rw (e, k a refl)
gave-up c (a ∷ b ∷ es) bs n last r e k q = q ∙ rw (e, ne_eqb (suc (suc (length es))) 1 (λ z. omega arith))

module _ (bs : List Column) (c : ℕ) (es : List Entry) (slots : List Slot) (count : ℕ) (parents : List Drawn) (last : ℕ) (said : Bool)
    (g : Gone bs c es slots count parents last said) (inside : c < length bs) where
  abbrev up : Found
  up = gave_up c es bs

  abbrev ws : List Column
  ws = walk c es bs

  -- the column that changes places with the node's: the one given up, else its own
  abbrev other : ℕ
  other = unwrap_or up c

  count-is : count ≡ length ws
  count-is =
      let z : length (live count slots) ≡ length ws = ap length g.columns in
      omega (arith, length_front slot_column count slots, g.long, g.fits)

  pub other-inside : other < length ws
  other-inside = up-inside c es bs inside

  node-inside : c < length ws
  node-inside = omega (arith, walk_more c es bs)

  pub width_is : count ≡ length ws
  width_is = count-is

  last_of : (e : Entry) → es ≡ e ∷ [] → last ≡ column_of_parent c e bs
  last_of e q = rw q at g.last-is

  pub up_is : (n : ℕ) (r : Found) → n ≡ length es → r ≡ cond (eqb n 1 && ltb c last) (Some last) None → r ≡ up
  up_is n r e q = gave-up c es bs n last r e last_of q

  slot_at : (i : ℕ) → i < length ws → (get_or slots i empty_slot).column ≡ at ws i
  slot_at i h = sym (live_at count slots i (omega (arith, count-is)) (omega (arith, count-is, g.long, g.fits))) ∙ ap (λ (x : List Column). at x i) g.columns

  -- the slots after two stores
  abbrev pub moved : List Slot
  moved = set (set slots c (get_or slots other empty_slot)) other (get_or slots c empty_slot)

  pub moved-long : length moved ≡ column_limit
  moved-long = length-set (set slots c (get_or slots other empty_slot)) other (get_or slots c empty_slot) ∙ length-set slots c (get_or slots other empty_slot) ∙ g.long

  stored : live count moved ≡ set (set ws c (at ws other)) other (at ws c)
  stored =
      front-set slot_column count (set slots c (get_or slots other empty_slot)) other (get_or slots c empty_slot)
      ∙ ap (λ (x : List Column). set x other (get_or slots c empty_slot).column) (front-set slot_column count slots c (get_or slots other empty_slot))
      ∙ rw (g.columns, slot_at other other-inside, slot_at c node-inside)

  swapped-by : (f : Found) → unwrap_or f c < length ws → set (set ws c (at ws (unwrap_or f c))) (unwrap_or f c) (at ws c) ≡ swapped f c ws
  swapped-by None h = set_back ws c Empty
  swapped-by (Some p) h =
      sym (put-set (set ws c (at ws p)) p (at ws c) (rw (length-set ws c (at ws p)) h))
      ∙ ap (λ (x : List Column). put x p (at ws c)) (sym (put-set ws c (at ws p) node-inside))

  pub moved-is : live count moved ≡ swapped up c ws
  moved-is = stored ∙ swapped-by up other-inside

  -- who draws after two stores
  abbrev pub redrawn : List Drawn
  redrawn = set (set parents other drawn.Nobody) c (get_or parents other drawn.Nobody)

  pub redrawn-long : length redrawn ≡ column_limit
  redrawn-long = length-set (set parents other drawn.Nobody) c (get_or parents other drawn.Nobody) ∙ length-set parents other drawn.Nobody ∙ g.wide

  node-there : c < length (set parents other drawn.Nobody)
  node-there = rw (length-set parents other drawn.Nobody, g.wide) (omega (arith, node-inside, count-is, g.fits))

  other-there : other < length parents
  other-there = rw g.wide (omega (arith, other-inside, count-is, g.fits))

  -- in the node's column, in the other one, in any other
  drawn-here : kind_at redrawn c ≡ kind_at parents other
  drawn-here = get_or-set_same (set parents other drawn.Nobody) c (get_or parents other drawn.Nobody) drawn.Nobody node-there

  drawn-there : (i : ℕ) → eqb i c ≡ false → eqb i other ≡ true → kind_at redrawn i ≡ drawn.Nobody
  drawn-there i q r =
      get_or-set_other (set parents other drawn.Nobody) c i (get_or parents other drawn.Nobody) drawn.Nobody (eqb-false i c q)
      ∙ rw (eqb-true i other r) (get_or-set_same parents other drawn.Nobody drawn.Nobody other-there)

  drawn-else : (i : ℕ) → eqb i c ≡ false → eqb i other ≡ false → kind_at redrawn i ≡ kind_at parents i
  drawn-else i q r =
      get_or-set_other (set parents other drawn.Nobody) c i (get_or parents other drawn.Nobody) drawn.Nobody (eqb-false i c q)
      ∙ get_or-set_other parents other i drawn.Nobody drawn.Nobody (eqb-false i other r)

  -- only a single entry gives a column up, and then it alone draws
  single : (p : ℕ) → up ≡ Some p → (i : ℕ) → eqb i p ≡ false → met_by i c es bs Nobody ≡ Nobody
  single p q i r = alone es q
    where
      one : (e : Entry) (b : Bool) → cond b (Some (column_of_parent c e bs)) None ≡ Some p → column_of_parent c e bs ≡ p
      one e true z = cc
      one e false z = let y : ◌≡◌ {A = ℕ} 0 1 = cc in absurd (omega arith)

      alone : (xs : List Entry) → gave_up c xs bs ≡ Some p → met_by i c xs bs Nobody ≡ Nobody
      alone [] z = refl
      alone (e ∷ []) z = rw (one e (ltb c (column_of_parent c e bs)) z, r)
      alone (e ∷ f ∷ xs) z = let y : ◌≡◌ {A = ℕ} 0 1 = cc in absurd (omega arith)

  pub redrawn-is : (i : ℕ) → kind_at redrawn i ≡ kind_of (draws_at up c es bs i)
  redrawn-is i = go up refl (eqb i c) refl (eqb i other) refl
    where
      go : (f : Found) → up ≡ f → (a : Bool) → eqb i c ≡ a → (b : Bool) → eqb i other ≡ b → kind_at redrawn i ≡ kind_of (draws_at f c es bs i)
      go None u true q b r =
          let e : i ≡ c = eqb-true i c q in
          let o : other ≡ c = rw u in
          rw e (drawn-here ∙ rw o (g.kinds c))
      go None u false q true r =
          let o : other ≡ c = rw u in
          let z : eqb i c ≡ true = rw o at r in
          let y : ◌≡◌ {A = Bool} true false = sym z ∙ q in
          let t : ◌≡◌ {A = ℕ} 0 1 = cc in
          absurd (omega arith)
      go None u false q false r = drawn-else i q r ∙ g.kinds i
      go (Some p) u true q b r =
          let e : i ≡ c = eqb-true i c q in
          let o : other ≡ p = rw u in
          rw (q, e) (drawn-here ∙ rw o (g.kinds p))
      go (Some p) u false q true r = rw q (drawn-there i q r)
      go (Some p) u false q false r =
          let w : other ≡ p = rw u in
          let o : eqb i p ≡ false = rw w at r in
          rw q (drawn-else i q r ∙ g.kinds i ∙ ap kind_of (single p u i o))

-- ---- columns in which nothing of the row ends

some-draws : (i c : ℕ) (es : List Entry) (cs : List Column) (e : Entry) → met_by i c es cs (By e) ≡ Nobody → ⊥
some-draws i c [] cs e h = let z : ◌≡◌ {A = ℕ} 0 1 = cc in omega arith
some-draws i c (f ∷ es) cs e h = go (eqb i (column_of_parent c f cs)) refl (some-draws i c es (enter c f cs))
  where
    go : (b : Bool) → eqb i (column_of_parent c f cs) ≡ b → ((g : Entry) → met_by i c es (enter c f cs) (By g) ≡ Nobody → ⊥) → ⊥
    go true q r = r f (rw q at h)
    go false q r = r e (rw q at h)

-- a column that no entry met is as it was
walk_kept : (i c : ℕ) (es : List Entry) (cs : List Column) → met_by i c es cs Nobody ≡ Nobody → at cs i ≡ at (walk c es cs) i
walk_kept i c [] cs h = refl
walk_kept i c (e ∷ es) cs h = go (eqb i (column_of_parent c e cs)) refl (walk_kept i c es (enter c e cs))
  where
    go : (b : Bool) → eqb i (column_of_parent c e cs) ≡ b → (met_by i c es (enter c e cs) Nobody ≡ Nobody → at (enter c e cs) i ≡ at (walk c es (enter c e cs)) i) → at cs i ≡ at (walk c es (enter c e cs)) i
    go true q r = absurd (some-draws i c es (enter c e cs) e (rw q at h))
    go false q r = sym (at-put-other cs (column_of_parent c e cs) (merge (at cs (column_of_parent c e cs)) (column_of e)) i (eqb-false i (column_of_parent c e cs) q)) ∙ r (rw q at h)

-- after the swap too each named column carries its line's origin; x is the row's node, os what the columns before the entries carried
module _ (bs : List Column) (c : ℕ) (es : List Entry) (slots : List Slot) (count : ℕ) (parents : List Drawn) (last : ℕ) (said : Bool)
    (g : Gone bs c es slots count parents last said) (inside : c < length bs) (bare : at bs c ≡ Empty) (x : ℕ) (os : List ℕ) (w : Carrying x bs os slots count) where
  abbrev swap-up : Found
  swap-up = gave_up c es bs

  abbrev walked : List Column
  walked = walk c es bs

  abbrev after : List Slot
  after = moved bs c es slots count parents last said g inside

  -- a slot after the walk
  walked-carries : (i : ℕ) → is_named (at walked i) ≡ true → (get_or slots i empty_slot).origin ≡ line_origin x bs os i
  walked-carries i h = w.origin i (ap (λ (y : List Column). is_named (at y i)) g.columns ∙ h)

  pub moved-carries : (i : ℕ) → is_named (at (swapped swap-up c walked) i) ≡ true → (get_or after i empty_slot).origin ≡ line_origin x bs os (source swap-up c i)
  moved-carries i h = go swap-up refl h
    where
      long : length slots ≡ column_limit
      long = g.long

      node-within : c < length slots
      node-within = rw long (omega (arith, walk_more c es bs, width_is bs c es slots count parents last said g inside, g.fits))

      go : (f : Found) → swap-up ≡ f → is_named (at (swapped f c walked) i) ≡ true → (get_or after i empty_slot).origin ≡ line_origin x bs os (source f c i)
      go None u k =
          let o : unwrap_or swap-up c ≡ c = ap (λ (y : Found). unwrap_or y c) u in
          let s : after ≡ slots = rw o (set_back slots c empty_slot) in
          ap (λ (y : List Slot). (get_or y i empty_slot).origin) s ∙ walked-carries i k
      go (Some p) u k = at_place (eqb i c) refl (eqb i p) refl
        where
          o : unwrap_or swap-up c ≡ p
          o = ap (λ (y : Found). unwrap_or y c) u

          right : c < p
          right = up_right c es bs p u

          p-within : p < length slots
          p-within = rw long (omega (arith, o, other-inside bs c es slots count parents last said g inside, width_is bs c es slots count parents last said g inside, g.fits))

          after_is : after ≡ set (set slots c (get_or slots p empty_slot)) p (get_or slots c empty_slot)
          after_is = rw o

          at_place : (a : Bool) → eqb i c ≡ a → (b : Bool) → eqb i p ≡ b → (get_or after i empty_slot).origin ≡ line_origin x bs os (source (Some p) c i)
          at_place true q b r =
              let e : i ≡ c = eqb-true i c q in
              let n : c ≡ p → ⊥ = λ z. omega (arith, z, right) in
              let s : at (swapped (Some p) c walked) c ≡ at walked p = at-put-other (put walked c (at walked p)) p (at walked c) c n ∙ at-put-same walked c (at walked p) in
              rw (q, after_is)
              (rw e (ap (λ (y : Slot). y.origin) (get_or-set_other (set slots c (get_or slots p empty_slot)) p c (get_or slots c empty_slot) empty_slot n ∙ get_or-set_same slots c (get_or slots p empty_slot) empty_slot node-within))
              ∙ walked-carries p (sym (ap is_named s) ∙ (ap (λ (y : ℕ). is_named (at (swapped (Some p) c walked) y)) (sym e) ∙ k)))
          at_place false q true r =
              let e : i ≡ p = eqb-true i p r in
              let s : at (swapped (Some p) c walked) p ≡ at walked c = at-put-same (put walked c (at walked p)) p (at walked c) in
              absurd (false≢true (sym (ap is_named (s ∙ left-empty c es bs p u bare)) ∙ (ap (λ (y : ℕ). is_named (at (swapped (Some p) c walked) y)) (sym e) ∙ k)))
          at_place false q false r =
              let n : i ≡ c → ⊥ = eqb-false i c q in
              let m : i ≡ p → ⊥ = eqb-false i p r in
              let s : at (swapped (Some p) c walked) i ≡ at walked i = at-put-other (put walked c (at walked p)) p (at walked c) i m ∙ at-put-other walked c (at walked p) i n in
              rw (q, after_is)
              (ap (λ (y : Slot). y.origin) (get_or-set_other (set slots c (get_or slots p empty_slot)) p i (get_or slots c empty_slot) empty_slot m ∙ get_or-set_other slots c i (get_or slots p empty_slot) empty_slot n)
              ∙ walked-carries i (sym (ap is_named s) ∙ k))

-- neither the entries nor the swap change a column in which nobody draws, but for the node's and the one given up
pub settled-kept : (i c : ℕ) (es : List Entry) (cs : List Column) → draws_at (gave_up c es cs) c es cs i ≡ Nobody → eqb i c ≡ false → is_at (gave_up c es cs) i ≡ false
    → at cs i ≡ at (swapped (gave_up c es cs) c (walk c es cs)) i
settled-kept i c [] cs d n g = refl
settled-kept i c (e ∷ []) cs d n g = go (ltb c (column_of_parent c e cs)) refl
  where
    k : ℕ
    k = column_of_parent c e cs

    ws : List Column
    ws = enter c e cs

    go : (b : Bool) → ltb c k ≡ b → at cs i ≡ at (swapped (cond b (Some k) None) c ws) i
    go true q =
        let m : eqb k i ≡ false = rw q at g in
        let o : i ≡ k → ⊥ = λ z. eqb-false k i m (sym z) in
        sym (at-put-other (put ws c (at ws k)) k (at ws c) i o ∙ at-put-other ws c (at ws k) i (eqb-false i c n) ∙ at-put-other cs k (merge (at cs k) (column_of e)) i o)
    go false q = walk_kept i c (e ∷ []) cs (rw q at d)
settled-kept i c (e ∷ f ∷ es) cs d n g = walk_kept i c (e ∷ f ∷ es) cs d

nobody-draws : (m : Met) → kind_of m ≡ drawn.Nobody → m ≡ Nobody
nobody-draws Nobody h = refl
nobody-draws (By (Indirect n)) h = let z : ◌≡◌ {A = ℕ} 0 1 = cc in absurd (omega arith)
nobody-draws (By (Direct n)) h = let z : ◌≡◌ {A = ℕ} 0 1 = cc in absurd (omega arith)
nobody-draws (By Anonymous) h = let z : ◌≡◌ {A = ℕ} 0 1 = cc in absurd (omega arith)

-- the same by the kind of who draws
pub kind-kept : (i c : ℕ) (es : List Entry) (cs : List Column) → kind_of (draws_at (gave_up c es cs) c es cs i) ≡ drawn.Nobody → eqb i c ≡ false → is_at (gave_up c es cs) i ≡ false
    → at cs i ≡ at (swapped (gave_up c es cs) c (walk c es cs)) i
kind-kept i c es cs d n h = settled-kept i c es cs (nobody-draws _ d) n h
