-- What copying one entry after the other comes to: a list of at most eight is copied whole, of a longer one there are too many.
use mathlib.Core.Path.{◌≡◌, refl, sym, ◌∙◌, ap}
use Prim.Native.Nat.{ℕ, zero, suc, ◌+◌, ◌-◌, ◌<◌, ◌≤◌}
use native.Mathlib.Nat.{zero-add, suc-add}
use native.Mathlib.Omega.{arith}
use mathlib.Core.Bool.{Bool, true, false, cond}
use mathlib.Core.List.{List, [], ◌∷◌, ◌++◌, append_assoc, append-nil}
use borrow.Author.Tests.{lt-leb, le-leb, ltb-true, ltb-false, le-ltb}
use lib.Dec.{leb}
use lib.ListN.{length, set, replicate, length-append, length-map}
use lib.Seq.{take_at, set_at}
use Rattle.render.specs.declared.render.Ancestor.TheVariants.{Anonymous}
use Rattle.render.specs.declared.render.Entry.{Entry}
use Rattle.render.specs.declared.render.Entries.{Entries}
use Rattle.render.specs.Entries.{entry_limit, is_too_many, overlong, listed, pushed, no_entries}
use Rattle.std.specs.List.{fold}
use Rattle.lineage.specs.Promises.{ancestors, Copies}

abbrev pub none : Entry
none = record { ancestor = Anonymous }

-- l, then k places that hold nothing
abbrev whole : List Entry → ℕ → Entries
whole l k = record { list = l ++ replicate k none; count = length l; too_many = false }

-- ---- one entry more
one-long : (p : List Entry) (e : Entry) → suc (length p) ≡ length (p ++ (e ∷ []))
one-long p e = rw (length-append p (e ∷ [])) (omega arith)

pairs : {x y : List Entry} {n m : ℕ} → x ≡ y → n ≡ m → ◌≡◌ {A = List Entry × ℕ} (x, n) (y, m)
pairs p q = cc

pushed-is : (p : List Entry) (m : ℕ) (e : Entry) → length p < entry_limit → pushed (whole p (suc m)) e ≡ whole (p ++ (e ∷ [])) m
pushed-is p m e l =
    rw (lt-leb entry_limit (length p) l)
    (ap (λ (x : List Entry × ℕ). record { list = x.0; count = x.1; too_many = false })
    (pairs (set_at p none (replicate m none) e (length p) refl ∙ sym (append_assoc p (e ∷ []) (replicate m none))) (one-long p e)))

-- ---- a list that there is room for
next : (a b c d : ℕ) → suc a ≡ d → a + (suc b + c) ≡ entry_limit → d + (b + c) ≡ entry_limit
next a b c d e h = omega arith

copied-from : (l p : List Entry) (k : ℕ) → length p + (length l + k) ≡ entry_limit → fold pushed (whole p (length l + k)) l ≡ whole (p ++ l) k
copied-from [] p k h = rw (zero-add k, append-nil p) refl
copied-from (e ∷ l) p k h =
    let z : length p < entry_limit = omega arith in
    ap (λ (m : ℕ). fold pushed (pushed (whole p m) e) l) (suc-add (length l) k)
    ∙ ap (λ (c : Entries). fold pushed c l) (pushed-is p (length l + k) e z)
    ∙ copied-from l (p ++ (e ∷ [])) k (next (length p) (length l) k (length (p ++ (e ∷ []))) (one-long p e) h)
    ∙ ap (λ (q : List Entry). whole q k) (append_assoc p (e ∷ []) l)

few : (l : List Entry) → length l ≤ entry_limit → fold pushed no_entries l ≡ whole l (entry_limit - length l)
few l h =
    let s : entry_limit ≡ length l + (entry_limit - length l) = omega arith in
    let z : 0 + (length l + (entry_limit - length l)) ≡ entry_limit = omega arith in
    ap (λ (m : ℕ). fold pushed (whole [] m) l) s ∙ copied-from l [] (entry_limit - length l) z

-- ---- a list that is longer
stays-many : (l : List Entry) (es : Entries) → es.too_many ≡ true → (fold pushed es l).too_many ≡ true
stays-many [] es h = h
stays-many (e ∷ l) es h = stays-many l (pushed es e) (go (leb entry_limit es.count))
  where
    go : (t : Bool) → (cond {A = Entries} t (record { list = es.list; count = es.count; too_many = true }) (record { list = set es.list es.count e; count = suc es.count; too_many = es.too_many })).too_many ≡ true
    go true = refl
    go false = h

copied-past : (l p : List Entry) (k : ℕ) → length p + k ≡ entry_limit → k < length l → (fold pushed (whole p k) l).too_many ≡ true
copied-past [] p k h g = absurd (omega arith)
copied-past (e ∷ l) p zero h g =
    let z : entry_limit ≤ length p = omega arith in
    stays-many l (pushed (whole p 0) e) (rw (le-leb entry_limit (length p) z) refl)
copied-past (e ∷ l) p (suc m) h g =
    let z : length p < entry_limit = omega arith in
    let a : length (p ++ (e ∷ [])) + m ≡ entry_limit = rw (← one-long p e) (omega arith) in
    let b : m < length l = omega arith in
    ap (λ (c : Entries). (fold pushed c l).too_many) (pushed-is p m e z) ∙ copied-past l (p ++ (e ∷ [])) m a b

-- ---- the copy
pub copies : (l : List Entry) (r : Entries) → r ≡ fold pushed no_entries l → Copies l r
copies l r e = go (is_too_many (ancestors l)) refl
  where
    same-long : length (ancestors l) ≡ length l
    same-long = length-map l (λ (a : Entry). a.ancestor)

    go : (t : Bool) → is_too_many (ancestors l) ≡ t → listed r ≡ cond t overlong (ancestors l)
    go true q =
        let h : entry_limit < length l = omega (arith, ltb-true entry_limit (length (ancestors l)) q, same-long) in
        let m : r.too_many ≡ true = ap (λ (c : Entries). c.too_many) e ∙ copied-past l [] entry_limit (omega arith) h in
        rw m
    go false q =
        let h : length l ≤ entry_limit = omega (arith, ltb-false entry_limit (length (ancestors l)) q, same-long) in
        rw (e ∙ few l h, le-ltb entry_limit (length l) h) (ap ancestors (take_at l (replicate (entry_limit - length l) none) (length l) refl))
