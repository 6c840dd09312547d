-- Laws of the table of link glyphs: each entry names the glyph of its nine facts, and each nine facts have their entry.
use mathlib.Core.Path.{◌≡◌, refl, sym, ap, ◌∙◌}
use mathlib.Core.Bool.{Bool, true, false}
use mathlib.Core.List.{List, ◌++◌}
use Prim.Native.Nat.{ℕ, ◌+◌, ◌*◌, ◌/◌, ◌%◌, ◌<◌}
use native.Mathlib.Nat.{zero-add}
use native.Mathlib.Omega.{arith}
use lib.Dec.{ltb, lit≤}
use lib.ListN.{length, get_or, replicate, get_or-replicate}
use lib.Seq.{get_or-append-add}
use borrow.Author.Tests.{ltb-true}
use Rattle.render.specs.Link.{only}
use Rattle.glyphs.specs.BoxDrawing.{Facts, box_link}
use Rattle.glyphs.specs.LinkTable.{link_place, odd, facts_at, Names, entry_at, named}
use Rattle.glyphs.proofs.CountedLaws.{counted, counted-in}

-- ---- the rule of the entries

-- the glyph of each entry's facts
abbrev pub ruled : ℕ → ℕ
ruled k = box_link (facts_at k)

-- entries that are, counted out, the glyphs of their facts: the test is computed over the whole table, and lifted to each entry
pub entry-names : (entries : List ℕ) → counted ruled 0 512 ≡ entries → Names (λ (k : ℕ). get_or entries k 0)
entry-names entries e k h = rw (← e) (sym (rw (zero-add k) at (counted-in ruled 0 0 512 k h)))

-- they may stand behind a set's glyphs
pub entry-behind : (glyphs entries : List ℕ) → length glyphs ≡ 144 → Names (λ (k : ℕ). get_or entries k 0) → Names (entry_at (glyphs ++ entries))
entry-behind glyphs entries long e k h =
    let n : 144 + k ≡ length glyphs + k = omega (arith, long) in
    rw n (get_or-append-add glyphs entries k 0 ∙ e k h)

-- the rule stays below TERMINATION and ANCESTOR-ONCE: one more test over the whole table
pub rule-low : (k : ℕ) → k < 512 → ruled k < 13
unfolding box_link
rule-low k h =
    let below : ℕ → Bool = λ k. ltb (ruled k) 13 in
    let all : counted below 0 512 ≡ replicate 512 true = refl in
    let e : below k ≡ get_or (counted below 0 512) k true = rw (zero-add k) at (counted-in below true 0 512 k h) in
    ltb-true (ruled k) 13 (e ∙ ap (λ (bs : List Bool). get_or bs k true) all ∙ get_or-replicate 512 k true true h)

-- so these stand in no entry
pub entry-low : (entry : ℕ → ℕ) → Names entry → (k : ℕ) → k < 512 → entry k < 13
entry-low entry e k h = rw (e k h) (rule-low k h)

-- ---- the facts of a place

-- nine digits, the lowest first
abbrev binary : ℕ → ℕ → ℕ → ℕ → ℕ → ℕ → ℕ → ℕ → ℕ → ℕ
binary a b c d e f g h i = a + 2 * b + 4 * c + 8 * d + 16 * e + 32 * f + 64 * g + 128 * h + 256 * i

record Digits (a b c d e f g h i n : ℕ) : Type 0 where
  low : n % 2 ≡ a
  second : n / 2 % 2 ≡ b
  third : n / 4 % 2 ≡ c
  fourth : n / 8 % 2 ≡ d
  fifth : n / 16 % 2 ≡ e
  sixth : n / 32 % 2 ≡ f
  seventh : n / 64 % 2 ≡ g
  eighth : n / 128 % 2 ≡ h
  ninth : n / 256 % 2 ≡ i
  within : n < 512

digits : (a b c d e f g h i n : ℕ) → a < 2 → b < 2 → c < 2 → d < 2 → e < 2 → f < 2 → g < 2 → h < 2 → i < 2 → n ≡ binary a b c d e f g h i → Digits a b c d e f g h i n
digits a b c d e f g h i n a₂ b₂ c₂ d₂ e₂ f₂ g₂ h₂ i₂ s =
    record {
      low = omega arith;
      second = omega arith;
      third = omega arith;
      fourth = omega arith;
      fifth = omega arith;
      sixth = omega arith;
      seventh = omega arith;
      eighth = omega arith;
      ninth = omega arith;
      within = omega arith;
    }

weighs : (b : Bool) (w : ℕ) → only b w ≡ w * only b 1
weighs true w = omega arith
weighs false w = omega arith

small : (b : Bool) → only b 1 < 2
small true = lit≤ tt
small false = lit≤ tt

odd-only : (n : ℕ) (b : Bool) → n % 2 ≡ only b 1 → odd n ≡ b
odd-only n true e = rw e
odd-only n false e = rw e

module _ (f : Facts) where
  read : Digits (only f.horizontal 1) (only f.vert_parent 1) (only f.vert_ancestor 1) (only f.left_fork 1) (only f.right_fork 1) (only f.left_merge 1)
      (only f.right_merge 1)
      (only f.child 1)
      (only f.merge 1)
      (link_place f)
  unfolding link_place
  read =
      digits _ _ _ _ _ _ _ _ _ _ (small f.horizontal) (small f.vert_parent) (small f.vert_ancestor) (small f.left_fork) (small f.right_fork) (small f.left_merge)
      (small f.right_merge)
      (small f.child)
      (small f.merge)
      (omega (arith, weighs f.vert_parent 2, weighs f.vert_ancestor 4, weighs f.left_fork 8, weighs f.right_fork 16, weighs f.left_merge 32, weighs f.right_merge 64, weighs f.child 128, weighs f.merge 256))

  -- the facts that select the place of nine facts are these: each combination has its entry
  pub facts-of-place : facts_at (link_place f) ≡ f
  facts-of-place =
      rw (
        odd-only _ f.horizontal read.low,
        odd-only _ f.vert_parent read.second,
        odd-only _ f.vert_ancestor read.third,
        odd-only _ f.left_fork read.fourth,
        odd-only _ f.right_fork read.fifth,
        odd-only _ f.left_merge read.sixth,
        odd-only _ f.right_merge read.seventh,
        odd-only _ f.child read.eighth,
        odd-only _ f.merge read.ninth,
      )

  pub place-within : link_place f < 512
  place-within = read.within

  -- so a table whose entries name the glyphs names the glyph of any nine facts
  pub names-facts : (table : List ℕ) → Names (entry_at table) → named table f ≡ box_link f
  names-facts table e = e (link_place f) place-within ∙ ap box_link facts-of-place

  pub link-low : box_link f < 13
  link-low = rw facts-of-place at (rule-low (link_place f) place-within)
