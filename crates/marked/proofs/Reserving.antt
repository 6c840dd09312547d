-- Theorems about the definition of the reserving call: what 01 rules out ("no column left" with columns free), and that a reservation holds its id.
use Prim.Native.Nat.{ℕ, zero, suc, ◌<◌}
use mathlib.Core.Path.{◌≡◌, refl, ◌∙◌, sym}
use mathlib.Core.Bool.{Bool, true, false, false≢true}
use mathlib.Core.List.{List, [], ◌∷◌}
use mathlib.Core.Logic.{◌⊎◌, inl, inr}
use native.Mathlib.Omega.{arith}
use lib.ListN.{length, get_or}
use borrow.Author.Tests.{eq-eqb, lt-leb}
use Rattle.std.specs.Prelude.{Some, None}
use Rattle.std.proofs.lemmas.Option.{none-some}
use Rattle.column.specs.declared.Column.{Column}
use Rattle.column.specs.declared.Column.TheVariants.{Empty, Blocked, Reserved}
use Rattle.column.specs.Found.{Found}
use Rattle.column.specs.Columns.{column_limit, holds, is_empty, next, first, find, vacant, put}
use Rattle.render.specs.Refusals.{refusal}
use Rattle.shaper.specs.Shaper.{View, reserve_checks, reserved_in, reserve}

-- a column is free: fewer than 64 are held, or one of them is Empty
abbrev pub Free : List Column → Type 0
Free cs = (length cs < column_limit) ⊎ ((i : ℕ) × (get_or cs i Blocked ≡ Empty))

abbrev pub Found-in : ℕ → List Column → Type 0
Found-in n cs = (i : ℕ) × (find n cs ≡ Some i)

-- ---- a test that passes somewhere is found somewhere
next-found : (f : Found) → ((i : ℕ) × (f ≡ Some i)) → (i : ℕ) × (next f ≡ Some i)
next-found f (i, e) = (suc i, rw e)

cons-found : (p : Column → Bool) (c : Column) (cs : List Column) (b : Bool) → p c ≡ b → (p c ≡ false → (i : ℕ) × (first p cs ≡ Some i)) → (i : ℕ) × (first p (c ∷ cs) ≡ Some i)
cons-found p c cs true e r = (0, rw e)
cons-found p c cs false e r = let t = next-found (first p cs) (r e) in (t.0, rw e t.1)

empty-found : (cs : List Column) (i : ℕ) → get_or cs i Blocked ≡ Empty → (j : ℕ) × (first is_empty cs ≡ Some j)
empty-found [] i e = absurd cc
empty-found (c ∷ cs) zero e = cons-found is_empty c cs true (rw e) (λ q. let z : is_empty c ≡ true = rw e in absurd (false≢true (sym q ∙ z)))
empty-found (c ∷ cs) (suc i) e = cons-found is_empty c cs (is_empty c) refl (λ q. empty-found cs i e)

put-found : (p : Column → Bool) (cs : List Column) (i : ℕ) (c : Column) → p c ≡ true → (j : ℕ) × (first p (put cs i c) ≡ Some j)
put-found p [] zero c h = (0, rw h)
put-found p [] (suc i) c h = cons-found p Empty (put [] i c) (p Empty) refl (λ q. put-found p [] i c h)
put-found p (d ∷ cs) zero c h = (0, rw h)
put-found p (d ∷ cs) (suc i) c h = cons-found p d (put cs i c) (p d) refl (λ q. put-found p cs i c h)

-- ---- the two theorems
module _ (v : View) (n : ℕ) where
  abbrev cs : List Column
  cs = v.columns

  free-refuses-none : (f : Found) → find n cs ≡ f → (g : Found) → first is_empty cs ≡ g → Free cs → refusal (reserve_checks n cs) ≡ 0
  free-refuses-none (Some i) e g q h = rw e
  free-refuses-none None e (Some i) q h = rw (e, q)
  free-refuses-none None e None q (inl h) = rw (e, q, lt-leb column_limit (length cs) h)
  free-refuses-none None e None q (inr (i, h)) = let t = empty-found cs i h in absurd (none-some t.0 (sym q ∙ t.1))

  -- a reservation with a column free is accepted (01, "What a contract here must settle", 3)
  pub free-accepted : Free cs → (reserve v n).refusal ≡ 0
  unfolding reserve
  free-accepted h = rw (free-refuses-none (find n cs) refl (first is_empty cs) refl h)

  held_after : (f : Found) → find n cs ≡ f → Found-in n (reserved_in f n cs)
  held_after (Some i) e = (i, e)
  held_after None e = put-found (holds n) cs (vacant cs) (Reserved n) (eq-eqb n n refl)

  accepted-held : (r : ℕ) → refusal (reserve_checks n cs) ≡ r → (reserve v n).refusal ≡ 0 → Found-in n (reserve v n).view.columns
  unfolding reserve
  accepted-held zero q h = rw q (held_after (find n cs) refl)
  accepted-held (suc r) q h = let z : suc r ≡ 0 = rw q at h in absurd (omega arith)

  -- a reservation that is accepted makes its id held
  pub accepted-holds : (reserve v n).refusal ≡ 0 → Found-in n (reserve v n).view.columns
  accepted-holds = accepted-held (refusal (reserve_checks n cs)) refl
