-- A number's digits, as std writes them, are those of the definition: at most twenty.
use Rattle.std.proofs.Common.{◌≡◌, ℕ, zero, suc, ◌*◌, ◌/◌, ◌%◌, ◌+◌, ◌-◌, ◌<◌, ◌≤◌, ◌^◌, Bool, true, false, List, [], ◌∷◌, ◌++◌, ltb, decimal, refl, sym, ap, ◌∙◌, arith}
use borrow.Author.Tests.{ltb-true, ltb-false}
use Rattle.std.proofs.lemmas.Fmt.{decimal_digit, decimal_step}
use Rattle.steps.specs.Steps.{decimal_in, most_digits}
use Rattle.steps.proofs.LineBytes.{decimal_digit as in-digit, decimal-more}

-- what a digit and so many more can write is below this
abbrev bound : ℕ → ℕ
bound zero = 10
bound (suc k) = 10 * bound k

one-digit : (k n : ℕ) → n < 10 → decimal n ≡ decimal_in (suc k) n
one-digit k n h = decimal_digit n h ∙ sym (in-digit (suc k) n (λ e. omega (arith, e)) h)

digits-in : (k n : ℕ) → n < bound k → n < 2 ^ 64 → decimal n ≡ decimal_in (suc k) n
digits-in zero n h m = one-digit zero n h
digits-in (suc k) n h m = go (ltb n 10) refl (λ l. digits-in k (n / 10) (omega (arith, h)) (omega (arith, m)))
  where
    z : suc (suc k) ≡ 0 → ⊥
    z e = omega (arith, e)

    less : suc (suc k) - 1 ≡ suc k
    less = omega arith

    go : (t : Bool) → ltb n 10 ≡ t → (10 ≤ n → decimal (n / 10) ≡ decimal_in (suc k) (n / 10)) → decimal n ≡ decimal_in (suc (suc k)) n
    go true e rest = one-digit (suc k) n (ltb-true n 10 e)
    go false e rest =
        let l : 10 ≤ n = ltb-false n 10 e in
        decimal_step n l m ∙ ap (λ (d : List ℕ). d ++ ((0x30 + n % 10) ∷ [])) (rest l) ∙ ap (λ (j : ℕ). decimal_in j (n / 10) ++ ((0x30 + n % 10) ∷ [])) (sym less)
        ∙ sym (decimal-more (suc (suc k)) n z l)

pub digits-are : (n : ℕ) → n < 2 ^ 64 → decimal n ≡ decimal_in most_digits n
digits-are n m = digits-in 19 n (omega (arith, m)) m
