-- Laws of the walk over the records: a turn, and its ends.
use Prim.Native.Nat.{ℕ, ◌+◌, ◌-◌, ◌<◌, ◌≤◌}
use mathlib.Core.Path.{◌≡◌, refl, ◌∙◌}
use mathlib.Core.Bool.{Bool}
use mathlib.Core.List.{List, ◌++◌}
use native.Mathlib.Omega.{arith}
use lib.ListN.{length, get_or, take, drop}
use Rattle.std.specs.Prelude.{Some, None}
use Rattle.shaper.specs.Shaper.{View}
use Rattle.output.specs.Output.{TextView}
use Rattle.slices.proofs.OverLaws.{part_length, part_room}
use Rattle.whole_history.specs.Whole.{State, place_after, Whole, rows_of, Turn, Makes, step_of}
use Rattle.whole_history.proofs.RunLaws.{part-lent, part-back, part_same, run_ends, run-goes, run-stops}

-- the loop's invariant: what is left to do from here gives the whole
pub record Left (turn : Turn) (kept : Bool) (whole : List (List ℕ)) (out₀ : List ℕ) (v : View) (t : TextView) (from rows : ℕ) (out : List ℕ) (w : Whole) : Type 0 where
  pub within : from ≤ length out
  pub long : length out ≡ length out₀
  pub rest : rows_of (step_of turn kept) rows (drop rows whole) (record { view = v; text = t; from = from; output = out }) ≡ w

module _ {turn : Turn} {kept : Bool} {whole : List (List ℕ)} {out₀ : List ℕ} {v : View} {t : TextView} {from rows : ℕ} {out : List ℕ} {w : Whole}
    (l : Left turn kept whole out₀ v t from rows out w) where
  abbrev here : State
  here = record { view = v; text = t; from = from; output = out }

  abbrev lent : List ℕ
  lent = take (length out - from) (drop from out)

  abbrev back : List ℕ → List ℕ
  back p = take from out ++ (p ++ drop (length out - from) (drop from out))

  pub walk-ends : length whole ≤ rows → w ≡ record { rows = rows; output = out }
  walk-ends h = run_ends (step_of turn kept) whole rows here l.rest h

  module _ (d : List ℕ) (h : rows < length whole) where
    pub walk-stops : {p : List ℕ} → (turn v t (get_or whole rows d) lent ≡ None) × (p ≡ lent) → w ≡ record { rows = rows; output = back p }
    walk-stops m =
        run-stops (step_of turn kept) whole rows here l.rest d h (rw (← part-lent out from, m.0) refl) (part_same out from (m.1 ∙ part-lent out from))

    module _ {v' : View} {t' : TextView} {p : List ℕ} {n : ℕ} (m : Makes (turn v t (get_or whole rows d) lent) v' t' lent p (Some n)) (x : length p ≡ length lent) where
      pub walk-fits : from + n ≤ length out
      walk-fits = omega (arith, l.within, x, part_room out from, m.1)

      pub walk-goes : {turn' : Turn} → turn' ≡ turn → (k : ℕ) → k ≡ place_after kept from n → k ≤ from + n → Left turn' kept whole out₀ v' t' k (rows + 1) (back p) w
      walk-goes {turn'} same k e y =
          let o : length (back p) ≡ length out = part_length out p from x l.within in
          record {
            within = omega (arith, walk-fits);
            long = o ∙ l.long;
            rest = rw (same, part-back out p from, e)
                (run-goes (step_of turn kept) whole rows here l.rest d h (rw (← part-lent out from, m.0) refl));
          }
