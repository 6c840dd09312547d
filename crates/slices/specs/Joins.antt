-- Bytes put together from parts, and bytes written over the start of an output.
use Rattle.std.specs.Prelude.{ℕ, ◌≡◌, cond, List, [], ◌∷◌, ◌++◌, leb, length, drop}

-- the bytes of each element, one after the other
abbrev pub joins : {A : Type 0} → (A → List ℕ) → List A → List ℕ
joins f [] = []
joins f (x ∷ xs) = f x ++ joins f xs

-- "Success writes a prefix of the output and nothing behind it." (01)
abbrev pub over : List ℕ → List ℕ → List ℕ
over bs out = bs ++ drop (length bs) out

-- what a writer of bytes promises: where they fit, their count, and that they are written over the start of the output; else 0, and the output as it was
pub record Writes (bs before after : List ℕ) (r : ℕ) : Type 0 where
  pub count : r ≡ cond (leb (length bs) (length before)) (length bs) 0
  pub output : after ≡ cond (leb (length bs) (length before)) (over bs before) before
