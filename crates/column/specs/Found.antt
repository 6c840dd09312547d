-- What a lookup gives.
use Rattle.std.specs.Prelude.{ℕ, Option}

-- a column's index, or nothing: an `Option<usize>` of the code
abbrev pub Found : Type 0
Found = Option ℕ
