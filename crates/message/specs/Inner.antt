-- What the inner functions of a message give.
use Rattle.std.specs.Prelude.{ℕ, suc, ◌+◌, Bool, cond, List, [], ◌∷◌, eqb, take, drop}
use Rattle.slices.specs.Characters.{newline, blank}
use Rattle.message.specs.Message.{line_length}

-- whether a byte ends a line
abbrev pub is_end : ℕ → Bool
is_end b = eqb b newline

-- whether a byte is a blank
abbrev pub is_blank : ℕ → Bool
is_blank b = eqb b blank

-- the count of line ends
abbrev pub ends : List ℕ → ℕ
ends [] = 0
ends (b ∷ bs) = cond (eqb b newline) 1 0 + ends bs

-- the bytes whose line ends are counted at once
abbrev pub block_length : ℕ
block_length = 64

-- the first line: the bytes before the first 0A
abbrev pub first_line : List ℕ → List ℕ
first_line m = take (line_length m) m

-- what is behind the first line and its 0A
abbrev pub other_lines : List ℕ → List ℕ
other_lines m = drop (suc (line_length m)) m
