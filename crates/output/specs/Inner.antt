-- What the inner functions of output give.
use Rattle.std.specs.Prelude.{ℕ, Bool, false, ◌||◌, List, [], ◌∷◌, eqb}

-- whether a byte is one of some
abbrev pub among : ℕ → List ℕ → Bool
among c [] = false
among c (x ∷ xs) = eqb c x || among c xs

-- whether a sequence of more bytes than one may begin with a byte: a shift sequence or a box character
abbrev pub begins_more : ℕ → Bool
begins_more a = eqb a 0x1b || (eqb a 0xc2 || eqb a 0xe2)

-- the last bytes of the box characters that begin with E2 94
abbrev pub behind94 : List ℕ
behind94 = 0x80 ∷ 0x82 ∷ 0x86 ∷ 0x8c ∷ 0x90 ∷ 0x94 ∷ 0x98 ∷ 0x9c ∷ 0xa4 ∷ 0xac ∷ 0xb4 ∷ 0xbc ∷ []

-- and with E2 95
abbrev pub behind95 : List ℕ
behind95 = 0xad ∷ 0xae ∷ 0xaf ∷ 0xb0 ∷ 0xb7 ∷ []
