-- A message: the bytes that it may hold, its lines, and blanks at the end of a line.
use Rattle.std.specs.Prelude.{ℕ, suc, Bool, true, cond, ◌&&◌, ◌||◌, List, [], ◌∷◌, eqb, leb}
use Rattle.slices.specs.Characters.{newline, blank}

-- "message above 512 bytes" (01, the table's row for text)
abbrev pub message_limit : ℕ
message_limit = 512

-- a printable byte: 20 to 7E (01, the table's row for text)
abbrev pub is_printable : ℕ → Bool
is_printable b = leb 0x20 b && leb b 0x7e

-- "message byte not 0A or 20 to 7E" (01, the table's row for text)
abbrev pub is_writable : ℕ → Bool
is_writable b = eqb b newline || is_printable b

-- whether each byte passes a test
abbrev pub all_of : (ℕ → Bool) → List ℕ → Bool
all_of t [] = true
all_of t (b ∷ bs) = t b && all_of t bs

-- a byte in front of the first line, which is a new one where there is none
abbrev pub onto : ℕ → List (List ℕ) → List (List ℕ)
onto b [] = (b ∷ []) ∷ []
onto b (l ∷ ls) = (b ∷ l) ∷ ls

-- the lines (`lines` of Rust's str, which pad.rs pads): 0A ends one, and there is none after the last 0A
abbrev pub lines_of : List ℕ → List (List ℕ)
lines_of [] = []
lines_of (b ∷ bs) = cond (eqb b newline) ([] ∷ lines_of bs) (onto b (lines_of bs))

-- the count of bytes before the first 0A (`lines` of Rust's str)
abbrev pub line_length : List ℕ → ℕ
line_length [] = 0
line_length (b ∷ bs) = cond (eqb b newline) 0 (suc (line_length bs))

-- a byte in front of what is left, where a blank with nothing behind it goes
abbrev pub keep_last : ℕ → List ℕ → List ℕ
keep_last b [] = cond (eqb b blank) [] (b ∷ [])
keep_last b (c ∷ cs) = b ∷ c ∷ cs

-- without the blanks at the end (`trim_end` in output.rs, of the bytes that a line can hold here)
abbrev pub trim_end : List ℕ → List ℕ
trim_end [] = []
trim_end (b ∷ bs) = keep_last b (trim_end bs)
