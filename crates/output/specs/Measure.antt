-- The measure of a line in cells (02, R-2): "a box character .. is one cell, a DEC shift sequence .. none, every other byte of the line one".
use Rattle.std.specs.Prelude.{ℕ, zero, suc, ◌-◌, Bool, true, false, cond, ◌&&◌, List, [], ◌∷◌, eqb, ltb, length}

-- "any of the sets' characters above 7E": the bytes of each
abbrev pub box_characters : List (List ℕ)
box_characters =
    (0xc2 ∷ 0xb7 ∷ []) ∷  -- ·
    (0xe2 ∷ 0x94 ∷ 0x80 ∷ []) ∷  -- ─
    (0xe2 ∷ 0x94 ∷ 0x82 ∷ []) ∷  -- │
    (0xe2 ∷ 0x94 ∷ 0x86 ∷ []) ∷  -- ┆
    (0xe2 ∷ 0x94 ∷ 0x8c ∷ []) ∷  -- ┌
    (0xe2 ∷ 0x94 ∷ 0x90 ∷ []) ∷  -- ┐
    (0xe2 ∷ 0x94 ∷ 0x94 ∷ []) ∷  -- └
    (0xe2 ∷ 0x94 ∷ 0x98 ∷ []) ∷  -- ┘
    (0xe2 ∷ 0x94 ∷ 0x9c ∷ []) ∷  -- ├
    (0xe2 ∷ 0x94 ∷ 0xa4 ∷ []) ∷  -- ┤
    (0xe2 ∷ 0x94 ∷ 0xac ∷ []) ∷  -- ┬
    (0xe2 ∷ 0x94 ∷ 0xb4 ∷ []) ∷  -- ┴
    (0xe2 ∷ 0x94 ∷ 0xbc ∷ []) ∷  -- ┼
    (0xe2 ∷ 0x95 ∷ 0xad ∷ []) ∷  -- ╭
    (0xe2 ∷ 0x95 ∷ 0xae ∷ []) ∷  -- ╮
    (0xe2 ∷ 0x95 ∷ 0xaf ∷ []) ∷  -- ╯
    (0xe2 ∷ 0x95 ∷ 0xb0 ∷ []) ∷  -- ╰
    (0xe2 ∷ 0x95 ∷ 0xb7 ∷ []) ∷  -- ╷
    []

-- "a DEC shift sequence (ESC ( 0 or ESC ( B)"
abbrev pub shifts : List (List ℕ)
shifts = (0x1b ∷ 0x28 ∷ 0x30 ∷ []) ∷ (0x1b ∷ 0x28 ∷ 0x42 ∷ []) ∷ []

-- whether a line begins with these bytes
abbrev pub begins : List ℕ → List ℕ → Bool
begins [] l = true
begins (b ∷ bs) [] = false
begins (b ∷ bs) (x ∷ l) = eqb x b && begins bs l

-- how many bytes the one of some byte strings has that a line begins with, 0 where it begins with none
abbrev pub opening : List (List ℕ) → List ℕ → ℕ
opening [] l = 0
opening (s ∷ ss) l = cond (begins s l) (length s) (opening ss l)

-- the cells of a line whose first k bytes belong to a character or a shift sequence that is counted already; a shift sequence has three bytes
abbrev pub measure_from : ℕ → List ℕ → ℕ
measure_from k [] = 0
measure_from (suc k) (b ∷ l) = measure_from k l
measure_from zero (b ∷ l) = cond (ltb 0 (opening shifts (b ∷ l))) (measure_from 2 l) (suc (measure_from (opening box_characters (b ∷ l) - 1) l))

-- the measure of a finished line
unfoldable pub measure_of : List ℕ → ℕ
measure_of l = measure_from 0 l
