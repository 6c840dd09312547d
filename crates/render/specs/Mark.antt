-- The mark of a node.
use Rattle.std.specs.Prelude.{ℕ, Bool, ◌&&◌, leb}

-- a byte that is not "outside 21 to 7E" (01, the table's row for renderer, text)
abbrev pub is_mark : ℕ → Bool
is_mark b = leb 0x21 b && leb b 0x7e
