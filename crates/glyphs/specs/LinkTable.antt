-- The table of link glyphs (02, R-4): nine facts "select one of 512 entries, each naming its glyph".
use Rattle.std.specs.Prelude.{ℕ, ◌+◌, ◌/◌, ◌%◌, ◌<◌, ◌≡◌, Bool, List, eqb, get_or}
use Rattle.render.specs.Link.{only}
use Rattle.glyphs.specs.BoxDrawing.{Facts, box_link}

-- the entry that nine facts select: each fact has its weight
unfoldable pub link_place : Facts → ℕ
link_place f =
    only f.horizontal 1 + only f.vert_parent 2 + only f.vert_ancestor 4 + only f.left_fork 8 + only f.right_fork 16
    + only f.left_merge 32
    + only f.right_merge 64
    + only f.child 128
    + only f.merge 256

-- whether a number is odd
abbrev pub odd : ℕ → Bool
odd n = eqb (n % 2) 1

-- the facts that select the entry k
abbrev pub facts_at : ℕ → Facts
facts_at k =
    record {
      horizontal = odd k;
      vert_parent = odd (k / 2);
      vert_ancestor = odd (k / 4);
      left_fork = odd (k / 8);
      right_fork = odd (k / 16);
      left_merge = odd (k / 32);
      right_merge = odd (k / 64);
      child = odd (k / 128);
      merge = odd (k / 256);
    }

-- "each entry is shown to name the glyph that box_drawing.rs chooses for its nine facts"
abbrev pub Names : (ℕ → ℕ) → Type 0
Names entry = (k : ℕ) → k < 512 → entry k ≡ box_link (facts_at k)

-- the entry k of a lent table: the entries stand behind a set's fifteen glyphs and the mark, nine bytes each
abbrev pub entry_at : List ℕ → ℕ → ℕ
entry_at table k = get_or table (144 + k) 0

-- the glyph that a lent table names for nine facts
abbrev pub named : List ℕ → Facts → ℕ
named table f = entry_at table (link_place f)
