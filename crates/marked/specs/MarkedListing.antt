-- Document 01's marked rows M1: the whole listing, from the file's bytes to the bytes that are written, closed by computing.
use Rattle.std.specs.Prelude.{ℕ, ◌-◌, ◌≡◌, refl, List, [], ◌∷◌, ◌++◌, length, replicate}
use Prim.Native.Char.{code}
use Prim.Native.String.{String, [] as none, ◌∷◌ as ◌then◌}
use Rattle.placing.specs.Placing.{place}
use Rattle.row_shape.specs.Row.{row}
use Rattle.glyphs.specs.Ascii.{standing, upright, connection}
use Rattle.glyphs.specs.Cells.{choice_of, glyphs_of, bytes_of}
use Rattle.slices.specs.Characters.{newline}
use Rattle.prefix_lines.specs.Listing.{listing_bytes}
use Rattle.record.specs.Record.{next_record}
use Rattle.steps.specs.Files.{listing_of}
use Rattle.marked.specs.Marked.{Marked, marked}

-- the bytes of a text, and of lines of text, each with its end
abbrev pub bytes : String → List ℕ
bytes none = []
bytes (c then s) = code c ∷ bytes s

abbrev pub page : List String → List ℕ
page [] = []
page (s ∷ ss) = bytes s ++ (newline ∷ page ss)

-- "mark `o`" (01)
abbrev pub m1-mark : ℕ
m1-mark = 0x6f

-- a Parent entry, and a record of its id, parent count and entries, "no messages" (01); their ids have one byte
abbrev pub parent : ℕ → List ℕ
parent id = 2 ∷ id ∷ 0 ∷ 0 ∷ 0 ∷ []

abbrev pub m1-record : ℕ → ℕ → List ℕ → List ℕ
m1-record id parents entries = id ∷ 0 ∷ 0 ∷ 0 ∷ m1-mark ∷ parents ∷ (entries ++ replicate (122 - length entries) 0)

-- "Records 30 (Parent 20, Parent 10), 20 (Parent 10), 10 (none)" (01)
abbrev pub m1-file : List ℕ
m1-file = m1-record 30 2 (parent 20 ++ parent 10) ++ (m1-record 20 1 (parent 10) ++ m1-record 10 0 [])

-- "The listing is:" (01)
abbrev pub m1-listing : List ℕ
m1-listing =
    page
    ("P:    $"
    ∷ "N:o   $"
    ∷ "Q:|   $"
    ∷ "L:|\\  $"
    ∷ "Z:| | $"
    ∷ "P:| | $"
    ∷ "N:o | $"
    ∷ "Q:| | $"
    ∷ "L:|/  $"
    ∷ "Z:|   $"
    ∷ "P:| $"
    ∷ "N:o $"
    ∷ "Q:  $"
    ∷ "Z:  $"
    ∷ [])

-- what the listing program writes for the file
abbrev pub M1 : Type 0
M1 = listing_of m1-file ≡ m1-listing

pub m1 : M1
unfolding row place listing_bytes choice_of glyphs_of bytes_of standing upright connection next_record
m1 = refl

-- "Cases M1 to M10 stand together under a single theorem about the definitions." (01)
pub record AllMarked : Type 0 where
  pub case1 : M1
  pub others : Marked

pub all-marked : AllMarked
all-marked = record { case1 = m1; others = marked }
