-- How a call turns back (01, "Where a call turns back"): the refusals' numbers by name, and the checks of a call in order, "the first that holds is given, and only then".
use Rattle.std.specs.Prelude.{ℕ, Bool, cond, List, [], ◌∷◌}
use Rattle.render.specs.declared.refusals.Refusal.{Refusal}
use Rattle.render.specs.declared.refusals.Refusal.TheVariants.{HeightAboveLimit, NoColumnLeft, TooManyEntries, NodeLineTooWide, MarkOutsideSpan, MessageTooLong, MessageByteNotWritable, OutputShorterThanLines, RecordCutShort, TooManyParents, KindAboveLimit, ShapeTooWide, IdNotBelowPrevious, ParentNotBelowId, UnequalRecords, OutputShorterThanResult, WidthOutsideSpan, TooFewCellsLeft, GlyphByteNotPrintable, TooManyRecords, TooManyReached, NoSuchRecord, ByteNotReadable, ByteNotAGlyph}

-- ---- the numbers: the table of 01, then the checks of the requests in 02

-- nothing is refused
abbrev pub not_refused : ℕ
not_refused = 0

-- new shaper: "minimum row height above 16"
abbrev pub height_above_limit : ℕ
height_above_limit = 1

-- reserving: "id not held, no Empty column, 64 columns"
abbrev pub no_column_left : ℕ
no_column_left = 2

-- row, width, text, and with R-1 of 02 preview: "more than 32 entries", with R-5 more than 8
abbrev pub too_many_entries : ℕ
too_many_entries = 3

-- row, text, and with R-1 of 02 preview: "node line would have more than 64 cells"
abbrev pub node_line_too_wide : ℕ
node_line_too_wide = 4

-- renderer, text: "mark outside 21 to 7E"
abbrev pub mark_outside_span : ℕ
mark_outside_span = 5

-- text: "message above 512 bytes"
abbrev pub message_too_long : ℕ
message_too_long = 6

-- text: "message byte not 0A or 20 to 7E"
abbrev pub message_byte_not_writable : ℕ
message_byte_not_writable = 7

-- renderer, text: "output shorter than the lines need"
abbrev pub output_shorter_than_lines : ℕ
output_shorter_than_lines = 8

-- record: "fewer than 128 bytes left, but not none"
abbrev pub record_cut_short : ℕ
record_cut_short = 9

-- record: "parent count above 8"
abbrev pub too_many_parents : ℕ
too_many_parents = 10

-- record: "kind above 2 in a used entry"
abbrev pub kind_above_limit : ℕ
kind_above_limit = 11

-- renderer: "shape wider than 64 cells"
abbrev pub shape_too_wide : ℕ
shape_too_wide = 12

-- R-6, record: "the id isn't below the previous record's"
abbrev pub id_not_below_previous : ℕ
id_not_below_previous = 13

-- R-6, record: "a used named entry isn't below its own record's id"
abbrev pub parent_not_below_id : ℕ
parent_not_below_id = 14

-- R-7: "one id with unequal bytes"
abbrev pub unequal_records : ℕ
unequal_records = 15

-- R-7, R-11, R-12, R-13: "a short output"; in R-12 the storage or the text buffer
abbrev pub output_shorter_than_result : ℕ
output_shorter_than_result = 16

-- R-8: "a width outside the span"
abbrev pub width_outside_span : ℕ
width_outside_span = 17

-- R-8: "fewer than ten cells are left, or .. a queued line to be written .. has more cells than the width"
abbrev pub too_few_cells_left : ℕ
too_few_cells_left = 18

-- R-10: "a byte is outside 20 to 7E"
abbrev pub glyph_byte_not_printable : ℕ
glyph_byte_not_printable = 19

-- R-11: "above 256 records"
abbrev pub too_many_records : ℕ
too_many_records = 20

-- R-11: "a new list exceeds eight"
abbrev pub too_many_reached : ℕ
too_many_reached = 21

-- R-12: "k is not the number of a whole record before the change"
abbrev pub no_such_record : ℕ
no_such_record = 22

-- R-13: "a byte that is neither printable, 0A nor part of a whole shift sequence"
abbrev pub byte_not_readable : ℕ
byte_not_readable = 23

-- R-13: "any other printable byte, or a line end, while shifted"
abbrev pub byte_not_a_glyph : ℕ
byte_not_a_glyph = 24

-- the number of a refusal
abbrev pub number : Refusal → ℕ
number HeightAboveLimit = height_above_limit
number NoColumnLeft = no_column_left
number TooManyEntries = too_many_entries
number NodeLineTooWide = node_line_too_wide
number MarkOutsideSpan = mark_outside_span
number MessageTooLong = message_too_long
number MessageByteNotWritable = message_byte_not_writable
number OutputShorterThanLines = output_shorter_than_lines
number RecordCutShort = record_cut_short
number TooManyParents = too_many_parents
number KindAboveLimit = kind_above_limit
number ShapeTooWide = shape_too_wide
number IdNotBelowPrevious = id_not_below_previous
number ParentNotBelowId = parent_not_below_id
number UnequalRecords = unequal_records
number OutputShorterThanResult = output_shorter_than_result
number WidthOutsideSpan = width_outside_span
number TooFewCellsLeft = too_few_cells_left
number GlyphByteNotPrintable = glyph_byte_not_printable
number TooManyRecords = too_many_records
number TooManyReached = too_many_reached
number NoSuchRecord = no_such_record
number ByteNotReadable = byte_not_readable
number ByteNotAGlyph = byte_not_a_glyph

-- ---- the checks of a call

-- a row of the table: the refusal's number, and whether its condition holds
pub record Check : Type 0 where
  pub number : ℕ
  pub holds : Bool

infix 20 ◌when◌
-- number n where b holds
abbrev pub ◌when◌ : ℕ → Bool → Check
n when b = record { number = n; holds = b }

-- the number that is given; 0 where no condition holds
abbrev pub refusal : List Check → ℕ
refusal [] = not_refused
refusal (k ∷ ks) = cond k.holds k.number (refusal ks)
