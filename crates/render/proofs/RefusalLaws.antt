-- A refusal's number is never 0, the number of a call that is not refused.
use mathlib.Core.Path.{◌≡◌}
use native.Mathlib.Omega.{arith}
use Rattle.render.specs.declared.refusals.Refusal.{Refusal}
use Rattle.render.specs.declared.refusals.Refusal.TheVariants.{HeightAboveLimit, NoColumnLeft, TooManyEntries, NodeLineTooWide, MarkOutsideSpan, MessageTooLong, MessageByteNotWritable, OutputShorterThanLines, RecordCutShort, TooManyParents, KindAboveLimit, ShapeTooWide, IdNotBelowPrevious, ParentNotBelowId, UnequalRecords, OutputShorterThanResult, WidthOutsideSpan, TooFewCellsLeft, GlyphByteNotPrintable, TooManyRecords, TooManyReached, NoSuchRecord, ByteNotReadable, ByteNotAGlyph}
use Rattle.render.specs.Refusals.{not_refused, number}

pub number-some : (e : Refusal) → number e ≡ not_refused → ⊥
number-some HeightAboveLimit h = omega arith
number-some NoColumnLeft h = omega arith
number-some TooManyEntries h = omega arith
number-some NodeLineTooWide h = omega arith
number-some MarkOutsideSpan h = omega arith
number-some MessageTooLong h = omega arith
number-some MessageByteNotWritable h = omega arith
number-some OutputShorterThanLines h = omega arith
number-some RecordCutShort h = omega arith
number-some TooManyParents h = omega arith
number-some KindAboveLimit h = omega arith
number-some ShapeTooWide h = omega arith
number-some IdNotBelowPrevious h = omega arith
number-some ParentNotBelowId h = omega arith
number-some UnequalRecords h = omega arith
number-some OutputShorterThanResult h = omega arith
number-some WidthOutsideSpan h = omega arith
number-some TooFewCellsLeft h = omega arith
number-some GlyphByteNotPrintable h = omega arith
number-some TooManyRecords h = omega arith
number-some TooManyReached h = omega arith
number-some NoSuchRecord h = omega arith
number-some ByteNotReadable h = omega arith
number-some ByteNotAGlyph h = omega arith
