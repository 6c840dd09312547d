-- The table of the ASCII renderer: its glyphs, counted out, are the ones that it is to hold.
use mathlib.Core.Path.{refl}
use Rattle.glyphs.specs.Tables.{ascii_table}
use Rattle.glyphs.proofs.TableLaws.{holds}
use Rattle.glyphs.proofs.ascii.ascii_table.Goals as goal

pub returns : goal.returns
returns c = holds _ 33 (ascii_table c.args.mark) refl refl
