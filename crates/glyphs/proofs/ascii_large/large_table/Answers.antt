-- The table of the large ASCII renderer: its glyphs, counted out, are the ones that it is to hold.
use mathlib.Core.Path.{refl}
use Rattle.glyphs.specs.Tables.{large_table}
use Rattle.glyphs.proofs.TableLaws.{holds}
use Rattle.glyphs.proofs.ascii_large.large_table.Goals as goal

pub returns : goal.returns
returns c = holds _ 182 (large_table c.args.mark) refl refl
