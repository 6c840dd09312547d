-- M1's file as rows of the two programs, so that what is said of every file is said of one with rows: three, all of them drawn.
use mathlib.Core.Path.{◌≡◌, refl}
use mathlib.Core.Bool.{false}
use mathlib.Core.List.{[], ◌∷◌}
use Rattle.placing.specs.Placing.{place}
use Rattle.row_shape.specs.Row.{row}
use Rattle.glyphs.specs.declared.Renderer.TheVariants.{Curved}
use Rattle.glyphs.specs.Cells.{choice_of, glyphs_of, bytes_of}
use Rattle.glyphs.specs.Ascii.{standing, upright, connection}
use Rattle.glyphs.specs.BoxDrawing.{box_link}
use Rattle.prefix_lines.specs.Listing.{listing_bytes}
use Rattle.text.specs.Text.{text_with}
use Rattle.record.specs.Record.{next_record}
use Rattle.steps.specs.Files.{reads_of}
use Rattle.marked.specs.MarkedListing.{m1-file}
use Rattle.history.specs.Follows.{verdicts}
use Rattle.history.specs.Programs.{page_program, listing_program, started, rows_of, program}

pub listing-draws : verdicts (program listing_program Curved) (started listing_program) (rows_of listing_program (reads_of m1-file)) ≡ false ∷ false ∷ false ∷ []
unfolding row place listing_bytes choice_of glyphs_of bytes_of standing upright connection next_record
listing-draws = refl

pub page-draws : verdicts (program page_program Curved) (started page_program) (rows_of page_program (reads_of m1-file)) ≡ false ∷ false ∷ false ∷ []
unfolding row place text_with choice_of glyphs_of bytes_of box_link next_record
page-draws = refl
