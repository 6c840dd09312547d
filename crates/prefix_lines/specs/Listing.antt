-- The lines of a row in the listing program's form (01, "Added by us"): the bytes, and the answer of the call that writes them.
use Rattle.std.specs.Prelude.{ℕ, List, [], ◌∷◌, ◌++◌}
use Rattle.render.specs.declared.types.DashStyle.{DashStyle}
use Rattle.render.specs.declared.types.RowShape.{RowShape}
use Rattle.render.specs.Refusals.{Check, refusal}
use Rattle.glyphs.specs.declared.Renderer.TheVariants.{Ascii}
use Rattle.glyphs.specs.Cells.{PrefixLine, lines, glyphs_of, line_bytes}
use Rattle.slices.specs.Characters.{newline, colon}
use Rattle.slices.specs.Joins.{joins}
use Rattle.prefix_lines.specs.PrefixLines.{letter, checks_for, Answer, answered}

-- the listing's own character, `$`
abbrev pub dollar : ℕ
dollar = 0x24

-- "for each prefix line its kind letter .., a colon, the line with the mark in place, and `$`, then 0A" (01)
abbrev pub listing_line : DashStyle → ℕ → PrefixLine → List ℕ
listing_line d mark l = letter l.kind ∷ (colon ∷ (line_bytes (glyphs_of Ascii) Ascii d mark l.choices ++ (dollar ∷ newline ∷ [])))

-- the listing's bytes of a shape
unfoldable pub listing_bytes : RowShape → ℕ → List ℕ
listing_bytes g mark = joins (listing_line g.style.dash_style mark) (lines Ascii g)

-- it turns back where the renderer call does
abbrev pub listing_checks : RowShape → ℕ → List ℕ → List Check
listing_checks g mark out = checks_for g mark (listing_bytes g mark) out

-- the listing call
abbrev pub listing : RowShape → ℕ → List ℕ → Answer
listing g mark out = answered (refusal (listing_checks g mark out)) (listing_bytes g mark) out
