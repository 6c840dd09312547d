-- The glyphs of a renderer: with a mark in its place they are, counted out, the ones that a table is to hold.
use Prim.Native.Nat.{ℕ}
use mathlib.Core.Path.{◌≡◌, refl, sym, subst}
use mathlib.Core.Logic.{◌⊎◌, inl, inr}
use mathlib.Core.List.{List, []}
use lib.ListN.{length, get_or}
use Rattle.glyphs.specs.declared.Renderer.TheVariants.{Ascii, AsciiLarge, Square, Curved, Dec}
use Rattle.glyphs.specs.declared.Renderer.{Renderer}
use Rattle.glyphs.specs.Cells.{glyphs_of}
use Rattle.glyphs.specs.Tables.{placed, glyph_at, box_table}
use Rattle.glyphs.proofs.CountedLaws.{counted}
use Rattle.glyphs.proofs.TableLaws.{holds}
use Rattle.glyphs.proofs.box_drawing.glyphs.Goals as goal

holds_of : (p q : Renderer) (t : List ℕ) (m : ℕ) → p ≡ q → length t ≡ 144 → counted (placed t) 0 16 ≡ box_table (glyphs_of q) m → (n : ℕ)
    → glyph_at t n ≡ get_or (box_table (glyphs_of p) m) n []
holds_of p q t m e h f n = subst (λ (x : Renderer). glyph_at t n ≡ get_or (box_table (glyphs_of x) m) n []) (sym e) (holds t 16 (box_table (glyphs_of q) m) h f n)

none_of : (p : Renderer) (t : List ℕ) (m : ℕ) → (p ≡ Ascii) ⊎ (p ≡ AsciiLarge) → length t ≡ 144 → counted (placed t) 0 16 ≡ box_table (glyphs_of Ascii) m → (n : ℕ)
    → glyph_at t n ≡ get_or (box_table (glyphs_of p) m) n []
unfolding glyphs_of
none_of p t m (inl e) h f = holds_of p Ascii t m e h f
none_of p t m (inr e) h f = holds_of p AsciiLarge t m e h f

pub returns-in-Ascii : goal.returns-in-Ascii
unfolding glyphs_of
returns-in-Ascii c m = none_of _ _ m c.in-Ascii.is refl refl

pub returns-in-Square : goal.returns-in-Square
unfolding glyphs_of
returns-in-Square c m = holds_of _ Square _ m c.in-Square.is refl refl

pub returns-in-Curved : goal.returns-in-Curved
unfolding glyphs_of
returns-in-Curved c m = holds_of _ Curved _ m c.in-Curved.is refl refl

pub returns-in-Dec : goal.returns-in-Dec
unfolding glyphs_of
returns-in-Dec c m = holds_of _ Dec _ m c.in-Dec.is refl refl
