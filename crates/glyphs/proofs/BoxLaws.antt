-- The three box drawing renderers choose and draw alike: what an arm for all three cites. Which table is a renderer's own.
use Prim.Native.Nat.{ℕ}
use mathlib.Core.Path.{◌≡◌, refl, sym, ap, ap₂, subst, ◌∙◌}
use mathlib.Core.Logic.{◌⊎◌, inl, inr}
use mathlib.Core.List.{List, [], ◌++◌}
use native.Mathlib.Omega.{arith}
use lib.ListN.{length, get_or, take, get_or-append}
use lib.Seq.{take_at}
use Rattle.render.specs.declared.types.DashStyle.{DashStyle}
use Rattle.glyphs.specs.declared.Renderer.{Renderer}
use Rattle.glyphs.specs.declared.Renderer.TheVariants.{Ascii, AsciiLarge, Square, Curved, Dec}
use Rattle.glyphs.specs.declared.types.Choice.TheVariants.{Glyph}
use Rattle.glyphs.specs.declared.types.PlainNumbers.{PlainNumbers}
use Rattle.glyphs.specs.BoxDrawing as box
use Rattle.glyphs.specs.Inner.{Plain}
use Rattle.glyphs.specs.LinkTable.{Names}
use Rattle.glyphs.specs.Tables.{glyph_at, box_table, ascii_table, large_table, BoxTables, Tables, number_of}
use Rattle.glyphs.proofs.LinkLaws.{entry-behind, names-facts}
use Rattle.glyphs.proofs.TableLaws.{glyph-ahead}

-- the renderer is Square, Curved or Dec
abbrev pub IsBox : Renderer → Type 0
IsBox q = (q ≡ Square) ⊎ ((q ≡ Curved) ⊎ (q ≡ Dec))

pub box-plain : (q : Renderer) (d : DashStyle) (i : ℕ) (r : PlainNumbers) → IsBox q → Plain Square d i r → Plain q d i r
unfolding number_of
box-plain q d i r (inl e) p = subst (λ (x : Renderer). Plain x d i r) (sym e) p
box-plain q d i r (inr (inl e)) p =
    subst (λ (x : Renderer). Plain x d i r) (sym e) (record { space = p.space; solid = p.solid; dashed = p.dashed; mark = p.mark; end = p.end })
box-plain q d i r (inr (inr e)) p =
    subst (λ (x : Renderer). Plain x d i r) (sym e) (record { space = p.space; solid = p.solid; dashed = p.dashed; mark = p.mark; end = p.end })

-- glyphs copied to the front of a table, and entries behind them, make a box drawing renderer's table
pub box-made : (set : ℕ → List ℕ) (mark : ℕ) (glyphs entries front part rest post : List ℕ) → length glyphs ≡ 144 → length entries ≡ 512
    → ((n : ℕ) → glyph_at glyphs n ≡ get_or (box_table set mark) n [])
    → Names (λ (k : ℕ). get_or entries k 0)
    → front ≡ glyphs
    → part ≡ entries
    → BoxTables (take 144 (front ++ rest) ++ (part ++ post)) set mark
box-made set mark glyphs entries front part rest post g e holds names f p =
    let ahead : take 144 (front ++ rest) ≡ glyphs = rw f (take_at glyphs rest 144 g) in
    let whole : take 144 (front ++ rest) ++ (part ++ post) ≡ glyphs ++ (entries ++ post) = ap₂ ◌++◌ ahead (ap (λ (l : List ℕ). l ++ post) p) in
    let named : Names (λ (k : ℕ). get_or (entries ++ post) k 0) = λ k h. get_or-append entries post 0 k (omega (arith, e, h)) ∙ names k h in
    rw whole (record {
      holds = λ n h. glyph-ahead glyphs (entries ++ post) n (omega (arith, g, h)) ∙ holds n;
      names = entry-behind glyphs (entries ++ post) g named;
    })

-- the table that is made for a box drawing renderer is the renderer's own
pub box-tables : (glyphs : ℕ → List ℕ) (q : Renderer) (mark : ℕ) (t : List ℕ) → IsBox q → BoxTables t glyphs mark → Tables t glyphs q mark
box-tables glyphs q mark t (inl e) b =
    subst (λ (x : Renderer). Tables t glyphs x mark) (sym e)
    (record { holds = b.holds; names = λ r p. ap Glyph (names-facts (box.facts_of r.merge p.cell.link) t b.names) })
box-tables glyphs q mark t (inr (inl e)) b =
    subst (λ (x : Renderer). Tables t glyphs x mark) (sym e)
    (record { holds = b.holds; names = λ r p. ap Glyph (names-facts (box.facts_of r.merge p.cell.link) t b.names) })
box-tables glyphs q mark t (inr (inr e)) b =
    subst (λ (x : Renderer). Tables t glyphs x mark) (sym e)
    (record { holds = b.holds; names = λ r p. ap Glyph (names-facts (box.facts_of r.merge p.cell.link) t b.names) })

-- and so are those of the ASCII renderers, which name no link glyph by an entry
pub ascii-tables : (glyphs : ℕ → List ℕ) (q : Renderer) (mark : ℕ) (t : List ℕ) → q ≡ Ascii → ((n : ℕ) → glyph_at t n ≡ get_or (ascii_table mark) n []) → Tables t glyphs q mark
ascii-tables glyphs q mark t e h =
    subst (λ (x : Renderer). Tables t glyphs x mark) (sym e) (record { holds = λ n b. h n; names = λ r p. refl })

pub large-tables : (glyphs : ℕ → List ℕ) (q : Renderer) (mark : ℕ) (t : List ℕ) → q ≡ AsciiLarge → ((n : ℕ) → glyph_at t n ≡ get_or (large_table mark) n []) → Tables t glyphs q mark
large-tables glyphs q mark t e h =
    subst (λ (x : Renderer). Tables t glyphs x mark) (sym e) (record { holds = λ n b. h n; names = λ r p. refl })
