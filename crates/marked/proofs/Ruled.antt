-- What the definitions of the row call rule out (01, "What a contract here must settle", 2): a shaper refusing every row, one page for all histories,
-- a row that leaves the columns untouched.
use Prim.Native.Nat.{ℕ, zero, suc}
use mathlib.Core.Path.{◌≡◌, refl, sym, ap, subst, ◌∙◌}
use mathlib.Core.Logic.{◌≢◌}
use mathlib.Core.Bool.{true}
use mathlib.Core.List.{List, [], ◌∷◌}
use native.Mathlib.Omega.{arith}
use lib.Dec.{lit≤}
use lib.ListN.{length, drop}
use Rattle.std.specs.Prelude.{None}
use Rattle.column.specs.declared.Column.{Column}
use Rattle.column.specs.declared.Column.TheVariants.{Empty}
use Rattle.column.specs.Found.{Found}
use Rattle.column.specs.Columns.{find, put}
use Rattle.render.specs.declared.render.Ancestor.{Ancestor as Entry}
use Rattle.render.specs.declared.render.Ancestor.TheVariants.{Ancestor, Parent}
use Rattle.render.specs.declared.types.Options.{Options}
use Rattle.render.specs.Refusals.{refusal}
use Rattle.shaper.specs.Shaper.{View, new_shaper}
use Rattle.shaper.specs.NodeColumn.{node_column}
use Rattle.placing.specs.Placing.{place}
use Rattle.row_shape.specs.Row.{row_checks, row}
use Rattle.glyphs.specs.declared.Renderer.{Renderer}
use Rattle.glyphs.specs.declared.Renderer.TheVariants.{Ascii, AsciiLarge, Square, Curved, Dec}
use Rattle.glyphs.specs.Cells.{choice_of, bytes_of, glyphs_of}
use Rattle.text.specs.Text.{TextCall, drawn_text}
use Rattle.record.specs.Record.{next_record}
use Rattle.steps.specs.Files.{page_of}
use Rattle.steps.specs.Steps.{program_options}
use Rattle.steps.proofs.FilePages.{page-is}
use Rattle.marked.specs.Marked.{plain}
use Rattle.marked.specs.MarkedListing.{m1-mark, parent, m1-record}
use Rattle.marked.proofs.FewEntries.{eight-pass}
use Rattle.marked.proofs.Holding.{Holds, Where, away, there, find_is, named, row-holds}

-- some row is accepted on every new shaper, a refused one too: each row without entries
pub new-accepts : (o : Options) (n : ℕ) → (row (new_shaper o).view n []).refusal ≡ 0
new-accepts o n = (eight-pass [] (lit≤ tt)).in_row o n

-- a history of one node with one entry, without a message
abbrev one : Entry → List TextCall
one e = record { node = 5; entries = e ∷ []; mark = m1-mark; message = [] } ∷ []

-- two histories have different texts in every renderer: a build made from another directly, and indirectly
pub texts-differ : (q : Renderer) → drawn_text program_options (glyphs_of q) q (one (Parent 7)) ≢ drawn_text program_options (glyphs_of q) q (one (Ancestor 7))
unfolding row place choice_of bytes_of glyphs_of
texts-differ Ascii e = let z : ◌≡◌ {A = ℕ} 2 4 = ap length e in omega (arith, z)
texts-differ AsciiLarge e = let z : ◌≡◌ {A = ℕ} 2 4 = ap length e in omega (arith, z)
texts-differ Square e = let z : ◌≡◌ {A = ℕ} 2 5 = ap length e in omega (arith, z)
texts-differ Curved e = let z : ◌≡◌ {A = ℕ} 2 6 = ap length e in omega (arith, z)
texts-differ Dec e = let z : ◌≡◌ {A = ℕ} 2 11 = ap length e in omega (arith, z)

-- and so have two files of such a record different pages; an Ancestor entry differs in its kind alone
abbrev ancestor : ℕ → List ℕ
ancestor id = 1 ∷ drop 1 (parent id)

pub pages-differ : page_of (m1-record 5 1 (parent 7)) ≢ page_of (m1-record 5 1 (ancestor 7))
unfolding row place choice_of bytes_of glyphs_of next_record
pages-differ e = texts-differ Curved (sym (page-is (m1-record 5 1 (parent 7))) ∙ e ∙ page-is (m1-record 5 1 (ancestor 7)))

-- two rows have different shapes: one parent and two parents of the same node on the same shaper
pub shapes-differ : (row plain 5 (Parent 7 ∷ [])).shape ≢ (row plain 5 (Parent 7 ∷ Parent 8 ∷ [])).shape
unfolding row place
shapes-differ e = let z : ◌≡◌ {A = ℕ} 1 2 = ap (λ g. g.width) e in omega arith

-- an accepted row with a parent that no column holds changes the columns
module _ (v : View) (n : ℕ) (es : List Entry) (x : ℕ) (h : named x es ≡ true) (u : find x v.columns ≡ None) where
  held_after : (row v n es).refusal ≡ 0 → (i : ℕ) × Holds (row v n es).view.columns i x
  unfolding row place
  held_after a = go (refusal (row_checks es (place v n es))) refl
    where
      go : (r : ℕ) → refusal (row_checks es (place v n es)) ≡ r → (i : ℕ) × Holds (row v n es).view.columns i x
      go zero q = rw q (row-holds v.style.dash_style (node_column v n) es (put v.columns (node_column v n) Empty) x h)
      go (suc r) q = let z : suc r ≡ 0 = rw q at a in absurd (omega arith)

  not-before : (f : Found) → find x v.columns ≡ f → Where x v.columns f → (i : ℕ) → Holds v.columns i x → ⊥
  not-before f e (away g) i q = g i q
  not-before f e (there j g) i q = cc

  pub unheld-changes : (row v n es).refusal ≡ 0 → (row v n es).view.columns ≢ v.columns
  unheld-changes a e =
      let p = held_after a in
      not-before (find x v.columns) refl (find_is x v.columns) p.0 (subst (λ (cs : List Column). Holds cs p.0 x) e p.1)
