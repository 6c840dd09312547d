-- R-9 of our machine and of lists of lent calls; and of each accepted row call on any shaper, by value and lent.
use Prim.Native.Nat.{ℕ, zero, suc}
use mathlib.Core.Path.{◌≡◌, refl, sym, ◌∙◌, ap, subst}
use mathlib.Core.Bool.{true, not, false≢true}
use mathlib.Core.List.{List, [], ◌∷◌}
use Rattle.render.specs.declared.render.Ancestor.{Ancestor}
use Rattle.render.specs.declared.render.Entry.{Entry}
use Rattle.render.specs.declared.render.Entries.{Entries}
use Rattle.render.specs.declared.types.Options.{Options}
use Rattle.render.specs.declared.types.RowShape.{RowShape}
use Rattle.render.specs.Entries.{listed}
use Rattle.shaper.specs.declared.Shaper.{Shaper}
use Rattle.shaper.specs.Shaper.{View, view_of, new_shaper, Fresh, Answer}
use Rattle.shaper.specs.NodeColumn.{node_column}
use Rattle.placing.specs.Placing.{place}
use Rattle.row_shape.specs.Row.{RowReply, row}
use Rattle.row_shape.specs.Promises.{Rows, row_reply_of, RowAnswer}
use Rattle.glyphs.specs.declared.Renderer.{Renderer}
use Rattle.lineage.specs.Promises.{ancestors, LentRows, ShapeAnswer}
use Rattle.steps.specs.Steps.{program_options}
use Rattle.steps.specs.Files.{reads_of}
use Rattle.history.specs.Account.{Call, Reserve, Row, call_id, is_drawn, nobody}
use Rattle.history.specs.Demand3.{nothing_above, draws, Each}
use Rattle.history.specs.Ours.{Item, Plain, Text, call_of, text_on, is_refusal, after, item_shape, ours}
use Rattle.history.specs.LentCalls.{LentCall, exit, Met, Ran, item_of, lent_shape, lent}
use Rattle.history.specs.Programs.{Program, page_program, listing_program, started, rows_of, items_from, program}
use Rattle.history.proofs.AsRow.{row-accepted, accepted-view, drawn-accepted}
use Rattle.history.proofs.Keeps.{row-reply, keeps-every-line}
use Rattle.history.proofs.Follows.{each}
use Rattle.history.proofs.LentKeeps.{Same, same, lent-calls-keep}
use Rattle.history.proofs.ProgramsKeep.{pages-keep, listings-keep}
use Rattle.no_gap.specs.NoGap.{entries_of, AllFollowed, Leads}
use Rattle.no_gap.specs.EntryColumns.{RowLed}
use Rattle.no_gap.specs.OurLinks.{our_links, lent_links, ReachedOwn}
use Rattle.no_gap.proofs.RowsLed.{row-led}
use Rattle.no_gap.proofs.Histories.{RowOf, keeps-followed, AllRows, Owned, keeps-leads, keeps-owns}

-- ---- each accepted row call, on any shaper
led-by : (v : View) (n : ℕ) (es : List Ancestor) (a : RowReply) → a ≡ row v n es → a.refusal ≡ 0 → RowLed (place v n es) es a.shape a.view.columns
led-by v n es a e = subst (λ (b : RowReply). b.refusal ≡ 0 → RowLed (place v n es) es b.shape b.view.columns) (sym e) (row-led v n es)

-- the row call by value
pub row-call-led : (s : Shaper) (n : ℕ) (es : Entries) (r : RowAnswer) → Rows s n es r → r.refusal ≡ 0
    → RowLed (place (view_of s) n (listed es)) (listed es) r.shape (view_of r.shaper).columns
row-call-led s n es r P h = led-by (view_of s) n (listed es) (row_reply_of r) P.reply h

-- the row call on a lent shaper and list
pub lent-row-led : (s : Shaper) (n : ℕ) (l : List Entry) (s' : Shaper) (r : ShapeAnswer) → LentRows s n l s' r → r.refusal ≡ 0
    → RowLed (place (view_of s) n (ancestors l)) (ancestors l) r.shape (view_of s').columns
lent-row-led s n l s' r P h = led-by (view_of s) n (ancestors l) (record { refusal = r.refusal; shape = r.shape; view = view_of s' }) P.reply h

-- ---- the calls of our machine
node-is : (v : View) (n : ℕ) (es : List Ancestor) → (row v n es).refusal ≡ 0 → (row v n es).shape.node_column ≡ node_column v n
node-is v n es h = ap (λ (r : RowReply). r.shape.node_column) (row-reply v n es zero h)

module _ (q : Renderer) where
  -- an item that counts as an accepted row, and leaves what the row leaves
  our-row : (v : View) (k : Item) → draws (ours q) v k ≡ true → RowOf (ours q) (λ v. v) item_shape v k
  our-row v (Plain (Reserve n)) d = absurd (false≢true d)
  our-row v (Plain (Row n es)) d =
      let h : (row v n es).refusal ≡ 0 = drawn-accepted v (Plain (Row n es)) d in
      record { columns = refl; accepted = ap is_refusal h; stands = refl; shown = node-is v n es h; led = row-led v n es h }
  our-row v (Text a n es) d = go (text_on v a n es).refusal refl d
    where
      go : (r : ℕ) → (text_on v a n es).refusal ≡ r → not (is_refusal r) ≡ true → RowOf (ours q) (λ v. v) item_shape v (Text a n es)
      go (suc r) e z = absurd (false≢true z)
      go zero e z =
          let h : (row v n es).refusal ≡ 0 = row-accepted v a n es e in
          record {
            columns = refl;
            accepted = ap is_refusal e;
            stands = refl;
            shown = node-is v n es h;
            led = subst (λ (x : View). RowLed (place v n es) es (row v n es).shape x.columns) (sym (accepted-view v a n es e)) (row-led v n es h);
          }

  our-rows : (v : View) (ks : List Item) → AllRows (ours q) (λ v. v) item_shape v ks
  our-rows v [] = tt
  our-rows v (k ∷ ks) = (our-row v k, our-rows (after v k) ks)

  -- the lent calls: each gave what our machine gives
  lent_row : (s : Shaper) (k : LentCall) → Same s k → draws (lent q) s k ≡ true → RowOf (lent q) view_of lent_shape s k
  lent_row s k e d =
      let c : Call = call_of (item_of k) in
      let R = our-row (view_of s) (item_of k) (ap (is_drawn c) (sym e.verdict) ∙ d) in
      record {
        columns = refl;
        accepted = e.verdict ∙ R.accepted;
        stands = refl;
        shown = ap (λ (x : RowShape). x.node_column) e.shape ∙ R.shown;
        led = subst (λ (x : View). RowLed (place (view_of s) (call_id c) (entries_of c)) (entries_of c) (lent_shape s k) x.columns) (sym e.view) (rw e.shape R.led);
      }

  lent_rows : (s : Shaper) (ks : List LentCall) → Ran s ks → AllRows (lent q) view_of lent_shape s ks
  lent_rows s [] r = tt
  lent_rows s (k ∷ ks) r = (lent_row s k (same s k r.0), lent_rows (exit k) ks r.1)

-- each accepted row or text call on a lent shaper, any one
pub lent-call-led : (q : Renderer) (s : Shaper) (k : LentCall) → Met s k → draws (lent q) s k ≡ true
    → RowLed (place (view_of s) (call_id (call_of (item_of k))) (entries_of (call_of (item_of k)))) (entries_of (call_of (item_of k))) (lent_shape s k) (view_of (exit k)).columns
lent-call-led q s k m d = (lent_row q s k (same s k m) d).led

-- ---- whole lists

-- for every renderer, every new shaper, a refused one too, and every list of calls
pub no-gap-on-the-way : (q : Renderer) (o : Options) (ks : List Item) → Leads (ours q) (our_links q) (new_shaper o).view ks
no-gap-on-the-way q o ks = keeps-leads (ours q) (λ v. v) item_shape (new_shaper o).view ks (keeps-every-line q o ks) (our-rows q (new_shaper o).view ks)

-- there the columns that are reached are the definition's own
pub reached-own : (q : Renderer) (o : Options) (ks : List Item) → Each (ours q) (ReachedOwn q) (new_shaper o).view nobody nothing_above ks
reached-own q o ks =
    each (ours q) (Owned (ours q) (λ v. v) item_shape) (ReachedOwn q) (λ v w a k O d. O (our-row q v k d)) (new_shaper o).view nobody nothing_above ks
    (keeps-owns (ours q) (λ v. v) item_shape (new_shaper o).view ks (keeps-every-line q o ks))

-- whatever list of lent calls has run on a new shaper, each as its contract says
pub lent-calls-lead : (q : Renderer) (o : Options) (a : Answer) → Fresh o a → (ks : List LentCall) → Ran a.shaper ks → Leads (lent q) (lent_links q) a.shaper ks
lent-calls-lead q o a n ks r = keeps-leads (lent q) view_of lent_shape a.shaper ks (lent-calls-keep q o a n ks r) (lent_rows q a.shaper ks r)

-- the calls that a program makes of any file (`pages-are-text-calls`, `listings-are-row-calls` in history/proofs/ProgramsKeep.antt)
pub program-calls-lead : (P : Program) (q : Renderer) (file : List ℕ) → Leads (ours q) (our_links q) (started P).progress.view (items_from P (started P) (rows_of P (reads_of file)))
program-calls-lead P q file = no-gap-on-the-way q program_options (items_from P (started P) (rows_of P (reads_of file)))

-- "With demand 3", of the programs' own steps on any file
pub pages-followed : (q : Renderer) (file : List ℕ) → AllFollowed (program page_program q) (started page_program) (rows_of page_program (reads_of file))
pages-followed q file = keeps-followed (program page_program q) (started page_program) (rows_of page_program (reads_of file)) (pages-keep q file)

pub listings-followed : (q : Renderer) (file : List ℕ) → AllFollowed (program listing_program q) (started listing_program) (rows_of listing_program (reads_of file))
listings-followed q file = keeps-followed (program listing_program q) (started listing_program) (rows_of listing_program (reads_of file)) (listings-keep q file)
