-- Demand 3: a drawn history keeps every line.
use Prim.Native.Nat.{ℕ, zero, suc, ◌<◌}
use mathlib.Core.Path.{◌≡◌, refl, sym, ◌∙◌, ap, subst}
use mathlib.Core.Logic.{◌≢◌, ◌↔◌}
use mathlib.Core.Bool.{Bool, true, false, cond, false≢true}
use mathlib.Core.List.{List, [], ◌∷◌}
use mathlib.Core.Option.{none-ne-some}
use native.Mathlib.Omega.{arith}
use native.Mathlib.Decide.{dec_lt}
use Rattle.std.specs.Prelude.{Some, None}
use Rattle.column.specs.declared.Column.{Column}
use Rattle.column.specs.declared.Column.TheVariants.{Empty, Blocked, Reserved, Ancestor, Parent}
use Rattle.column.specs.Found.{Found}
use Rattle.column.specs.Columns.{rank, find, vacant, at, put, started_by, origin_at}
use Rattle.render.specs.declared.render.Ancestor.{Ancestor as Entry}
use Rattle.render.specs.declared.types.Options.{Options}
use Rattle.render.specs.declared.types.RowShape.{RowShape}
use Rattle.render.specs.Entries.{entry_id}
use Rattle.render.specs.Refusals.{refusal}
use Rattle.shaper.specs.Shaper.{View, Reply, answer, new_shaper, reserve_checks, reserved_in, reserved, reserved_origins, with_columns, reserve, started_in}
use Rattle.shaper.specs.NodeColumn.{node_column}
use Rattle.placing.specs.Placing.{Placed, place_at, place}
use Rattle.row_shape.specs.Row.{RowReply, row_checks, shape_at, row_after, row_answer, row, no_shape}
use Rattle.history.specs.Account.{Call, Reserve, Row, Waiting, call_id, is_drawn, nobody, account, waits_after, Named, answer_of}
use Rattle.history.specs.Demand3.{Stroke, Other, Holds, wait_of, OneEntry, cell, is_stroke, over_node, Pulls, Above, nothing_above, waiting_after, above_after, Kept, Each, KeepsEveryLine}
use Rattle.history.specs.Ours.{TextArguments, Item, Plain, Text, call_of, text_on, is_refusal, refuses, after, shape_of, head_line, foot_line, ours}
use Rattle.glyphs.specs.declared.Renderer.{Renderer}
use Rattle.marked.proofs.FewEntries.{new-bare}
use Rattle.marked.proofs.Holding.{Where, away, there, find_is}
use Rattle.history.proofs.AsRow.{row-accepted, accepted-view, refused-view, row-refused}
use Rattle.history.proofs.Lines.{head-shows as head-line, foot-shows as foot-line}
use Rattle.history.proofs.Waits.{Wait-in, waits-carried, reserve-keeps, reserved-carries, dec_id, idle}
use Rattle.history.proofs.Node.{NodePlaced, node-placed}
use Rattle.history.proofs.Rows.{Tidy, Shows, row-end-tidy, reserve-tidy, strokes-of, never_other, foot-shows, head_meets, row_keeps, row-moves, reserve-stays, reserve-shows}

-- the clauses about an id x that waits before and after a call, in column i before it and in column j after it
record Moves (k : Call) (refused : Bool) (c x i j : ℕ) : Type 0 where
  changes : j ≢ i ↔ Pulls k refused x i c
  to : Pulls k refused x i c → j ≡ c

-- the clauses about the lines of an accepted row, of the columns cs and the ids w that wait right after it and the node's column c
record DrawnRow (cs : List Column) (w : Waiting) (c : ℕ) (head foot before : List Stroke) : Type 0 where
  strokes : (i : ℕ) → is_stroke (cell foot i) ↔ ((x : ℕ) × Holds cs i x × Named (w x))
  kinds : (i : ℕ) → cell foot i ≢ Other
  meets : (i : ℕ) → cell head i ≡ over_node c i (cell before i)

-- what holds between two calls
record Inv (v : View) (w : Waiting) (a : Above) : Type 0 where
  waiting : Wait-in v.columns (origin_at v.origins) w
  tidy : Tidy v.columns
  shows : Shows a.foot v.columns
  previous : v.previous ≡ a.node

-- a refused call draws nothing and pulls no id
undrawn : (c : Call) → is_drawn c true ≡ false
undrawn (Reserve n) = refl
undrawn (Row n es) = refl

unpulled : (c : Call) (x i d : ℕ) → Pulls c true x i d → ⊥
unpulled (Reserve n) x i d z = z
unpulled (Row n es) x i d z = false≢true (sym z.0)

dec_one : (x : ℕ) (es : List Entry) → Dec (OneEntry x es)
dec_one x [] = no (λ z. z)
dec_one x (e ∷ []) = dec_id (entry_id e) x
dec_one x (e ∷ f ∷ es) = no (λ z. z)

-- the row call's answer, from its number
number-told : (r : ℕ) (v : View) (n : ℕ) (es : List Entry) (p : Placed) → (row_answer r v n es p).refusal ≡ r
number-told zero v n es p = refl
number-told (suc r) v n es p = refl

pub row-reply : (v : View) (n : ℕ) (es : List Entry) (r : ℕ) → (row v n es).refusal ≡ r
    → row v n es ≡ row_answer r v n es (place_at (node_column v n) es (put v.columns (node_column v n) Empty))
unfolding row place
row-reply v n es r h =
    let p : Placed = place v n es in
    let k : ℕ = refusal (row_checks es p) in
    ap (λ (m : ℕ). row_answer m v n es p) (sym (number-told k v n es p) ∙ h)

reserve-told : (r : ℕ) (v u : View) → (answer r v u).refusal ≡ r
reserve-told zero v u = refl
reserve-told (suc r) v u = refl

reserve-reply : (v : View) (n r : ℕ) → (reserve v n).refusal ≡ r → reserve v n ≡ answer r v (with_columns v (reserved n v.columns) (reserved_origins n v.columns v.origins))
unfolding reserve
reserve-reply v n r h =
    let u : View = with_columns v (reserved n v.columns) (reserved_origins n v.columns v.origins) in
    ap (λ (m : ℕ). answer m v u) (sym (reserve-told (refusal (reserve_checks n v.columns)) v u) ∙ h)

-- a query gives what the account says
answered : (cs : List Column) (os : List ℕ) (w : Waiting) → Wait-in cs (origin_at os) w → (x : ℕ) → started_in (find x cs) cs os ≡ answer_of (w x)
answered cs os w W x = go (find x cs) (find_is x cs)
  where
    by-column : (c : Column) (o : ℕ) → started_by c o ≡ answer_of (wait_of c o)
    by-column Empty o = refl
    by-column Blocked o = refl
    by-column (Reserved n) o = refl
    by-column (Ancestor n) o = refl
    by-column (Parent n) o = refl

    go : (f : Found) → Where x cs f → started_in f cs os ≡ answer_of (w x)
    go f (there i h) = by-column (at cs i) (origin_at os i) ∙ ap answer_of (sym (W.waits i x h))
    go f (away h) = sym (ap answer_of (idle cs (origin_at os) w W x h))

module _ (q : Renderer) where
  -- what holds of a call, and after it
  abbrev Step : View → Waiting → Above → Item → Type 0
  Step v w a k = Kept (ours q) v w a k × Inv (after v k) (waiting_after (ours q) v k w) (above_after (ours q) v k a)

  module _ (v : View) (w : Waiting) (a : Above) where
    -- what a call that counts as c leaves to the next row, by its shape
    abbrev left : Call → Bool → RowShape → Above
    left c refused g = cond (is_drawn c refused) (record { foot = foot_line q g; node = Some g.node_column }) a

    -- the same of the call c as which it counts, whether it is refused, the view u after it and its shape g
    record Facts (c : Call) (refused : Bool) (u : View) (g : RowShape) : Type 0 where
      waiting : Wait-in u.columns (origin_at u.origins) (account c refused w)
      tidy : Tidy u.columns
      moving : (x i j : ℕ) → Holds v.columns i x → Holds u.columns j x → (is_drawn c refused ≡ true → x ≢ call_id c) → Moves c refused g.node_column x i j
      placed : is_drawn c refused ≡ true → NodePlaced v.columns w (call_id c) g.node_column a.node
      drawn : is_drawn c refused ≡ true → DrawnRow u.columns (account c refused w) g.node_column (head_line q g) (foot_line q g) a.foot
      shows : Shows (left c refused g).foot u.columns
      previous : u.previous ≡ (left c refused g).node

    taken : (k : Item) → Facts (call_of k) (refuses v k) (after v k) (shape_of v (call_of k)) → Step v w a k
    taken k F = (
      record {
        held = F.waiting.held;
        waits = F.waiting.waits;
        one = F.waiting.one;
        answers = answered (after v k).columns (after v k).origins (account (call_of k) (refuses v k) w) F.waiting;
        unblocked = F.tidy.unblocked;
        full = F.tidy.full;
        changes = λ x i j b c h l o. (F.moving x i j h l o).changes;
        to = λ x i j b c h l o. (F.moving x i j h l o).to;
        own = λ d. (F.placed d).own;
        empty = λ d. (F.placed d).empty;
        first = λ d. (F.placed d).first;
        strokes = λ d. (F.drawn d).strokes;
        kinds = λ d. (F.drawn d).kinds;
        meets = λ d. (F.drawn d).meets;
      },
      record { waiting = F.waiting; tidy = F.tidy; shows = F.shows; previous = F.previous },
    )

    -- a step from what the item's verdict, view and shape are known to be
    known : (k : Item) (refused : Bool) (u : View) (g : RowShape)
        → refuses v k ≡ refused → after v k ≡ u → shape_of v (call_of k) ≡ g → Facts (call_of k) refused u g → Step v w a k
    known k refused u g b e s F =
        taken k
        (subst (λ (t : Bool). Facts (call_of k) t (after v k) (shape_of v (call_of k))) (sym b)
        (subst (λ (x : View). Facts (call_of k) refused x (shape_of v (call_of k))) (sym e)
        (subst (λ (h : RowShape). Facts (call_of k) refused u h) (sym s) F)))

    module _ (I : Inv v w a) where
      -- ---- anything refused leaves all as it was
      refused-facts : (c : Call) (g : RowShape) → Facts c true v g
      refused-facts c g =
          record {
            waiting = I.waiting;
            tidy = I.tidy;
            moving = λ x i j h l o.
                record {
                  changes = (λ m. absurd (m (I.waiting.one j i x l h)), λ z. absurd (unpulled c x i g.node_column z));
                  to = λ z. absurd (unpulled c x i g.node_column z);
                };
            placed = λ d. absurd (false≢true (sym (undrawn c) ∙ d));
            drawn = λ d. absurd (false≢true (sym (undrawn c) ∙ d));
            shows = subst (λ (x : Above). Shows x.foot v.columns) (sym (stays-above c g)) I.shows;
            previous = I.previous ∙ ap (λ (x : Above). x.node) (sym (stays-above c g));
          }
        where
          stays-above : (c : Call) (g : RowShape) → left c true g ≡ a
          stays-above c g = rw (undrawn c) refl

      refused-step : (k : Item) → refuses v k ≡ true → after v k ≡ v → Step v w a k
      refused-step k b e = known k true v (shape_of v (call_of k)) b e refl (refused-facts (call_of k) (shape_of v (call_of k)))

      -- ---- a reservation
      stays : (n : ℕ) (o : Found) (i x : ℕ) → Holds v.columns i x → Holds (reserved_in o n v.columns) i x
      stays n (Some j) i x h = h
      stays n None i x h = reserve-stays n v.columns i x h

      is-tidy : (n : ℕ) (o : Found) → Tidy (reserved_in o n v.columns)
      is-tidy n (Some j) = I.tidy
      is-tidy n None = reserve-tidy v.columns (vacant v.columns) n I.tidy

      is-shown : (n : ℕ) (o : Found) → Shows a.foot (reserved_in o n v.columns)
      is-shown n (Some j) = I.shows
      is-shown n None = reserve-shows n v.columns a.foot I.shows

      reserve-facts : (n : ℕ) → Facts (Reserve n) false (with_columns v (reserved n v.columns) (reserved_origins n v.columns v.origins)) no_shape
      reserve-facts n =
          let W : Wait-in (reserved n v.columns) (origin_at (reserved_origins n v.columns v.origins)) (waits_after (Reserve n) w) =
          waits-carried (reserved n v.columns) (origin_at v.origins) (origin_at (reserved_origins n v.columns v.origins)) (waits_after (Reserve n) w) (reserved-carries n v.columns v.origins)
          (reserve-keeps n v.columns (origin_at v.origins) w I.waiting) in
          record {
            waiting = W;
            tidy = is-tidy n (find n v.columns);
            moving = λ x i j h l o.
                record { changes = (λ m. absurd (m (W.one j i x l (stays n (find n v.columns) i x h))), λ z. absurd z); to = λ z. absurd z };
            placed = λ d. absurd (false≢true d);
            drawn = λ d. absurd (false≢true d);
            shows = is-shown n (find n v.columns);
            previous = I.previous;
          }

      reserve-step : (n r : ℕ) → (reserve v n).refusal ≡ r → Step v w a (Plain (Reserve n))
      reserve-step n zero h =
          known (Plain (Reserve n)) false (with_columns v (reserved n v.columns) (reserved_origins n v.columns v.origins)) no_shape (ap is_refusal h) (ap (λ (r : Reply). r.view) (reserve-reply v n zero h)) refl
          (reserve-facts n)
      reserve-step n (suc r) h = refused-step (Plain (Reserve n)) (ap is_refusal h) (ap (λ (r : Reply). r.view) (reserve-reply v n (suc r) h))

      -- ---- a row
      module _ (n : ℕ) (es : List Entry) where
        abbrev c : ℕ
        c = node_column v n

        abbrev p : Placed
        p = place_at c es (put v.columns c Empty)

        abbrev g : RowShape
        g = shape_at v n es p

        abbrev cs : List Column
        cs = (row_after v n p).columns

        W : Wait-in cs (origin_at (row_after v n p).origins) (waits_after (Row n es) w)
        W = row_keeps v n es w I.waiting

        S : Shows (foot_line q g) cs
        S = subst (λ (l : List Stroke). Shows l cs) (sym (foot-line q g)) (foot-shows v n es)

        -- an accepted row moves an id exactly where the definition says
        row-moving : (x i j : ℕ) → Holds v.columns i x → Holds cs j x → (is_drawn (Row n es) false ≡ true → x ≢ n) → Moves (Row n es) false c x i j
        row-moving x i j h l o = record { changes = (go (dec_one x es) (dec_lt c i), back); to = λ t. m.0 t.1 t.2 }
          where
            m : (OneEntry x es → c < i → j ≡ c) × ((OneEntry x es → c < i → ⊥) → j ≡ i)
            m = row-moves v n es w I.waiting x i j h l (o refl)

            go : Dec (OneEntry x es) → Dec (c < i) → j ≢ i → Pulls (Row n es) false x i c
            go (yes a) (yes r) d = (refl, a, r)
            go (yes a) (no r) d = absurd (d (m.1 (λ y b. r b)))
            go (no a) r d = absurd (d (m.1 (λ y b. a y)))

            back : Pulls (Row n es) false x i c → j ≢ i
            back t z =
                let r : c < i = t.2 in
                let y : j ≡ c = m.0 t.1 r in
                omega arith

        row-facts : Facts (Row n es) false (row_after v n p) g
        row-facts =
            record {
              waiting = W;
              tidy = row-end-tidy v.style.dash_style p.settled;
              moving = row-moving;
              placed = λ d. subst (λ (x : Found). NodePlaced v.columns w n c x) I.previous (node-placed v n (origin_at v.origins) w I.waiting);
              drawn = λ d.
                  record {
                    strokes = strokes-of (foot_line q g) cs (origin_at (row_after v n p).origins) (waits_after (Row n es) w) S W;
                    kinds = never_other (foot_line q g) cs S;
                    meets = λ i. ap (λ (l : List Stroke). cell l i) (head-line q g) ∙ head_meets v n es a.foot I.shows i;
                  };
              shows = S;
              previous = refl;
            }

        -- an item that counts as this row is accepted, and the shaper after it is the row's
        accepted-step : (k : Item) → call_of k ≡ Row n es → refuses v k ≡ false → after v k ≡ (row v n es).view → (row v n es).refusal ≡ 0 → Step v w a k
        accepted-step k s b e h =
            let E : row v n es ≡ row_answer zero v n es p = row-reply v n es zero h in
            known k false (row_after v n p) g b (e ∙ ap (λ (r : RowReply). r.view) E) (ap (shape_of v) s ∙ ap (λ (r : RowReply). r.shape) E)
            (subst (λ (t : Call). Facts t false (row_after v n p) g) (sym s) row-facts)

        row_step : (r : ℕ) → (row v n es).refusal ≡ r → Step v w a (Plain (Row n es))
        row_step zero h = accepted-step (Plain (Row n es)) refl (ap is_refusal h) refl h
        row_step (suc r) h = refused-step (Plain (Row n es)) (ap is_refusal h) (row-refused v n es r h)

        -- ---- a text call
        text-step : (t : TextArguments) (r : ℕ) → (text_on v t n es).refusal ≡ r → Step v w a (Text t n es)
        text-step t zero h = accepted-step (Text t n es) refl (ap is_refusal h) (accepted-view v t n es h) (row-accepted v t n es h)
        text-step t (suc r) h = refused-step (Text t n es) (ap is_refusal h) (refused-view v t n es r h)

  step : (v : View) (w : Waiting) (a : Above) (k : Item) → Inv v w a → Step v w a k
  step v w a (Plain (Reserve n)) I = reserve-step v w a I n (reserve v n).refusal refl
  step v w a (Plain (Row n es)) I = row_step v w a I n es (row v n es).refusal refl
  step v w a (Text t n es) I = text-step v w a I n es t (text_on v t n es).refusal refl

  keeps : (v : View) (w : Waiting) (a : Above) → Inv v w a → (ks : List Item) → Each (ours q) (Kept (ours q)) v w a ks
  keeps v w a I [] = tt
  keeps v w a I (k ∷ ks) =
      let r = step v w a k I in
      (r.0, keeps (after v k) (waiting_after (ours q) v k w) (above_after (ours q) v k a) r.1 ks)

start : (v : View) → v.columns ≡ [] → v.previous ≡ None → Inv v nobody nothing_above
start v e p =
    record {
      waiting = rw e
          (record {
            held = λ x h. absurd (h refl);
            waits = λ i x q. absurd (none-ne-some x q);
            one = λ i j x a b. absurd (none-ne-some x a);
          });
      tidy = rw e (record { unblocked = λ i z. omega (arith, ap rank z); full = λ n q. absurd (omega arith) });
      shows = rw e (λ i. refl);
      previous = p;
    }

-- for every renderer, every new shaper, a refused one too, and every list of calls
pub keeps-every-line : (q : Renderer) (o : Options) (ks : List Item) → KeepsEveryLine (ours q) (new_shaper o).view ks
keeps-every-line q o ks =
    let f = new-bare o in
    record { fresh = f.0; calls = keeps q (new_shaper o).view nobody nothing_above (start (new_shaper o).view f.0 f.1) ks }
