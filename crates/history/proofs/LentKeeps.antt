-- Demand 3 of the lent calls: what their contracts say of each is what our machine gives, so that the theorem speaks of what they leave.
use mathlib.Core.Path.{◌≡◌, refl, ◌∙◌, ap, ap₂}
use mathlib.Core.List.{List, [], ◌∷◌, map}
use Rattle.render.specs.declared.types.Options.{Options}
use Rattle.render.specs.declared.types.RowShape.{RowShape}
use Rattle.shaper.specs.declared.Shaper.{Shaper}
use Rattle.shaper.specs.Shaper.{View, Reply, view_of, origin, Fresh, Answer}
use Rattle.row_shape.specs.Row.{RowReply}
use Rattle.text.specs.Text.{TextReply}
use Rattle.glyphs.specs.declared.Renderer.{Renderer}
use Rattle.history.specs.Account.{nobody}
use Rattle.history.specs.Demand3.{nothing_above, Kept, Each, KeepsEveryLine}
use Rattle.history.specs.Follows.{leaves, verdicts}
use Rattle.history.specs.Ours.{is_refusal, refuses, after, call_of, shape_of, head_line, foot_line, ours}
use Rattle.history.specs.LentCalls.{LentCall, ReserveRan, RowRan, TextRan, exit, number, Met, Ran, item_of, lent_shape, lent, Queried}
use Rattle.history.proofs.Alike.{Alike, AllAlike, alike-keeps}
use Rattle.history.proofs.Keeps.{keeps-every-line}
use Rattle.history.proofs.Follows.{each}

-- what a call leaves and gives, and what our machine gives for it
pub record Same (s : Shaper) (k : LentCall) : Type 0 where
  pub view : view_of (exit k) ≡ after (view_of s) (item_of k)
  pub verdict : is_refusal (number k) ≡ refuses (view_of s) (item_of k)
  pub shape : lent_shape s k ≡ shape_of (view_of s) (call_of (item_of k))

pub same : (s : Shaper) (k : LentCall) → Met s k → Same s k
same s (ReserveRan n s' r) m = record { view = ap (λ (a : Reply). a.view) m.reply; verdict = ap (λ (a : Reply). is_refusal a.refusal) m.reply; shape = refl }
same s (RowRan n l s' r) m =
    record { view = ap (λ (a : RowReply). a.view) m.reply; verdict = ap (λ (a : RowReply). is_refusal a.refusal) m.reply; shape = ap (λ (a : RowReply). a.shape) m.reply }
same s (TextRan a s') m =
    record { view = ap (λ (a : TextReply). a.view) m.reply; verdict = ap (λ (a : TextReply). is_refusal a.refusal) m.reply; shape = refl }

-- what the whole list leaves, and which calls were refused, is what our machine gives for it
pub lent-calls-leave : (q : Renderer) (s : Shaper) (ks : List LentCall) → Ran s ks → view_of (leaves (lent q) s ks) ≡ leaves (ours q) (view_of s) (map item_of ks)
lent-calls-leave q s [] r = refl
lent-calls-leave q s (k ∷ ks) r = lent-calls-leave q (exit k) ks r.1 ∙ ap (λ (v : View). leaves (ours q) v (map item_of ks)) (same s k r.0).view

pub lent-calls-refuse : (q : Renderer) (s : Shaper) (ks : List LentCall) → Ran s ks → verdicts (lent q) s ks ≡ verdicts (ours q) (view_of s) (map item_of ks)
lent-calls-refuse q s [] r = refl
lent-calls-refuse q s (k ∷ ks) r =
    let e = same s k r.0 in
    ap₂ ◌∷◌ e.verdict (lent-calls-refuse q (exit k) ks r.1 ∙ ap (λ (v : View). verdicts (ours q) v (map item_of ks)) e.view)

-- ---- demand 3
pub alike : (q : Renderer) (s : Shaper) (k : LentCall) → Same s k → Alike (lent q) (ours q) s (view_of s) k (item_of k)
alike q s k e =
    record {
      columns = refl;
      call = refl;
      verdict = e.verdict;
      after = ap (λ (v : View). v.columns) e.view;
      origins = ap (λ (v : View). v.origins) e.view;
      query = ap origin e.view;
      node = ap (λ (g : RowShape). g.node_column) e.shape;
      head = ap (head_line q) e.shape;
      foot = ap (foot_line q) e.shape;
    }

all_alike : (q : Renderer) (s : Shaper) (ks : List LentCall) → Ran s ks → AllAlike (lent q) (ours q) s (view_of s) ks (map item_of ks)
all_alike q s [] r = tt
all_alike q s (k ∷ ks) r =
    let e = same s k r.0 in
    (alike q s k e, rw (← e.view) (all_alike q (exit k) ks r.1))

-- whatever list of lent calls has run on a new shaper, each as its contract says, a drawn history keeps every line
pub lent-calls-keep : (q : Renderer) (o : Options) (a : Answer) → Fresh o a → (ks : List LentCall) → Ran a.shaper ks → KeepsEveryLine (lent q) a.shaper ks
lent-calls-keep q o a n ks r =
    let K : KeepsEveryLine (ours q) (view_of a.shaper) (map item_of ks) = rw (ap (λ (x : Reply). x.view) n.reply) (keeps-every-line q o (map item_of ks)) in
    record {
      fresh = K.fresh;
      calls = alike-keeps (lent q) (ours q) a.shaper (view_of a.shaper) ks (map item_of ks) nobody nothing_above (all_alike q a.shaper ks r) K.calls;
    }

-- "A query by id gives that node, none, or not waiting." (02, R-3), of the call itself, after each call
pub lent-queries-answer : (q : Renderer) (o : Options) (a : Answer) → Fresh o a → (ks : List LentCall) → Ran a.shaper ks
    → Each (lent q) (Queried q) a.shaper nobody nothing_above ks
lent-queries-answer q o a n ks r =
    each (lent q) (Kept (lent q)) (Queried q) (λ s w b k K x y h. h ∙ K.answers x) a.shaper nobody nothing_above ks (lent-calls-keep q o a n ks r).calls
