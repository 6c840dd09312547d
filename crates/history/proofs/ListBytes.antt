-- Head line and foot line as bytes, of every accepted row of a list: of our machine, of one whose calls are alike and have the same shapes, and of the lent calls.
use mathlib.Core.Path.{◌≡◌, sym, ◌∙◌, ap₂}
use mathlib.Core.Bool.{Bool, true, false≢true}
use mathlib.Core.List.{List, [], ◌∷◌}
use Rattle.render.specs.declared.types.Options.{Options}
use Rattle.render.specs.declared.types.RowShape.{RowShape}
use Rattle.shaper.specs.declared.Shaper.{Shaper}
use Rattle.shaper.specs.Shaper.{View, view_of, new_shaper}
use Rattle.glyphs.specs.declared.Renderer.{Renderer}
use Rattle.history.specs.Account.{Call, Reserve, Row, Waiting, nobody, is_drawn}
use Rattle.history.specs.Demand3.{Machine, Above, nothing_above, draws, Each}
use Rattle.history.specs.Ours.{Item, call_of, refuses, shape_of, item_shape, after, head_line, foot_line, ours}
use Rattle.history.specs.LentCalls.{LentCall, exit, Ran, item_of, lent_shape, lent}
use Rattle.history.specs.Bytes.{AlwaysWritten, LinesInBytes}
use Rattle.history.proofs.AsRow.{row_number, drawn-accepted}
use Rattle.history.proofs.Alike.{Alike}
use Rattle.history.proofs.Bytes.{lines-written}
use Rattle.history.proofs.LentKeeps.{same, alike}

-- ---- our machine
item-bytes : (q : Renderer) (v : View) (w : Waiting) (a : Above) (k : Item) → LinesInBytes (ours q) item_shape q v w a k
item-bytes q v w a k d = go (call_of k) (refuses v k) d (drawn-accepted v k d)
  where
    go : (c : Call) (r : Bool) → is_drawn c r ≡ true → row_number v c ≡ 0 → AlwaysWritten q (shape_of v c) (head_line q (shape_of v c)) (foot_line q (shape_of v c))
    go (Reserve n) r d e = absurd (false≢true d)
    go (Row n es) r d e = λ mark out good room. lines-written v n es q mark out e good room

all-bytes : (q : Renderer) (v : View) (w : Waiting) (a : Above) (ks : List Item) → Each (ours q) (LinesInBytes (ours q) item_shape q) v w a ks
all-bytes q v w a [] = tt
all-bytes q v w a (k ∷ ks) = (item-bytes q v w a k, all-bytes q (after v k) _ _ ks)

-- of each accepted row in any list on a new shaper
pub lines-in-bytes : (q : Renderer) (o : Options) (ks : List Item) → Each (ours q) (LinesInBytes (ours q) item_shape q) (new_shaper o).view nobody nothing_above ks
lines-in-bytes q o ks = all-bytes q (new_shaper o).view nobody nothing_above ks

-- ---- a call of another machine, alike with one of ours and of the same shape
pub alike-bytes : (M : Machine) (shape : M.State → M.Item → RowShape) (q : Renderer) (s : M.State) (v : View) (w : Waiting) (a : Above) (k : M.Item) (l : Item)
    → Alike M (ours q) s v k l → shape s k ≡ item_shape v l → LinesInBytes M shape q s w a k
alike-bytes M shape q s v w a k l e f d =
    let drawn : draws (ours q) v l ≡ true = sym (ap₂ is_drawn e.call e.verdict) ∙ d in
    rw (f, e.head, e.foot) (item-bytes q v w a l drawn)

-- ---- the lent calls: of the shapes that they gave
lent-bytes : (q : Renderer) (s : Shaper) (w : Waiting) (a : Above) (ks : List LentCall) → Ran s ks → Each (lent q) (LinesInBytes (lent q) lent_shape q) s w a ks
lent-bytes q s w a [] r = tt
lent-bytes q s w a (k ∷ ks) r =
    let e = same s k r.0 in
    (alike-bytes (lent q) lent_shape q s (view_of s) w a k (item_of k) (alike q s k e) e.shape, lent-bytes q (exit k) _ _ ks r.1)

pub lent-lines-in-bytes : (q : Renderer) (s : Shaper) (ks : List LentCall) → Ran s ks → Each (lent q) (LinesInBytes (lent q) lent_shape q) s nobody nothing_above ks
lent-lines-in-bytes q s ks r = lent-bytes q s nobody nothing_above ks r
