-- Each wrong machine fails at the clause that it breaks, on a list of one or two calls; so demand 3 is false of it (`falls` in proofs/Follows.antt).
use Prim.Native.Nat.{ℕ}
use mathlib.Core.Path.{◌≡◌, refl, sym, ap, subst}
use mathlib.Core.Bool.{false, false≢true}
use mathlib.Core.List.{List, [], ◌∷◌}
use mathlib.Core.Option.{none-ne-some, some-injective}
use native.Mathlib.Omega.{arith}
use lib.ListN.{length, replicate}
use Rattle.column.specs.declared.Started.{Started}
use Rattle.column.specs.declared.Started.TheVariants.{NotWaiting, Unnamed, By}
use Rattle.column.specs.Columns.{rank}
use Rattle.render.specs.declared.render.Ancestor.TheVariants.{Ancestor, Parent, Anonymous}
use Rattle.shaper.specs.Shaper.{View, is_nothing, reserve}
use Rattle.placing.specs.Placing.{place}
use Rattle.row_shape.specs.Row.{row}
use Rattle.glyphs.specs.declared.Renderer.TheVariants.{Curved}
use Rattle.glyphs.specs.Cells.{choice_of, glyphs_of, bytes_of}
use Rattle.output.specs.Output.{new_text}
use Rattle.text.specs.Text.{text_with}
use Rattle.marked.specs.Marked.{plain}
use Rattle.history.specs.Account.{Call, Reserve, Row, Wait, Idle, AsReserved, AsNamed, nobody, account, Named}
use Rattle.history.specs.Demand3.{Held, Waits, One, Answers, Unblocked, Full, Changes, To, OwnColumn, EmptyColumn, FirstColumn, Strokes, Kinds, Meets, KeepsEveryLine}
use Rattle.history.specs.Ours.{Item, Text, ours}
use Rattle.history.specs.Wrong.{Fails, stale, forgetting, keeping, doubling, blocking, untrimmed, reversing, pulling, unswapping, far_from_own, on_another, far_right, blank_feet, reserved_drawn, garbling, blank_heads, dashed_over_node, latest_namer, kept_over_own_row, left_behind, unnamed_by_itself, unkept, untouched, blank_later, text_ignored}
use Rattle.history.proofs.Waits.{named≢idle, reserved≢idle}

-- a row of two parents, of which the second waits to the right, and then the first's own row, with the second as its one parent entry
abbrev pulled_row : List Call
pulled_row = Row 1 (Parent 2 ∷ Parent 3 ∷ []) ∷ Row 2 (Parent 3 ∷ []) ∷ []

-- a new shaper, and the true one beside it
abbrev both : View × View
both = (plain, plain)

-- ---- the start
pub not-stale : KeepsEveryLine (ours Curved) (stale plain) [] → ⊥
not-stale k = let z : ◌≡◌ {A = ℕ} 1 0 = ap length k.fresh in omega arith

-- ---- the ids that wait
pub not-forgetting : Fails forgetting (Held forgetting) both (Reserve 5 ∷ [])
unfolding reserve
not-forgetting k = none-ne-some 5 (k.0 5 reserved≢idle).1

pub not-keeping : Fails keeping (Waits keeping) both (Row 1 [] ∷ [])
unfolding row place
not-keeping k = reserved≢idle (sym (k.0 0 1 refl))

pub not-doubling : Fails doubling (One doubling) both (Reserve 5 ∷ [])
unfolding reserve
not-doubling k = let z : ◌≡◌ {A = ℕ} 0 1 = k.0 0 1 5 refl refl in omega arith

-- ---- the columns after a call
pub not-blocking : Fails blocking (Unblocked blocking) both (Row 1 (Parent 2 ∷ Anonymous ∷ []) ∷ [])
unfolding row place
not-blocking k = k.0 1 refl

pub not-untrimmed : Fails untrimmed (Full untrimmed) both (Row 1 [] ∷ [])
unfolding row place
not-untrimmed k = k.0 0 refl refl

-- ---- the ids that move
pub not-reversing : Fails reversing (Changes reversing) both (Row 1 (Parent 2 ∷ Parent 3 ∷ []) ∷ Reserve 9 ∷ [])
unfolding row place reserve
not-reversing k = (k.1.0 2 0 2 (named≢idle 1) (named≢idle 1) refl refl (λ d. absurd (false≢true d))).0 (λ z. omega (arith, z))

pub not-pulling : Fails pulling (To pulling) both pulled_row
unfolding row place
not-pulling k =
    let z : ◌≡◌ {A = ℕ} 2 0 = k.1.0 3 1 2 (named≢idle 1) (named≢idle 1) refl refl (λ d e. omega (arith, e)) (refl, refl, omega arith) in
    omega arith

pub not-unswapping : Fails unswapping (Changes unswapping) both pulled_row
unfolding row place
not-unswapping k =
    (k.1.0 3 1 1 (named≢idle 1) (named≢idle 1) refl refl (λ d e. omega (arith, e))).1 (refl, refl, omega arith) refl

-- ---- the node's column
pub not-far-from-own : Fails far_from_own (OwnColumn far_from_own) both (Row 1 (Parent 2 ∷ []) ∷ Row 2 [] ∷ [])
unfolding row place
not-far-from-own k = none-ne-some 2 (k.1.0 refl (named≢idle 1))

pub not-on-another : Fails on_another (EmptyColumn on_another) both (Row 1 (Parent 2 ∷ []) ∷ Row 9 [] ∷ [])
unfolding row place
not-on-another k = let z : ◌≡◌ {A = ℕ} 4 0 = ap rank (k.1.0 refl refl) in omega arith

pub not-far-right : Fails far_right (FirstColumn far_right) both (Row 1 [] ∷ [])
unfolding row place
not-far-right k = false≢true (sym (ap is_nothing (k.0 refl refl 0 (omega arith) refl)))

-- ---- the lines
pub not-blank-feet : Fails blank_feet (Strokes blank_feet) both (Row 1 (Parent 2 ∷ []) ∷ Row 2 (Parent 3 ∷ []) ∷ [])
unfolding row place
not-blank-feet k = (k.1.0 refl 0).1 (3, refl, tt)

pub not-reserved-drawn : Fails reserved_drawn (Strokes reserved_drawn) both (Reserve 5 ∷ Row 1 (Parent 2 ∷ []) ∷ [])
unfolding row place reserve
not-reserved-drawn k =
    let s = (k.1.0 refl 0).0 tt in
    let e : ◌≡◌ {A = ℕ} 5 s.0 = some-injective 5 s.0 s.1 in
    subst (λ (x : ℕ). Named (account (Row 1 (Parent 2 ∷ [])) false (account (Reserve 5) false nobody) x)) (sym e) s.2

pub not-garbling : Fails garbling (Kinds garbling) (plain, []) (Row 1 [] ∷ [])
unfolding row place choice_of
not-garbling k = k.0 refl 0 refl

pub not-blank-heads : Fails blank_heads (Meets blank_heads) both (Row 1 (Parent 2 ∷ []) ∷ Row 2 [] ∷ [])
unfolding row place choice_of
not-blank-heads k =
    let e = k.1.0 refl 0 in
    cc

pub not-dashed-over-node : Fails dashed_over_node (Meets dashed_over_node) both (Row 1 (Ancestor 2 ∷ []) ∷ Row 2 [] ∷ [])
unfolding row place choice_of
not-dashed-over-node k =
    let e = k.1.0 refl 0 in
    cc

-- ---- who started a line (02, R-3)

-- the node of an id that waits as named
abbrev node_of : Wait → ℕ
node_of Idle = 0
node_of AsReserved = 0
node_of (AsNamed m) = m

-- the node that a query gave
abbrev started_node : Started → ℕ
started_node NotWaiting = 0
started_node Unnamed = 0
started_node (By m) = m

-- two rows that name 9: the first of them counts
abbrev named_twice : List Call
named_twice = Row 1 (Parent 9 ∷ []) ∷ Row 2 (Parent 9 ∷ []) ∷ []

pub not-latest-namer : Fails latest_namer (Waits latest_namer) plain named_twice
unfolding row place
not-latest-namer k = let z : ◌≡◌ {A = ℕ} 1 2 = ap node_of (k.1.0 0 9 refl) in omega arith

pub no-latest-answer : Fails latest_namer (Answers latest_namer) plain named_twice
unfolding row place
no-latest-answer k = let z : ◌≡◌ {A = ℕ} 2 1 = ap started_node (k.1.0 9) in omega arith

-- 9 is named, and then names itself in its own row, which counts
abbrev names_itself : List Call
names_itself = Row 1 (Parent 9 ∷ []) ∷ Row 9 (Parent 9 ∷ []) ∷ []

pub not-kept-over-own-row : Fails kept_over_own_row (Waits kept_over_own_row) plain names_itself
unfolding row place
not-kept-over-own-row k = let z : ◌≡◌ {A = ℕ} 9 1 = ap node_of (k.1.0 0 9 refl) in omega arith

pub no-answer-from-before-own-row : Fails kept_over_own_row (Answers kept_over_own_row) plain names_itself
unfolding row place
no-answer-from-before-own-row k = let z : ◌≡◌ {A = ℕ} 1 9 = ap started_node (k.1.0 9) in omega arith

-- 3 moves to the node's column, and its origin, 6, with it; that column carried 5
abbrev moved_row : List Call
moved_row = Row 5 (Parent 2 ∷ []) ∷ Row 6 (Parent 3 ∷ []) ∷ Row 2 (Parent 3 ∷ []) ∷ []

pub not-left-behind : Fails left_behind (Waits left_behind) plain moved_row
unfolding row place
not-left-behind k = let z : ◌≡◌ {A = ℕ} 6 5 = ap node_of (k.1.1.0 0 3 refl) in omega arith

pub no-answer-left-behind : Fails left_behind (Answers left_behind) plain moved_row
unfolding row place
no-answer-left-behind k = let z : ◌≡◌ {A = ℕ} 5 6 = ap started_node (k.1.1.0 3) in omega arith

pub not-unnamed-by-itself : Fails unnamed_by_itself (Answers unnamed_by_itself) plain (Row 9 (Parent 9 ∷ []) ∷ [])
unfolding row place
not-unnamed-by-itself k = let z : ◌≡◌ {A = ℕ} 0 9 = ap started_node (k.0 9) in omega arith

pub not-unkept : Fails unkept (Waits unkept) plain (Row 1 (Parent 2 ∷ []) ∷ [])
unfolding row place
not-unkept k = let z : ◌≡◌ {A = ℕ} 1 0 = ap node_of (k.0 0 2 refl) in omega arith

-- ---- document 01's own, and a text call that counts for nothing
pub not-untouched : Fails untouched (Held untouched) both (Row 1 (Parent 2 ∷ []) ∷ [])
unfolding row place
not-untouched k = none-ne-some 2 (k.0 2 (named≢idle 1)).1

pub not-blank-later : Fails blank_later (Strokes blank_later) both (Row 1 (Parent 2 ∷ []) ∷ Row 2 (Parent 3 ∷ []) ∷ [])
unfolding row place
not-blank-later k = (k.1.0 refl 0).1 (3, refl, tt)

-- a text call of a row with one parent
abbrev text_row : Item
text_row = Text (record { state = new_text; renderer = Curved; mark = 0x6f; message = []; output = replicate 16 0 }) 1 (Parent 2 ∷ [])

pub not-text-ignored : Fails text_ignored (Held text_ignored) plain (text_row ∷ [])
unfolding row place text_with choice_of glyphs_of bytes_of
not-text-ignored k = none-ne-some 2 (k.0 2 (named≢idle 1)).1
