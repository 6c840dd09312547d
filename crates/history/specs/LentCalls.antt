-- Demand 3 of the lent calls: a list of calls that have run on one shaper, each as its contract says, and the machine of what they leave.
use Rattle.std.specs.Prelude.{ℕ, ◌≡◌, List, [], ◌∷◌}
use Rattle.render.specs.declared.render.Entry.{Entry}
use Rattle.render.specs.declared.types.RowShape.{RowShape}
use Rattle.column.specs.declared.Started.{Started}
use Rattle.shaper.specs.declared.Shaper.{Shaper}
use Rattle.shaper.specs.Shaper.{view_of, origin}
use Rattle.row_shape.specs.Row.{no_shape}
use Rattle.glyphs.specs.declared.Renderer.{Renderer}
use Rattle.output.specs.declared.TextState.{TextState}
use Rattle.output.specs.Output.{text_view_of}
use Rattle.lineage.specs.Promises.{ancestors, LentReserves, LentRows, LentTexts, LentOrigin, ShapeAnswer, LengthAnswer}
use Rattle.history.specs.Account.{Reserve, Row, answer_of}
use Rattle.history.specs.Demand3.{Machine, Clause, waiting_after}
use Rattle.history.specs.Ours.{Item, Plain, Text, call_of, is_refusal, shape_of, head_line, foot_line}

-- what is lent to a text call beside the shaper, and what it leaves and gives
pub record TextRun : Type 0 where
  pub state : TextState
  pub renderer : Renderer
  pub node : ℕ
  pub entries : List Entry
  pub mark : ℕ
  pub message : List ℕ
  pub output : List ℕ
  pub state' : TextState
  pub output' : List ℕ
  pub answer : LengthAnswer

-- a lent call that has run: its arguments beside the shaper, the shaper at exit, and what it gave
pub data LentCall : Type 0 where
  ReserveRan : ℕ → Shaper → ℕ → LentCall
  RowRan : ℕ → List Entry → Shaper → ShapeAnswer → LentCall
  TextRan : TextRun → Shaper → LentCall

-- the shaper at exit
abbrev pub exit : LentCall → Shaper
exit (ReserveRan n s' r) = s'
exit (RowRan n l s' r) = s'
exit (TextRan a s') = s'

-- the number that the call gave, 0 for none
abbrev pub number : LentCall → ℕ
number (ReserveRan n s' r) = r
number (RowRan n l s' r) = r.refusal
number (TextRan a s') = a.answer.refusal

-- the call's contract, s the shaper at entry
abbrev pub Met : Shaper → LentCall → Type 0
Met s (ReserveRan n s' r) = LentReserves s n s' r
Met s (RowRan n l s' r) = LentRows s n l s' r
Met s (TextRan a s') = LentTexts s a.state a.renderer a.node a.entries a.mark a.message a.output s' a.state' a.output' a.answer

-- "Each call .. gets the shaper as the call before left it, and nobody else writes to it meanwhile."
abbrev pub Ran : Shaper → List LentCall → Type 0
Ran s [] = Unit {0}
Ran s (k ∷ ks) = Met s k × Ran (exit k) ks

-- the call's arguments, as an item of the lists of our machine
abbrev pub item_of : LentCall → Item
item_of (ReserveRan n s' r) = Plain (Reserve n)
item_of (RowRan n l s' r) = Plain (Row n (ancestors l))
item_of (TextRan a s') =
    Text (record { state = text_view_of a.state; renderer = a.renderer; mark = a.mark; message = a.message; output = a.output }) a.node (ancestors a.entries)

-- the shape of a call: what a row call gave; of a text call, that of the row call as which it counts
abbrev pub lent_shape : Shaper → LentCall → RowShape
lent_shape s (ReserveRan n s' r) = no_shape
lent_shape s (RowRan n l s' r) = r.shape
lent_shape s (TextRan a s') = shape_of (view_of s) (Row a.node (ancestors a.entries))

-- the machine of what lent calls leave: its states are the shapers themselves, and what is seen of a call is what the call gave; a query
-- gives what `lineage::origin` promises
abbrev pub lent : Renderer → Machine
lent q =
    record {
      State = Shaper;
      columns = λ s. (view_of s).columns;
      origins = λ s. (view_of s).origins;
      query = λ s. origin (view_of s);
      Item = LentCall;
      call = λ k. call_of (item_of k);
      refuses = λ s k. is_refusal (number k);
      after = λ s k. exit k;
      node = λ s k. (lent_shape s k).node_column;
      head = λ s k. head_line q (lent_shape s k);
      foot = λ s k. foot_line q (lent_shape s k);
    }

-- whatever `lineage::origin` gives for an id on the shaper that a call leaves, as its contract says, is what the account says
abbrev pub Queried : (q : Renderer) → Clause (lent q)
Queried q s w a k = (x : ℕ) (r : Started) → LentOrigin (exit k) x r → r ≡ answer_of (waiting_after (lent q) s k w x)
