-- Document 01's account of the ids that wait ("Which ids wait"), extended by who first named each (02, R-3). It is fed the calls' arguments and whether each was refused, and nothing out of the columns.
use Rattle.std.specs.Prelude.{ℕ, Bool, true, false, cond, not, ◌||◌, List, [], ◌∷◌, eqb}
use Rattle.column.specs.declared.Started.{Started}
use Rattle.column.specs.declared.Started.TheVariants.{NotWaiting, Unnamed, By}
use Rattle.render.specs.declared.render.Ancestor.{Ancestor as Entry}
use Rattle.render.specs.declared.render.Ancestor.TheVariants.{Ancestor as Indirect, Parent as Direct, Anonymous}

-- the calls of the account: reserving calls and row calls, with their arguments (a text call counts as a row call)
pub data Call : Type 0 where
  Reserve : ℕ → Call
  Row : ℕ → List Entry → Call

-- the id that a call reserves, or draws as its node
abbrev pub call_id : Call → ℕ
call_id (Reserve n) = n
call_id (Row n es) = n

-- whether a call, refused or not, is an accepted row
abbrev pub is_drawn : Call → Bool → Bool
is_drawn (Reserve n) refused = false
is_drawn (Row n es) refused = not refused

-- how an id waits ("waits" in document 01); as named, with "the node in whose accepted row its id was first named since, or in, that id's
-- last accepted own row (or ever, without one)" (02, R-3)
pub data Wait : Type 0 where
  Idle : Wait
  AsReserved : Wait
  AsNamed : ℕ → Wait

-- for each id, whether it waits and how
abbrev pub Waiting : Type 0
Waiting = ℕ → Wait

-- "At first no id waits."
abbrev pub nobody : Waiting
nobody x = Idle

-- "each id in its Ancestor and Parent entries"
abbrev pub names : ℕ → Entry → Bool
names x (Indirect n) = eqb x n
names x (Direct n) = eqb x n
names x Anonymous = false

-- whether an entry names the id
abbrev pub named : ℕ → List Entry → Bool
named x [] = false
named x (e ∷ es) = names x e || named x es

-- "makes its id wait as reserved, unless it waits already"
abbrev pub unless_waiting : Wait → Wait
unless_waiting Idle = AsReserved
unless_waiting AsReserved = AsReserved
unless_waiting (AsNamed m) = AsNamed m

-- "An accepted row first ends the wait of its node's id;"
abbrev pub ended : ℕ → Waiting → Waiting
ended n w x = cond (eqb x n) Idle (w x)

-- who first named an id that a row of n names: who did while it waits as named, else n (02, R-3)
abbrev pub starter : ℕ → Wait → ℕ
starter n Idle = n
starter n AsReserved = n
starter n (AsNamed m) = m

-- "then each id in its Ancestor and Parent entries waits as named, one that was only reserved too."
abbrev pub waits_after : Call → Waiting → Waiting
waits_after (Reserve n) w x = cond (eqb x n) (unless_waiting (w x)) (w x)
waits_after (Row n es) w x = cond (named x es) (AsNamed (starter n (ended n w x))) (ended n w x)

-- "A refused call changes nothing."
abbrev pub account : Call → Bool → Waiting → Waiting
account k true w = w
account k false w = waits_after k w

-- whether an id "waits as named"
abbrev pub Named : Wait → Type 0
Named Idle = ⊥
Named AsReserved = ⊥
Named (AsNamed m) = Unit {0}

-- "A query by id gives that node, none, or not waiting." (02, R-3)
abbrev pub answer_of : Wait → Started
answer_of Idle = NotWaiting
answer_of AsReserved = Unnamed
answer_of (AsNamed m) = By m
