-- R-3's words, read over the accepted calls: who first named an id. The account (Account.antt) is shown to say the same.
use Rattle.std.specs.Prelude.{ℕ, Bool, cond, List, [], ◌∷◌, eqb}
use Rattle.std.proofs.Math.Option.{Option, none, some}
use Rattle.history.specs.Account.{Call, Reserve, Row, Wait, Idle, AsReserved, AsNamed, Waiting, nobody, named, account}

-- a call that was made, and whether it was refused
pub record Made : Type 0 where
  pub call : Call
  pub refused : Bool

-- the accepted ones among calls, the newest first
abbrev pub accepted : List Made → List Call
accepted [] = []
accepted (m ∷ ms) = cond m.refused (accepted ms) (m.call ∷ accepted ms)

-- "since, or in, that id's last accepted own row (or ever, without one)" (02, R-3), the newest first
abbrev pub since_own : ℕ → List Call → List Call
since_own x [] = []
since_own x (Reserve n ∷ ks) = Reserve n ∷ since_own x ks
since_own x (Row n es ∷ ks) = Row n es ∷ cond (eqb x n) [] (since_own x ks)

-- "the node in whose accepted row its id was .. named" (02, R-3), if a call is such a row
abbrev pub namer : ℕ → Call → Option ℕ
namer x (Reserve n) = none
namer x (Row n es) = cond (named x es) (some n) none

-- the one that was earlier, else the other
abbrev pub earlier : Option ℕ → Option ℕ → Option ℕ
earlier none o = o
earlier (some m) o = some m

-- "the node in whose accepted row its id was first named" (02, R-3): the oldest of the calls that name it
abbrev pub first_namer : ℕ → List Call → Option ℕ
first_namer x [] = none
first_namer x (k ∷ ks) = earlier (first_namer x ks) (namer x k)

-- "the node in whose accepted row its id was first named since, or in, that id's last accepted own row (or ever, without one)" (02, R-3)
abbrev pub named_first : ℕ → List Made → Option ℕ
named_first x ms = first_namer x (since_own x (accepted ms))

-- what the account says after calls, the newest first
abbrev pub account_of : List Made → Waiting
account_of [] = nobody
account_of (m ∷ ms) = account m.call m.refused (account_of ms)

-- who first named an id, by how it waits; nobody did where it does not wait or was only reserved
abbrev pub starter_of : Wait → Option ℕ
starter_of Idle = none
starter_of AsReserved = none
starter_of (AsNamed m) = some m
