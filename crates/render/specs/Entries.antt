-- Parent entries (01, point 2), and the list that an array of them stands for.
use Rattle.std.specs.Prelude.{ℕ, suc, Bool, true, false, cond, ◌||◌, List, map, ltb, leb, length, take, set, replicate}
use Rattle.std.proofs.Math.Option.{Option, none, some}
use Rattle.render.specs.declared.render.Ancestor.{Ancestor}
use Rattle.render.specs.declared.render.Ancestor.TheVariants.{Ancestor as Indirect, Parent as Direct, Anonymous}
use Rattle.render.specs.declared.render.Entry.{Entry}
use Rattle.render.specs.declared.render.Entries.{Entries}

-- "The limit of 32 becomes 8 wherever 01 uses it, so a row and a record have one limit." (02, R-5)
abbrev pub entry_limit : ℕ
entry_limit = 8

-- "Anonymous (no id ..)" (01, point 2; `ancestor_id` in graph_to_row_shape.rs)
abbrev pub entry_id : Ancestor → Option ℕ
entry_id (Indirect n) = some n
entry_id (Direct n) = some n
entry_id Anonymous = none

-- "Anonymous" (01, point 2)
abbrev pub is_anonymous : Ancestor → Bool
is_anonymous (Indirect n) = false
is_anonymous (Direct n) = false
is_anonymous Anonymous = true

-- "more than 32 entries" (01, the table's row for row, width, text); "Nine entries now give 3" (02, R-5)
abbrev pub is_too_many : List Ancestor → Bool
is_too_many es = ltb entry_limit (length es)

-- the entries that an array holds: its first ones
abbrev pub given : Entries → List Ancestor
given es = map (λ (e : Entry). e.ancestor) (take es.count es.list)

-- a list longer than the limit; which one makes no difference, since every call gives 3 for it
abbrev pub overlong : List Ancestor
overlong = replicate (suc entry_limit) Anonymous

-- the list that entries by value stand for: with the flag, or with too great a count, one longer than the limit
abbrev pub listed : Entries → List Ancestor
listed es = cond (es.too_many || ltb entry_limit es.count) overlong (given es)

-- a list as entries by value hold it: itself, or one longer than the limit where it is too long
abbrev pub capped : List Ancestor → List Ancestor
capped es = cond (is_too_many es) overlong es

-- the array without entries
abbrev pub no_entries : Entries
no_entries = record { list = replicate entry_limit (record { ancestor = Anonymous }); count = 0; too_many = false }

-- one entry more, while there is room; else there are too many
abbrev pub pushed : Entries → Entry → Entries
pushed es e =
    cond (leb entry_limit es.count) (record { list = es.list; count = es.count; too_many = true })
    (record { list = set es.list es.count e; count = suc es.count; too_many = es.too_many })
