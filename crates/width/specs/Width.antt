-- The width call (`width_with_options` in graph_to_row_shape.rs): the Rust's figure, which may differ from the row's own width.
use Rattle.std.specs.Prelude.{ℕ, zero, suc, ◌+◌, ◌-◌, Bool, cond, List, [], ◌∷◌, eqb, length, get_or, Option, Some, None, Result, Ok, Err}
use Rattle.std.specs.List.{count_by}
use Rattle.column.specs.declared.Column.{Column}
use Rattle.column.specs.declared.Column.TheVariants.{Blocked}
use Rattle.column.specs.Found.{Found}
use Rattle.column.specs.Columns.{is_empty, find}
use Rattle.render.specs.declared.render.Ancestor.{Ancestor as Entry}
use Rattle.width.specs.declared.Room.{Room}
use Rattle.render.specs.Entries.{is_too_many}
use Rattle.render.specs.declared.refusals.Refusal.{Refusal}
use Rattle.render.specs.Refusals.{not_refused, too_many_entries, ◌when◌, refusal, number}
use Rattle.shaper.specs.Shaper.{View, is_nothing}
use Rattle.shaper.specs.NodeColumn.{dense}
use Rattle.placing.specs.Placing.{held_by}

-- staggering keeps an id that no column holds out of the previous node's column (`width_with_options`)
abbrev pub apart : Found → List Column → Room → Room
apart None cs r = r
apart (Some p) cs r =
    cond (is_empty (get_or cs p Blocked)) (record { wide = r.wide; free = r.free - 1 })
    (cond (eqb p (length cs)) (record { wide = r.wide + 1; free = r.free }) r)

-- the node takes an Empty column, else a new one (`width_with_options`)
abbrev pub take_one : Room → Room
take_one r = cond (eqb r.free 0) (record { wide = r.wide + 1; free = 0 }) (record { wide = r.wide; free = r.free - 1 })

-- "(node and entries may each be absent)": a node that a column holds takes no other
abbrev pub for_node : View → Option ℕ → Room → Room
for_node v None r = r
for_node v (Some n) r = cond (is_nothing (find n v.columns)) (take_one (cond (dense v) (apart v.previous v.columns r) r)) r

-- whether no column holds an entry's id (`width_with_options`)
abbrev pub unheld : List Column → Entry → Bool
unheld cs e = is_nothing (held_by e cs)

-- what the width call gives: the refusal's number, 0 for none, and the width
pub record WidthAnswer : Type 0 where
  pub refusal : ℕ
  pub width : ℕ

-- the result of a width call, as the answer
abbrev pub width_answer_from : Result ℕ Refusal → WidthAnswer
width_answer_from (Ok w) = record { refusal = not_refused; width = w }
width_answer_from (Err e) = record { refusal = number e; width = 0 }

-- a refusal gives "width 0"
abbrev pub width_answer : ℕ → ℕ → WidthAnswer
width_answer zero w = record { refusal = 0; width = w }
width_answer (suc k) w = record { refusal = suc k; width = 0 }

-- `width_with_options`: entries without a column need one each, except for the Empty ones and the node's own
unfoldable pub width : View → Option ℕ → List Entry → WidthAnswer
width v n es =
    let r : Room = for_node v n (record { wide = length v.columns; free = count_by is_empty v.columns }) in
    width_answer (refusal ((too_many_entries when is_too_many es) ∷ [])) (r.wide + (count_by (unheld v.columns) es - r.free - 1))
