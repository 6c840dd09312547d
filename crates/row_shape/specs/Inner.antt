-- What the inner functions of the row call give.
use Rattle.std.specs.Prelude.{ℕ, Bool, []}
use Rattle.column.specs.Found.{Found}
use Rattle.render.specs.declared.types.Options.{Options}
use Rattle.shaper.specs.Shaper.{view_with}
use Rattle.row_shape.specs.Row.{separator}

-- whether a row needs a separator, by the options and the previous node's column
abbrev pub separator_with : Options → Found → Found → ℕ → Bool → Bool
separator_with o previous existing c terms = separator (view_with [] [] previous o) existing c terms
