-- The promise of the width call.
use Rattle.std.specs.Prelude.{ℕ, Option, ◌≡◌}
use Rattle.shaper.specs.declared.Shaper.{Shaper}
use Rattle.render.specs.declared.render.Entries.{Entries}
use Rattle.render.specs.Entries.{listed}
use Rattle.shaper.specs.Shaper.{view_of}
use Rattle.width.specs.Width.{WidthAnswer, width}

-- what the width call promises
pub record Widths (s : Shaper) (n : Option ℕ) (es : Entries) (r : WidthAnswer) : Type 0 where
  pub reply : r ≡ width (view_of s) n (listed es)
