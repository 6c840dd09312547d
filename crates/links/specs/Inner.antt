-- What the inner functions give for a link line, on arrays and counts: steps on the way to the definitions of Links.
use Rattle.std.specs.Prelude.{ℕ, min, max, cond, List, get_or, take, unwrap_or}
use Rattle.links.specs.declared.Drawn.{Drawn}
use Rattle.links.specs.declared.Drawn.TheVariants.{Nobody}
use Rattle.links.specs.declared.AncestorColumnBounds.{AncestorColumnBounds}
use Rattle.links.specs.declared.Swap.{Swap}
use Rattle.links.specs.Links.{is_drawn, is_directly_drawn}

-- who draws in column i of an array
abbrev pub kind_at : List Drawn → ℕ → Drawn
kind_at l i = get_or l i Nobody

-- who draws in each of the first n columns of an array
abbrev pub kinds : ℕ → List Drawn → List Drawn
kinds n l = take n l

-- the bounds with one more column
abbrev pub reaching : AncestorColumnBounds → ℕ → Drawn → AncestorColumnBounds
reaching b i d =
    let c : ℕ = b.target in
    record {
      target = c;
      min_ancestor = min b.min_ancestor (cond (is_drawn d) i c);
      min_parent = min b.min_parent (cond (is_directly_drawn d) i c);
      max_parent = max b.max_parent (cond (is_directly_drawn d) i c);
      max_ancestor = max b.max_ancestor (cond (is_drawn d) i c);
    }

-- the first column that the entries or the swap reach
abbrev pub reach_start : AncestorColumnBounds → Swap → ℕ
reach_start b w = min (unwrap_or w.given_up b.min_ancestor) b.min_ancestor

-- the last one
abbrev pub reach_last : AncestorColumnBounds → Swap → ℕ
reach_last b w = max (unwrap_or w.given_up b.max_ancestor) b.max_ancestor
