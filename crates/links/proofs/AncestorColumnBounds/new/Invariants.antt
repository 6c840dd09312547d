-- The bounds of the parents' columns, walked upward: the loop keeps `Bounding`.
use lib.ListN.{take}
use Rattle.links.proofs.LinkLaws.{Bounding}
use Rattle.links.proofs.AncestorColumnBounds.new.Given as goal

abbrev pub invariant-loop-i : goal.invariant-loop-i
invariant-loop-i l = Bounding (take l.n l.fn.parents) l.fn.target l.i l.bounds
