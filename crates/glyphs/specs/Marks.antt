-- The marks of a link cell by name, and their unions (render.rs), each in the bit place of its constant in render.rt.
use Rattle.render.specs.declared.render.LinkLine.{LinkLine}
use Rattle.render.specs.Link.{joined}

abbrev pub horiz_parent : LinkLine
horiz_parent = record { bits = 1 }

abbrev pub horiz_ancestor : LinkLine
horiz_ancestor = record { bits = 2 }

abbrev pub vert_parent : LinkLine
vert_parent = record { bits = 4 }

abbrev pub vert_ancestor : LinkLine
vert_ancestor = record { bits = 8 }

abbrev pub left_fork_parent : LinkLine
left_fork_parent = record { bits = 16 }

abbrev pub left_fork_ancestor : LinkLine
left_fork_ancestor = record { bits = 32 }

abbrev pub right_fork_parent : LinkLine
right_fork_parent = record { bits = 64 }

abbrev pub right_fork_ancestor : LinkLine
right_fork_ancestor = record { bits = 128 }

abbrev pub left_merge_parent : LinkLine
left_merge_parent = record { bits = 256 }

abbrev pub left_merge_ancestor : LinkLine
left_merge_ancestor = record { bits = 512 }

abbrev pub right_merge_parent : LinkLine
right_merge_parent = record { bits = 1024 }

abbrev pub right_merge_ancestor : LinkLine
right_merge_ancestor = record { bits = 2048 }

abbrev pub child : LinkLine
child = record { bits = 4096 }

-- "A name without the ending is the union of its two" (01, point 2)
abbrev pub horizontal : LinkLine
horizontal = joined horiz_parent horiz_ancestor

abbrev pub vertical : LinkLine
vertical = joined vert_parent vert_ancestor

abbrev pub left_fork : LinkLine
left_fork = joined left_fork_parent left_fork_ancestor

abbrev pub right_fork : LinkLine
right_fork = joined right_fork_parent right_fork_ancestor

abbrev pub left_merge : LinkLine
left_merge = joined left_merge_parent left_merge_ancestor

abbrev pub right_merge : LinkLine
right_merge = joined right_merge_parent right_merge_ancestor

abbrev pub any_merge : LinkLine
any_merge = joined left_merge right_merge

abbrev pub any_fork : LinkLine
any_fork = joined left_fork right_fork

abbrev pub any_fork_or_merge : LinkLine
any_fork_or_merge = joined any_merge any_fork
