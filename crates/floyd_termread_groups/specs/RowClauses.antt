-- The links of a written row, as the program looks at them.
use Rattle.std.specs.Prelude.{Bool, not}
use Rattle.floyd_termread_trees.specs.declared.written.Link.{Link}
use Rattle.floyd_termread_groups.specs.declared.grouped.Strength.{Strength}
use Rattle.floyd_termread_groups.specs.Groups.{Step, step_of, operand}
use Rattle.floyd_termread_groups.specs.Strengths.{has_strength}

abbrev pub step_at : Link → Step
step_at link = step_of link.«infix» link.place (operand link.operand)

-- its operator is not so strong
abbrev pub is_other : Strength → Link → Bool
is_other strength link = not (has_strength strength link.«infix»)
