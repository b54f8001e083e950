-- The table of strengths.
use Rattle.std.specs.Prelude.{Bool, List, [], ◌∷◌}
use denote.Enum.Bare.{sameb}
use Rattle.floyd_termread_trees.specs.declared.written.Infix.{Infix}
use Rattle.floyd_termread_trees.specs.declared.written.Infix.TheVariants as i
use Rattle.floyd_termread_groups.specs.declared.grouped.Strength.{Strength}
use Rattle.floyd_termread_groups.specs.declared.grouped.Strength.TheVariants as s
use Rattle.floyd_termread_groups.specs.contracts.grouped.Strength.{the_type as strengths}
use Rattle.floyd_termread_groups.specs.declared.strengths.Level.{Level}
use Rattle.floyd_termread_groups.specs.declared.strengths.Level.TheVariants as level

-- how strong an operator between operands is
abbrev pub strength_of : Infix → Strength
strength_of i.Implies = s.Implies
strength_of i.Or = s.Or
strength_of i.And = s.And
strength_of i.Equal = s.Relation
strength_of i.Unequal = s.Relation
strength_of i.AtMost = s.Relation
strength_of i.Less = s.Relation
strength_of i.AtLeast = s.Relation
strength_of i.Greater = s.Relation
strength_of i.Cons = s.Cons
strength_of i.Append = s.Append
strength_of i.Add = s.Sum
strength_of i.Sub = s.Sum
strength_of i.Mul = s.Product

-- All levels, the weakest first: "->", "or", "and"; "not", "forall" and "exists" before a formula; relations; "::", "++",
-- "+" and "-", "*". What stands before an operand and is no part of a formula, "-", is stronger than all.
abbrev pub table : List Level
table =
    level.Between s.Implies ∷ level.Between s.Or ∷ level.Between s.And ∷ level.Before ∷ level.Between s.Relation ∷
    level.Between s.Cons ∷ level.Between s.Append ∷ level.Between s.Sum ∷ level.Between s.Product ∷ []

-- the operator is so strong
abbrev pub has_strength : Strength → Infix → Bool
has_strength strength op = sameb strengths (strength_of op) strength
