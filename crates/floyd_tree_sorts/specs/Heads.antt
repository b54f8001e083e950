-- The variables of heads.
use Rattle.std.specs.Prelude.{ℕ, Bool, false, List, bytes_eq}
use Rattle.floyd_tree_sorts.specs.declared.connectives.FormulaHead.{FormulaHead}
use Rattle.floyd_tree_sorts.specs.declared.connectives.FormulaHead.TheVariants.{Forall, Exists}
use Rattle.floyd_tree_sorts.specs.declared.heads.Head.{Head}
use Rattle.floyd_tree_sorts.specs.declared.heads.Head.TheVariants.{Variable}

-- whether the head is the variable
abbrev pub is_variable : List ℕ → Head → Bool
is_variable x (Variable y sort) = bytes_eq x y
is_variable x head = false

-- whether a head binds the variable in its kids
abbrev pub binds : List ℕ → FormulaHead → Bool
binds x (Forall y sort) = bytes_eq x y
binds x (Exists y sort) = bytes_eq x y
binds x head = false
