-- What the calls of FUNs that keep the rules take.
use Rattle.floyd_tree_values.specs.Rules.{DefsKeep}
use Rattle.floyd_assert_trees.specs.declared.items.Defs.{Defs}
use Rattle.floyd_assert_trees.specs.Meanings.{value_defs}
use Rattle.floyd_pure_unfolding.specs.Row.{FunsTakeTerms}

-- Calls of FUNs that keep the rules may be replaced at any terms.
abbrev pub CallsAreTaken : Type 0
CallsAreTaken = (defs : Defs) → DefsKeep (value_defs defs) → FunsTakeTerms defs
