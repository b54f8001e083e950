-- Commands that are given a number.
use Rattle.std.specs.Prelude.{List, [], ◌∷◌}
use Rattle.floyd_tree_sorts.specs.declared.sorts.Sort.{Z}
use Rattle.floyd_tree.specs.Plain.{Plain}
use Rattle.floyd_tree_values.specs.Rules.{Scope}
use Rattle.floyd_assert_trees.specs.declared.items.Defs.{Defs}
use Rattle.floyd_goal_trees.specs.Contexts.{context_of, scope_of}
use Rattle.floyd_goal_trees.specs.declared.args.Args.{Args}
use Rattle.floyd_goal_trees.specs.declared.goal.Goal.{Goal}
use Rattle.floyd_goal_forms.specs.Terms.{TermFits}

-- the first of the terms, if there is one, is a well-formed number
abbrev pub FirstIsNumber : Defs → Scope → List Plain → Type 0
FirstIsNumber defs scope [] = Unit {0}
FirstIsNumber defs scope (t ∷ terms) = TermFits defs scope Z t

abbrev pub IsOfNumber : Defs → Goal → Args → Type 0
IsOfNumber defs goal args = FirstIsNumber defs (scope_of (context_of goal)) args.terms
