use Rattle.std.proofs.Common.{◌≡◌, ◌++◌, List, option_map, length}
use Rattle.floyd_assert_trees.specs.declared.binder.Binder.{Binder}
use Rattle.floyd_termread_assertions.specs.Existentials.{with_sorts}
use Rattle.floyd_termread_assertions.proofs.existentials.with_sorts.Given as goal

abbrev pub decreases-rows : goal.decreases-rows
decreases-rows l = length l.rest

abbrev pub invariant-rows : goal.invariant-rows
invariant-rows l = option_map (λ (xs : List Binder). l.binders ++ xs) (with_sorts l.rest) ≡ with_sorts l.rows
