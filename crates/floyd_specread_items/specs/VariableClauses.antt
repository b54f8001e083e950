-- Words of private clauses: the variables that are bound where an item's body is read.
use Rattle.std.specs.Prelude.{List, None}
use Rattle.floyd_assert_trees.specs.declared.binder.Binder.{Binder}
use Rattle.floyd_assert_trees.specs.declared.pattern.Pattern.{Pattern}
use Rattle.floyd_termread_assertions.specs.BoundClauses.{Sorts, bound_by_all}
use Rattle.floyd_specread_patterns.specs.Binders.{pattern_binders}

abbrev pub nothing : Sorts
nothing x = None

abbrev pub argument_sorts : List Binder → Sorts
argument_sorts xs = bound_by_all xs nothing

abbrev pub case_sorts : List Binder → Pattern → Sorts
case_sorts xs which = bound_by_all (pattern_binders xs which) (argument_sorts xs)
