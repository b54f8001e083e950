use Rattle.floyd_assert_cells.proofs.ObjectLaws.{cells_are_exact, cells_have_defaults}
use Rattle.floyd_assert_cells.proofs.laws.whole_objects.Goals as goal

pub returns-clause-exact : goal.returns-clause-exact
returns-clause-exact c = cells_are_exact

pub returns-clause-defaults : goal.returns-clause-defaults
returns-clause-defaults c = cells_have_defaults
