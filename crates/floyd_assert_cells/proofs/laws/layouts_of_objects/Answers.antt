use Rattle.floyd_assert_cells.proofs.ObjectLaws.{layouts_agree, paths_aligned}
use Rattle.floyd_assert_cells.proofs.ScalarLaws.{chunk_agrees, holds_agrees, shape_agrees}
use Rattle.floyd_assert_cells.proofs.laws.layouts_of_objects.Goals as goal

pub returns-clause-scalars : goal.returns-clause-scalars
returns-clause-scalars c = λ t. record { chunk = chunk_agrees t; shape = shape_agrees t; values = holds_agrees t }

pub returns-clause-sizes : goal.returns-clause-sizes
returns-clause-sizes c = layouts_agree

pub returns-clause-aligned : goal.returns-clause-aligned
returns-clause-aligned c = λ structs t u path b o d s ok nested shifted is. paths_aligned structs t u path b o d s ok nested shifted is
