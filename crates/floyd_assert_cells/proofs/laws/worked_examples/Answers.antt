use Rattle.floyd_assert_cells.proofs.Examples.{fitting, heaps, layouts, paths, stores}
use Rattle.floyd_assert_cells.proofs.laws.worked_examples.Goals as goal

pub returns-clause-layouts : goal.returns-clause-layouts
returns-clause-layouts c = layouts

pub returns-clause-paths : goal.returns-clause-paths
returns-clause-paths c = paths

pub returns-clause-fitting : goal.returns-clause-fitting
returns-clause-fitting c = fitting

pub returns-clause-stores : goal.returns-clause-stores
returns-clause-stores c = stores

pub returns-clause-heaps : goal.returns-clause-heaps
returns-clause-heaps c = heaps
