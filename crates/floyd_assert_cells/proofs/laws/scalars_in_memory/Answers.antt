use Rattle.floyd_assert_cells.proofs.ObjectLaws.{scalars_held, scalars_loaded, scalars_stored}
use Rattle.floyd_assert_cells.proofs.laws.scalars_in_memory.Goals as goal

pub returns-clause-loaded : goal.returns-clause-loaded
returns-clause-loaded c = scalars_loaded

pub returns-clause-stored : goal.returns-clause-stored
returns-clause-stored c = scalars_stored

pub returns-clause-held : goal.returns-clause-held
returns-clause-held c = scalars_held
