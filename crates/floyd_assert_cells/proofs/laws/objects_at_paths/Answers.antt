use Rattle.floyd_assert_cells.proofs.ObjectLaws.{paths_focused}
use Rattle.floyd_assert_cells.proofs.laws.objects_at_paths.Goals as goal

pub returns : goal.returns
returns c = paths_focused
