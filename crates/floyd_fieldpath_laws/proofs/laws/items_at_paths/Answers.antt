use Rattle.floyd_fieldpath_laws.proofs.PartMeanings.{part_has_items}
use Rattle.floyd_fieldpath_laws.proofs.laws.items_at_paths.Goals as goal

pub returns : goal.returns
returns c = λ defs env share t u path m v s f d block offset h e k sorted value g l cells. part_has_items defs env share t u path m v s f d block offset h e k sorted value g l cells
