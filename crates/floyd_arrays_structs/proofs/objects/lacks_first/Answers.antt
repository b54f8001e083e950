use Rattle.floyd_arrays_structs.proofs.ObjectLemmas.{lacks_one}
use Rattle.floyd_arrays_structs.proofs.objects.lacks_first.Goals as goal

pub returns-in-len1-up : goal.returns-in-len1-up
returns-in-len1-up c = lacks_one c.args.padding.now c.args.parts.now c.part-item.result c.lacks.result c.in-len1-up.len_at_least c.part-item.is c.lacks.ensures
