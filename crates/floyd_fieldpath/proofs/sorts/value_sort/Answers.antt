use Rattle.std.proofs.Common.{◌∙◌}
use Rattle.floyd_fieldpath.proofs.SortDepths.{sort_by_tags}
use Rattle.floyd_fieldpath.proofs.sorts.value_sort.Goals as goal

pub returns : goal.returns
returns c = c.in_ok-sort.ensures ∙ sort_by_tags c.args.structs.now c.laws.ensures c.len-depth.result c.len-depth.ensures.value c.args.shape.now
