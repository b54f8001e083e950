use Rattle.floyd_termread_groups.proofs.StrongLemmas.{only_grouping}
use Rattle.floyd_termread_groups.proofs.laws.is_only_grouping.Goals as goal

pub returns : goal.returns
returns c = only_grouping
