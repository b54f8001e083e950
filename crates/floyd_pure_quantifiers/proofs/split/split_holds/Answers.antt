use Rattle.floyd_pure_quantifiers.proofs.Splitting.{split_true}
use Rattle.floyd_pure_quantifiers.proofs.split.split_holds.Goals as goal

pub returns : goal.returns
returns c = split_true
