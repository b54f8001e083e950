use Rattle.floyd_pure_rewriting.proofs.Rewriting.{rewrite_true}
use Rattle.floyd_pure_rewriting.proofs.rewrite.rewrite_holds.Goals as goal

pub returns : goal.returns
returns c = rewrite_true
