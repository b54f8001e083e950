use Rattle.floyd_pure_rewriting.proofs.Keeping.{rewriting_true}
use Rattle.floyd_pure_rewriting.proofs.rewrite.rewriting_keeps.Goals as goal

pub returns : goal.returns
returns c = rewriting_true
