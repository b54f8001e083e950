use Rattle.floyd_formed_rewriting.proofs.Goals.{rewrite_forms}
use Rattle.floyd_formed_rewriting.proofs.laws.rewrite_keeps_forms.Goals as goal

pub returns : goal.returns
returns c = λ defs specs g args goals formed few given row. rewrite_forms defs specs g args goals formed few given row
