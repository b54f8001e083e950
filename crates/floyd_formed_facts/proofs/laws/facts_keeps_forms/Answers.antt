use Rattle.floyd_formed_facts.proofs.Stating.{facts_forms}
use Rattle.floyd_formed_facts.proofs.laws.facts_keeps_forms.Goals as goal

pub returns : goal.returns
returns c = λ defs specs g args goals formed none row. facts_forms defs specs g args goals formed row
