use Rattle.floyd_formed_quantifiers.proofs.Quantified.{hypothesis_cases_forms}
use Rattle.floyd_formed_quantifiers.proofs.laws.hypothesis_cases_keep_forms.Goals as goal

pub returns : goal.returns
returns c = λ defs specs g args goals formed given row. hypothesis_cases_forms defs specs g args goals formed given row
