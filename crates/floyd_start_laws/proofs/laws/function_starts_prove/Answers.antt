use Rattle.floyd_start_laws.proofs.BodyStarts.{body_meets}
use Rattle.floyd_start_laws.proofs.laws.function_starts_prove.Goals as goal

pub returns : goal.returns
returns c = λ defs specs n spec d enters holds L more place has apart lemmas bare. body_meets L more place defs specs n spec d has apart lemmas bare enters holds
