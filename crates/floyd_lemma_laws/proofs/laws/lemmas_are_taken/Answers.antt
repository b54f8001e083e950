use Rattle.floyd_lemma_laws.proofs.Taking.{takes}
use Rattle.floyd_lemma_laws.proofs.laws.lemmas_are_taken.Goals as goal

pub returns : goal.returns
returns c = λ defs specs l terms fits. takes defs specs l terms fits
