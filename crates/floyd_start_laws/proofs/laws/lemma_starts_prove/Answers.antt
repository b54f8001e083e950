use Rattle.floyd_start_laws.proofs.LemmaStarts.{lemma_true}
use Rattle.floyd_start_laws.proofs.laws.lemma_starts_prove.Goals as goal

pub returns : goal.returns
returns c = λ defs specs n name l withs none holds L more place has apart lemmas. lemma_true L more place defs specs n name l has apart lemmas withs none holds
