use Rattle.floyd_pure_quantifiers.proofs.IntroTrue.{intro_true}
use Rattle.floyd_pure_quantifiers.proofs.intro.intro_holds.Goals as goal

pub returns : goal.returns
returns c = intro_true
