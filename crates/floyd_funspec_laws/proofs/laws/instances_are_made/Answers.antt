use Rattle.floyd_funspec_laws.proofs.Made.{takes}
use Rattle.floyd_funspec_laws.proofs.laws.instances_are_made.Goals as goal

pub returns : goal.returns
returns c = λ defs specs spec terms fits. takes defs specs spec fits terms
