use Rattle.floyd_elab_laws.proofs.TypingLemmas.{types_agree, expressions_typed}
use Rattle.floyd_elab_laws.proofs.laws.elaboration_types_as_typing_does.Goals as goal

pub returns-clause-agree : goal.returns-clause-agree
returns-clause-agree c = types_agree

pub returns-clause-types : goal.returns-clause-types
returns-clause-types c = expressions_typed
