use Rattle.std.proofs.Common.{ap, sym, ◌∙◌}
use Rattle.floyd_elab.specs.Units.{result_of as result_of_lem}
use Rattle.floyd_elab.proofs.ParameterLemmas.{result_of_function}
use Rattle.floyd_elab.proofs.parameters.result_of.Goals as goal

pub returns-in_ok-share-in-Function : goal.returns-in_ok-share-in-Function
returns-in_ok-share-in-Function c =
    c.in_ok-share-in-Function.ensures ∙ c.get.ensures ∙ sym (ap result_of_lem c.in-Function.is ∙ result_of_function c.in-Function.field-0 c.in-Function.result)
