use Rattle.std.proofs.Common.{Some, ap, sym, ◌∙◌}
use Rattle.floyd_elab_data.specs.Contents.{element_of as element_of_lem}
use Rattle.floyd_elab_data.proofs.ConstantLemmas.{element_of_array}
use Rattle.floyd_elab_data.proofs.constants.element_of.Goals as goal

pub returns-in-Array : goal.returns-in-Array
returns-in-Array c = ap Some c.get.ensures ∙ sym (ap element_of_lem c.in-Array.is ∙ element_of_array _ _)
