use Rattle.std.proofs.Common.{◌∙◌}
use Rattle.floyd_termread_formulas.proofs.ItemLemmas.{name_some, name_none}
use Rattle.floyd_termread_formulas.proofs.words.name_at.Goals as goal

pub returns-in-Some : goal.returns-in-Some
returns-in-Some c = c.name_of.ensures ∙ name_some c.args.number c.args.items.now c.in-Some.item.now c.in-Some.ensures

pub returns-in-None : goal.returns-in-None
returns-in-None c = name_none c.args.number c.args.items.now c.in-None.ensures
