use Rattle.std.proofs.Common.{◌≡◌, ◌+◌, ◌*◌, drop}
use Rattle.floyd_tree.specs.Formulas.{formulas, formula_height, formula_heights, formulas_mention}
use Rattle.floyd_tree.proofs.variables.+formula_mentions.Given as goal

abbrev pub decreases-formula_mentions_bit : goal.decreases-formula_mentions_bit
decreases-formula_mentions_bit l = 2 * formula_height l.f.now

abbrev pub decreases-formulas_mention : goal.decreases-formulas_mention
decreases-formulas_mention l = 2 * formula_heights (formulas l.kids.now) + 1

abbrev pub invariant-formulas_mention-kids : goal.invariant-formulas_mention-kids
invariant-formulas_mention-kids l = formulas_mention l.x (formulas (drop l.kid-index l.kids)) ≡ formulas_mention l.x (formulas l.kids)
