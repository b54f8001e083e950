use Rattle.std.proofs.Common.{◌≡◌, ◌+◌, ◌*◌, ◌++◌, drop}
use Rattle.std.specs.Prelude.{map}
use Rattle.floyd_tree.specs.Formulas.{formulas, formula_height, formula_heights}
use Rattle.floyd_show_terms.specs.Formulas.{inner, written_formulas}
use Rattle.floyd_show_terms.specs.Terms.{following}
use Rattle.floyd_show_terms.proofs.formulas.+formulas.Given as goal

abbrev pub decreases-put_formula : goal.decreases-put_formula
decreases-put_formula l = 4 * formula_height l.formula.now

abbrev pub decreases-put_inner : goal.decreases-put_inner
decreases-put_inner l = 4 * formula_height l.formula.now + 1

abbrev pub decreases-put_inners : goal.decreases-put_inners
decreases-put_inners l = 4 * formula_heights (formulas l.kids.now) + 3

abbrev pub decreases-put_inners_behind : goal.decreases-put_inners_behind
decreases-put_inners_behind l = 4 * formula_heights (formulas l.kids.now) + 2

-- what was put, and what is left to put
abbrev pub invariant-put_inners_behind-kids : goal.invariant-put_inners_behind-kids
invariant-put_inners_behind-kids l =
    l.out ++ following l.mark (map inner (written_formulas (formulas (drop l.kid-index l.kids)))) ≡ l.initial.out ++ following l.mark (map inner (written_formulas (formulas l.kids)))
