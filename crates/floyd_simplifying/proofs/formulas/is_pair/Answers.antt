use Rattle.std.proofs.Common.{sym, ap, ◌∙◌}
use Rattle.floyd_arith.proofs.SameLemmas.{same_term_test}
use Rattle.floyd_simplifying.specs.SimplifiedClauses.{is_pair}
use Rattle.floyd_simplifying.proofs.JoiningFormulas.{two_terms}
use Rattle.floyd_simplifying.proofs.formulas.is_pair.Goals as goal

pub returns-in-len2 : goal.returns-in-len2
returns-in-len2 c =
    let a = c.a-item.result in
    let b = c.b-item.result in
    sym (same_term_test c.equal.result a b c.equal.ensures) ∙ ap is_pair (sym (two_terms c.args.terms.now a b c.in-len2.len_at_least c.in-len2.len_below c.a-item.is c.b-item.is))
