use Rattle.std.proofs.Common.{subst}
use Rattle.floyd_text.specs.Gives.{RuleGives}
use Rattle.floyd_assert_trees.specs.declared.assertion.Assertion.{Assertion}
use Rattle.floyd_assert_changes.specs.Changed.{assertion_with}
use Rattle.floyd_clauses.proofs.OpeningLemmas.{terms_are}
use Rattle.floyd_clauses.proofs.opening.clause_at.Goals as goal

pub returns : goal.returns
returns g c =
    let terms =
    terms_are c.args.case.now c.args.t.now c.args.arguments.now c.in_ok-own.own.items c.in_ok-by.by.items c.as_slice-2.result.now c.kids.result.now c.as_slice.result.now
    c.as_slice.ensures c.kids.ensures.value c.in_ok-own.ensures c.in_ok-by.ensures c.as_slice-2.ensures.value in
    record { exact = subst (λ by. RuleGives (λ (a : Assertion). a) c.change_assertion.result (assertion_with by c.args.case.now.body)) terms c.change_assertion.ensures.exact }
