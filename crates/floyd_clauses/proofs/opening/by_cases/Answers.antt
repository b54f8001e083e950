use Rattle.std.proofs.Common.{sym, subst}
use Rattle.floyd_text.specs.Gives.{RuleGives}
use Rattle.floyd_assert_trees.specs.declared.assertion.Assertion.{Assertion}
use Rattle.floyd_fieldpath.specs.Written.{on_ok}
use Rattle.floyd_clauses.specs.Clauses.{opened_terms, with_terms}
use Rattle.floyd_clauses.proofs.OpeningLemmas.{case_opened}
use Rattle.floyd_clauses.proofs.opening.by_cases.Goals as goal

pub clause_at-requires : goal.clause_at-requires
clause_at-requires g c =
    c.requires (opened_terms c.in-Some.case.now c.first-item.result c.args.arguments.now, c.in-Some.case.now.body)
    (case_opened c.args.cases.now c.args.terms.now c.args.arguments.now c.first-item.result c.in-Some.case.now c.in-len1-up.len_at_least c.first-item.is c.in-Some.ensures)

pub returns-in-Some : goal.returns-in-Some
returns-in-Some g c =
    record {
      exact = subst (λ d. RuleGives (λ (a : Assertion). a) c.clause_at.result (on_ok d with_terms))
          (sym (case_opened c.args.cases.now c.args.terms.now c.args.arguments.now c.first-item.result c.in-Some.case.now c.in-len1-up.len_at_least c.first-item.is c.in-Some.ensures))
          c.clause_at.ensures.exact;
    }
