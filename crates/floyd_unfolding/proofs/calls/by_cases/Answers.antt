use Rattle.floyd_unfolding.specs.Calls.{opened_terms}
use Rattle.floyd_unfolding.proofs.CallLemmas.{case_opened}
use Rattle.floyd_unfolding.proofs.calls.by_cases.Goals as goal

pub at_case-requires : goal.at_case-requires
at_case-requires g c =
    c.requires (opened_terms c.in-Some.case.now c.first-item.result c.args.arguments.now, c.in-Some.case.now.term)
    (case_opened c.args.cases.now c.args.terms.now c.args.arguments.now c.first-item.result c.in-Some.case.now c.in-len1-up.len_at_least c.first-item.is c.in-Some.ensures)
