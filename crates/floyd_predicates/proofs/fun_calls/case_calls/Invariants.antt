use Rattle.std.proofs.Common.{◌≡◌, ◌++◌, drop}
use Rattle.std.specs.List.{flat_map}
use Rattle.floyd_predicates.specs.Calls.{fun_case_calls}
use Rattle.floyd_predicates.proofs.fun_calls.case_calls.Given as goal

abbrev pub invariant-cases : goal.invariant-cases
invariant-cases l = l.all.items ++ flat_map (fun_case_calls l.own) (drop l.case-index l.cases) ≡ flat_map (fun_case_calls l.own) l.cases
