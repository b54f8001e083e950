use Rattle.std.proofs.Common.{◌≡◌, ◌+◌, ◌*◌, ◌++◌, drop}
use Rattle.floyd_tree.specs.Plain.{plains, height, heights}
use Rattle.floyd_predicates.specs.Calls.{all_calls}
use Rattle.floyd_predicates.proofs.fun_calls.+calls.Given as goal

abbrev pub decreases-add_calls_in : goal.decreases-add_calls_in
decreases-add_calls_in l = 2 * height l.t.now

abbrev pub decreases-add_all_calls : goal.decreases-add_all_calls
decreases-add_all_calls l = 2 * heights (plains l.terms.now) + 1

abbrev pub invariant-add_all_calls-terms : goal.invariant-add_all_calls-terms
invariant-add_all_calls-terms l =
    l.all.items ++ all_calls l.own l.parts (plains (drop l.term-index l.terms)) ≡ l.initial.all.items ++ all_calls l.own l.parts (plains l.terms)
