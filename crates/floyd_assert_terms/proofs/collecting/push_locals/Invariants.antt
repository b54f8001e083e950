use Rattle.std.proofs.Common.{◌≡◌, ◌++◌, drop}
use Rattle.floyd_assert_changes.specs.Changed.{local_terms}
use Rattle.floyd_assert_terms.proofs.collecting.push_locals.Given as goal

abbrev pub invariant-locals : goal.invariant-locals
invariant-locals l = l.all.items ++ local_terms (drop l.local-index l.locals) ≡ l.initial.all.items ++ local_terms l.locals
