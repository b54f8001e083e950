use Rattle.std.proofs.Common.{◌≡◌, drop}
use Rattle.floyd_tree.specs.Plain.{mentions_in, plains}
use Rattle.floyd_assert_changes.proofs.body.some_has.Given as goal

abbrev pub invariant-terms : goal.invariant-terms
invariant-terms l = mentions_in l.x (plains (drop l.term-index l.terms)) ≡ mentions_in l.x (plains l.terms)
