use Rattle.std.proofs.Common.{◌≡◌, drop}
use Rattle.floyd_tree.specs.Plain.{mentions_in, plains}
use Rattle.floyd_rewriting.proofs.hole_names.some_have.Given as goal

abbrev pub invariant-terms : goal.invariant-terms
invariant-terms l = mentions_in l.x (plains (drop l.term-index l.terms)) ≡ mentions_in l.x (plains l.terms)
