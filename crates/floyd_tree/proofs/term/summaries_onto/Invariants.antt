use Rattle.std.proofs.Common.{◌≡◌, drop}
use Rattle.floyd_tree.specs.Plain.{plains}
use Rattle.floyd_tree.specs.Prints.{summaries_from}
use Rattle.floyd_tree.proofs.term.summaries_onto.Given as goal

abbrev pub invariant-terms : goal.invariant-terms
invariant-terms l = summaries_from l.summary (plains (drop l.term-index l.terms)) ≡ summaries_from l.start (plains l.terms)
