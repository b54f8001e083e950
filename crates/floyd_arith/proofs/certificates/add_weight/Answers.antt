use Rattle.std.proofs.Common.{sym, ◌∙◌}
use Rattle.floyd_arith.specs.Certificates.{difference_of}
use Rattle.floyd_arith.specs.FactClauses.{fact_seen}
use Rattle.floyd_arith.proofs.LinearLemmas.{linear_apart}
use Rattle.floyd_arith.proofs.certificates.add_weight.Goals as goal

pub add-requires-clause-apart : goal.add-requires-clause-apart
add-requires-clause-apart c = linear_apart (difference_of (fact_seen c.in-Some.fact)) c.in-Some-2.difference (sym c.in_ok-difference.ensures ∙ c.in-Some-2.is)
