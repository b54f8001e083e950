use Rattle.std.proofs.Common.{◌≡◌, IfOk, sym, subst}
use Rattle.floyd_arith.specs.Certificates.{difference_of}
use Rattle.floyd_arith.specs.FactClauses.{fact_seen}
use Rattle.floyd_arith.specs.Linear.{linear_of}
use Rattle.floyd_arith.proofs.facts.difference_of.Goals as goal

pub returns-in-Equal : goal.returns-in-Equal
returns-in-Equal c = subst (λ f. IfOk c.sum-in-Equal.result (λ d. d ≡ linear_of (difference_of (fact_seen f)))) (sym c.in-Equal.is) c.sum-in-Equal.ensures
