use Rattle.std.proofs.Common.{negsuc, sym, ◌∙◌}
use Rattle.floyd_arith.specs.Linear.{linear_of, plus, scaled}
use Rattle.floyd_arith.proofs.LinearLemmas.{both_small}
use Rattle.floyd_arith.proofs.facts.above.Goals as goal

pub add-requires-clause-small : goal.add-requires-clause-small
add-requires-clause-small c =
    both_small (λ x y. plus x (scaled (negsuc 0) y)) (linear_of c.args.t.now) (linear_of c.args.u.now) c.in-Some.difference (sym c.in_ok-difference.ensures ∙ c.in-Some.is)
