use Rattle.std.proofs.Common.{ap, ◌∙◌}
use Rattle.floyd_termread_scope.specs.Scopes.{env}
use Rattle.floyd_termread_terms.proofs.Chains.{one_stops}
use Rattle.floyd_termread_formulas.proofs.ItemLemmas.{closed_step, subscript_is, subscript_closed}
use Rattle.floyd_termread_formulas.proofs.paths.subscript.Goals as goal

pub returns-in_err-t : goal.returns-in_err-t
returns-in_err-t c = record {
  exact = one_stops _ _ _ _ _ (closed_step c.args.close) (subscript_is (env c.args.scope.now c.args.bound.now) c.args.items.now c.first-item.result c.args.close c.in-len1-up.len_at_least c.first-item.is) c.from_residual.ensures.1 c.in_err-t.ensures.exact;
}

pub returns-in-Some : goal.returns-in-Some
returns-in-Some c = record {
  exact = subscript_closed (env c.args.scope.now c.args.bound.now) c.args.items.now c.first-item.result c.args.close c.in_ok-t.t c.in-len1-up.len_at_least c.first-item.is c.in_ok-t.ensures.exact ∙ ap (λ close. closed_step close c.in_ok-t.t) c.in-Some.is;
}

pub returns-in-None : goal.returns-in-None
returns-in-None c = record {
  exact = subscript_closed (env c.args.scope.now c.args.bound.now) c.args.items.now c.first-item.result c.args.close c.in_ok-t.t c.in-len1-up.len_at_least c.first-item.is c.in_ok-t.ensures.exact ∙ ap (λ close. closed_step close c.in_ok-t.t) c.in-None.is;
}
