use Rattle.std.proofs.Common.{◌≡◌, rules, subst}
use Rattle.floyd_goal.specs.Answers.{IsAnswer}
use Rattle.floyd_entail.specs.Intros.{OpensWith, by_names}
use Rattle.floyd_entail.proofs.intros.opens.Goals as goal

pub returns : goal.returns
returns g c =
    let same : c.as_slice.result.now ≡ by_names c.args.source.now.existentials c.args.names.now = search rules in
    record {
      exact = subst (λ pairs. IsAnswer (OpensWith c.args.goal.now c.args.source.now c.args.names.now pairs) c.opens_with.result) same c.opens_with.ensures.exact;
    }
