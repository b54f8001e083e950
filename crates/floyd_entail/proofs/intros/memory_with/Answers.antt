use Rattle.std.proofs.Common.{subst}
use Rattle.floyd_text.specs.Gives.{RuleGives}
use Rattle.floyd_assert_changes.specs.Changed.{assertion_with}
use Rattle.floyd_entail.proofs.intros.memory_with.Goals as goal

pub returns : goal.returns
returns g c =
    record { exact = subst (λ a. RuleGives (λ m. m) c.change_assertion.result (assertion_with c.args.pairs.now a)) c.in_ok-bare.ensures c.change_assertion.ensures.exact }
