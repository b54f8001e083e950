use Rattle.std.proofs.Common.{◌≡◌, rules}
use Rattle.floyd_goal.specs.Sides.{context_of}
use Rattle.floyd_entail_lemmas.proofs.ApplyLemmas.{right_made}
use Rattle.floyd_entail_lemmas.proofs.applying.right_at.Goals as goal

pub returns : goal.returns
returns g c =
    let seen : c.as_slice-variables.result.now ≡ (context_of c.args.goal.now).variables = search rules in
    record {
      exact = right_made c.args.goal.now c.args.lemma.now c.args.by.now c.in_ok-right.right c.as_slice-variables.result.now c.rename_apart.result c.in_ok-right.ensures.exact seen c.rename_apart.ensures.exact;
    }
