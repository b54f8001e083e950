use Rattle.std.proofs.Common.{◌≡◌, Ok, rules}
use Rattle.floyd_assert_instances.specs.Instances.{taken}
use Rattle.floyd_entail_lemmas.proofs.ApplyLemmas.{by_goes}
use Rattle.floyd_entail_lemmas.proofs.applying.applies_lemma.Goals as goal

pub returns : goal.returns
returns g c =
    let by : taken c.args.lemma.now.with c.args.terms.now ≡ Ok c.in_ok-by.by.items = search rules in
    record {
      exact = by_goes c.args.goal.now c.args.terms.now c.args.lemma.now c.in_ok-by.by.items c.as_slice-3.result.now c.applies_with.result by c.as_slice-3.ensures.value c.applies_with.ensures.exact;
    }
