use Rattle.floyd_assert_instances.proofs.PairLemmas.{put_on}
use Rattle.floyd_assert_instances.proofs.instance.instantiate.Goals as goal

pub returns : goal.returns
returns g c =
    record {
      exact = put_on c.args.spec.now c.args.terms.now c.as_slice-2.result.now c.as_slice.result.now c.in_ok-by.by.items c.as_slice-3.result.now c.spec_with.result
          c.as_slice.ensures c.as_slice-2.ensures c.in_ok-by.ensures.exact c.as_slice-3.ensures.value c.spec_with.ensures.exact;
    }
