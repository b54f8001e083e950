use Rattle.std.proofs.Common.{◌∙◌}
use Rattle.std.proofs.lemmas.List.{length-set}
use Rattle.floyd_memval.proofs.EncodingLemmas.{fragments_more}
use Rattle.floyd_memval.proofs.encoding.put_fragments.Goals as goal

pub fragments-preserved : goal.fragments-preserved
fragments-preserved c =
    (fragments_more c.fragments.into c.fragments.number c.from.result c.args.v c.fragments.invariant.1 c.fragments-test.true c.from.ensures c.fragments.invariant.0, length-set _ _ _ ∙ c.fragments.invariant.1)
