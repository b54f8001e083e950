use Rattle.floyd_arrays_structs.proofs.JoinLemmas.{padding_lacks, padding_there}
use Rattle.floyd_arrays_structs.proofs.join_struct.of_found.Goals as goal

pub returns-then-missing : goal.returns-then-missing
returns-then-missing g c = record {
  exact = padding_lacks c.args.whole.now c.as_slice.result.now c.args.padding c.args.parts.now c.args.found c.lacks_first-missing.result c.wrong_goal.result c.as_slice.ensures c.lacks_first-missing.ensures
      c.if-missing.true c.wrong_goal.ensures;
}

pub returns-else-missing : goal.returns-else-missing
returns-else-missing g c = record {
  exact = padding_there c.args.whole.now c.as_slice.result.now c.args.padding c.args.parts.now c.args.found c.lacks_first-missing.result c.whole_of.result c.as_slice.ensures
      c.lacks_first-missing.ensures c.if-missing.false c.whole_of.ensures.exact;
}
