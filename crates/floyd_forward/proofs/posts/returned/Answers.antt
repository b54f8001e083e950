use Rattle.std.proofs.Common.{ap}
use Rattle.std.specs.Option.{option_copied}
use Rattle.floyd_forward.proofs.ReturnLemmas.{value_returned}
use Rattle.floyd_forward.proofs.posts.returned.Goals as goal

pub returns-in-Some-value : goal.returns-in-Some-value
returns-in-Some-value g c =
    record {
      exact = value_returned (option_copied c.args.v) c.in-Some.v.now c.args.ret.now.post c.get-post.result.now c.args.ret.now.value c.in-Some-value.term c.of_value.result (ap option_copied c.in-Some.is) c.get-post.ensures
          c.in-Some-value.is c.of_value.ensures.exact;
    }
