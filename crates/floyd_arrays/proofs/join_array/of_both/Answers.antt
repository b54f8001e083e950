use Rattle.std.proofs.Common.{Option, ap, sym, subst}
use Rattle.std.specs.Option.{option_copied}
use Rattle.floyd_tree.specs.Plain.{Plain}
use Rattle.floyd_goal.specs.Answers.{IsAnswer}
use Rattle.floyd_arrays.specs.JoinArray.{OfSides}
use Rattle.floyd_arrays.proofs.JoinLemmas.{sum_none}
use Rattle.floyd_arrays.proofs.join_array.of_both.Goals as goal

pub returns-in-None : goal.returns-in-None
returns-in-None g c =
    let m = c.args.m.now in
    let n = c.args.c.now in
    let less = option_copied c.args.less in
    record {
      exact = subst (λ (o : Option Plain). IsAnswer (OfSides m n o less) c.plus.result) (sym (ap option_copied c.in-None.is)) (sum_none m n less c.plus.result c.plus.ensures.exact);
    }
