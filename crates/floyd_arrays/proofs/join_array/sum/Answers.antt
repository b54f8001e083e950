use Rattle.std.proofs.Common.{Option, subst}
use Rattle.std.specs.Option.{option_copied}
use Rattle.floyd_tree.specs.Plain.{Plain}
use Rattle.floyd_fieldpath.specs.Projections.{kid_under}
use Rattle.floyd_goal.specs.Answers.{IsAnswer}
use Rattle.floyd_arrays.specs.JoinArray.{OfSides, is_difference}
use Rattle.floyd_arrays.proofs.join_array.sum.Goals as goal

pub returns : goal.returns
returns g c =
    let m = c.args.m.now in
    let n = c.args.c.now in
    let x = c.of_both.result in
    record {
      exact = subst (λ (o : Option Plain). IsAnswer (OfSides m n o (kid_under is_difference 1 n)) x) c.side_of-whole.ensures
          (subst (λ (o : Option Plain). IsAnswer (OfSides m n (option_copied c.side_of-whole.result) o) x) c.side_of-less.ensures c.of_both.ensures.exact);
    }
