use Rattle.std.proofs.Common.{◌≡◌, Some, Ok, subst}
use Rattle.floyd_tree.specs.Plain.{mentions}
use Rattle.floyd_assert_trees.specs.declared.assertion.Assertion.{Assertion}
use Rattle.floyd_assert_changes.specs.Apart.{set_apart}
use Rattle.floyd_goal_changes.specs.Changed.{covering}
use Rattle.floyd_symexpr_rows.proofs.SayingLemmas.{goes_on}
use Rattle.floyd_forward.specs.Return.{claimed}
use Rattle.floyd_forward.proofs.posts.of_value.Goals as goal

pub returns : goal.returns
returns g c =
    let v = c.args.v.now in
    record {
      exact = goes_on (λ b. b) (set_apart (λ x. mentions x v) (covering c.args.post.now (Some c.args.term.now))) (claimed v) c.in_ok-apart.apart c.claimed.result
          (subst (λ (w : Assertion). set_apart (λ x. mentions x v) w ≡ Ok c.in_ok-apart.apart) c.in_ok-whole.ensures c.in_ok-apart.ensures.exact) c.claimed.ensures.exact;
    }
