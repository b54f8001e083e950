use Rattle.std.proofs.Common.{◌≡◌, ◌↔◌, IsTrue, subst}
use Rattle.floyd_assert_trees.specs.declared.sep.Sep.{Sep}
use Rattle.floyd_shares.proofs.join_share.is_same.Goals as goal

pub returns : goal.returns
returns c = subst (λ (p : Sep). IsTrue c.equal_part.result ↔ (p ≡ c.args.first.now)) c.in_ok-moved.ensures c.equal_part.ensures
