use Rattle.std.proofs.Common.{subst}
use Rattle.floyd_text.specs.Gives.{RuleGives}
use Rattle.floyd_tree.specs.Plain.{Plain}
use Rattle.floyd_shares.specs.SplitShare.{bounds_by}
use Rattle.floyd_shares.proofs.split_share.bounds.Goals as goal

pub returns : goal.returns
returns g c =
    record { exact = subst (λ (t : Plain). RuleGives (λ fs. fs) c.bounds_by.result (bounds_by t c.args.s.now c.args.share.now)) c.in_ok-one.ensures c.bounds_by.ensures.exact }
