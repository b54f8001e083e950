use Rattle.std.proofs.Common.{subst}
use Rattle.floyd_text.specs.Gives.{RuleGives}
use Rattle.floyd_tree.specs.Plain.{Plain}
use Rattle.floyd_arrays.specs.SplitArray.{split_from}
use Rattle.floyd_arrays.proofs.split_array.split_at.Goals as goal

pub returns : goal.returns
returns g c =
    record { exact = subst (λ (t : Plain). RuleGives (λ p. p) c.split_from.result (split_from c.args.structs.now t c.args.m.now c.args.a.now)) c.in_ok-zero.ensures c.split_from.ensures.exact }
