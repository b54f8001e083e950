use Rattle.std.proofs.Common.{◌≡◌, IfOk, Option, sym, subst}
use Rattle.floyd_elab_names.specs.Refusals.{Site}
use Rattle.floyd_elab_data.proofs.DeclaratorLemmas.{star_last}
use Rattle.floyd_elab_data.proofs.constant.constant_star.Goals as goal

pub returns-in-len1-up : goal.returns-in-len1-up
returns-in-len1-up c =
    subst (λ (wanted : Option Site). IfOk c.const_at.result (λ s. s ≡ wanted))
    (sym (star_last c.args.outer c.args.stars.now _ c.in-len1-up.len_at_least))
    c.const_at.ensures
