use Rattle.std.proofs.Common.{◌++◌, append-nil, ap, ◌∙◌}
use Rattle.floyd_elab_addresses.specs.Flags.{statement_flags}
use Rattle.floyd_elab_addresses.proofs.statements.addresses.Goals as goal

pub returns : goal.returns
returns c =
    let body = c.args.body.now in
    c.in_ok-statement.ensures.flags ∙ ap (λ fs. statement_flags body ++ fs) c.new-flags.ensures ∙ append-nil (statement_flags body)
