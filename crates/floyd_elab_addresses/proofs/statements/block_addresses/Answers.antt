use Rattle.std.proofs.Common.{◌++◌, append-nil, ap, sym, ◌∙◌}
use Rattle.floyd_elab_addresses.specs.PartClauses.{flags_of_all}
use Rattle.floyd_elab_addresses.proofs.StatementParts.{flags-block}
use Rattle.floyd_elab_addresses.proofs.statements.block_addresses.Goals as goal

pub returns : goal.returns
returns c =
    let items = c.args.items.now in
    c.in_ok-block.ensures.flags
    ∙ ap (λ fs. flags_of_all items ++ fs) c.new-flags.ensures
    ∙ append-nil (flags_of_all items)
    ∙ sym (flags-block items)
