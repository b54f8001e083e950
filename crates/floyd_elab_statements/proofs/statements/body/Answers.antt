use Rattle.std.proofs.Common.{[], ap, sym, ◌∙◌}
use Rattle.std.proofs.lemmas.List.{append-nil}
use Rattle.floyd_elab_expressions.specs.Behind.{put_behind}
use Rattle.floyd_elab_addresses.specs.PartClauses.{flags_of_all}
use Rattle.floyd_elab_addresses.proofs.StatementParts.{flags-block}
use Rattle.floyd_elab_statements.proofs.Steps.{gives_as}
use Rattle.floyd_elab_statements.proofs.ItemLemmas.{of_body}
use Rattle.floyd_elab_statements.proofs.statements.body.Goals as goal

pub returns : goal.returns
returns c =
    let items = c.args.items.now in
    record {
      exact = gives_as _ c.all.result _ _
          (ap (put_behind c.args.out.now) (of_body c.args.result_type.now c.args.names.now items c.args.progress.now))
          (c.all.ensures.exact [] (c.in_ok-flags.ensures ∙ flags-block items ∙ sym (append-nil (flags_of_all items))));
      scopes = c.all.ensures.left;
    }
