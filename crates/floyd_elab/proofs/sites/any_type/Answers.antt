use Rattle.floyd_elab.proofs.SiteLemmas.{type_at}
use Rattle.floyd_elab.proofs.sites.any_type.Goals as goal

pub returns : goal.returns
returns c =
    type_at c.args.file.now c.names-names.result.now c.in_ok-site.site c.declarator_type.result c.declarator_type.new.tags c.names-names.ensures c.in_ok-site.ensures
    c.in_ok-base.base c.args.base.now c.args.d.now c.in_ok-base.ensures c.declarator_type.ensures
