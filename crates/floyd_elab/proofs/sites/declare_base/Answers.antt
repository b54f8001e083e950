use Rattle.floyd_elab.proofs.SiteLemmas.{base_at}
use Rattle.floyd_elab.proofs.sites.declare_base.Goals as goal

pub returns : goal.returns
returns c =
    base_at c.args.file.now c.names-names.result.now c.in_ok-site.site c.base_type.result c.base_type.new.tags c.names-names.ensures c.in_ok-site.ensures c.args.base.now c.base_type.ensures
