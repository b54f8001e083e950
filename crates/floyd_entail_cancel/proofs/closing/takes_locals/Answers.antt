use Rattle.std.proofs.Common.{◌≡◌, None, rules}
use Rattle.floyd_entail_cancel.specs.Cancel.{first_missing}
use Rattle.floyd_entail_cancel.proofs.CancelLemmas.{locals_there}
use Rattle.floyd_entail_cancel.proofs.closing.takes_locals.Goals as goal

pub returns-in-None : goal.returns-in-None
returns-in-None g c =
    let none : first_missing c.args.entail.now.source.locals c.args.entail.now.target.locals ≡ None = search rules in
    record { exact = locals_there c.args.entail.now c.takes_parts.result none c.takes_parts.ensures.exact }
