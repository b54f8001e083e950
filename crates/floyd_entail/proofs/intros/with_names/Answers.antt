use Rattle.std.proofs.Common.{◌≡◌, [], length, None, rules}
use Rattle.floyd_goal.specs.Sides.{context_of}
use Rattle.floyd_entail.specs.Intros.{first_taken}
use Rattle.floyd_entail.proofs.IntrosLemmas.{names_free}
use Rattle.floyd_entail.proofs.intros.with_names.Goals as goal

pub returns-in-None : goal.returns-in-None
returns-in-None g c =
    let count : length c.args.names.now ≡ length c.args.source.now.existentials = search rules in
    let free : first_taken (context_of c.args.goal.now).variables [] c.args.names.now ≡ None = search rules in
    record { exact = names_free c.args.goal.now c.args.source.now c.args.names.now c.opens.result count free c.opens.ensures.exact }
