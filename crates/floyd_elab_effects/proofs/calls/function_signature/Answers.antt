use Rattle.std.proofs.Common.{sym, ◌∙◌}
use Rattle.floyd_elab_effects.proofs.CallLemmas.{function_counted}
use Rattle.floyd_elab_effects.proofs.calls.function_signature.Goals as goal

pub returns-then-len-count : goal.returns-then-len-count
returns-then-len-count c =
    function_counted c.args.count c.args.t.now c.in-Function.parameters c.as_slice.result.now c.in-Function.result c.get.result.now
    c.in-Function.is c.as_slice.ensures c.get.ensures (sym c.len.ensures ∙ c.if-len-count.true)
