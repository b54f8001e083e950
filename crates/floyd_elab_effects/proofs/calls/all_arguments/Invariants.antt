use Rattle.std.proofs.Common.{◌≡◌, [], drop}
use Rattle.floyd_elab_effects.specs.CallClauses.{all_arguments, all_behind}
use Rattle.floyd_elab_effects.proofs.calls.all_arguments.Given as goal

abbrev pub invariant-arguments : goal.invariant-arguments
invariant-arguments l =
    all_behind l.fn.out [] (all_arguments l.names l.form.place l.parameters l.form.arguments.now l.fn.progress)
    ≡ all_behind l.out l.all (all_arguments l.names l.form.place l.left (drop l.argument-index l.form.arguments.now) l.progress)
