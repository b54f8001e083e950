use Rattle.std.proofs.Common.{◌≡◌, ◌++◌, drop}
use Rattle.floyd_symexpr_paths.proofs.forms.put_steps.Given as goal

abbrev pub invariant-steps : goal.invariant-steps
invariant-steps l = l.all ++ drop l.taken-index l.form ≡ l.initial.all ++ l.form
