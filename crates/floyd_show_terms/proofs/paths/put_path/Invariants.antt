use Rattle.std.proofs.Common.{◌≡◌, ◌++◌, drop}
use Rattle.floyd_show_terms.specs.Paths.{steps_text}
use Rattle.floyd_show_terms.proofs.paths.put_path.Given as goal

abbrev pub invariant-steps : goal.invariant-steps
invariant-steps l = l.out ++ steps_text (drop l.place l.path) ≡ l.initial.out ++ steps_text l.path
