use Rattle.floyd_symexpr_paths.proofs.BoundLemmas.{step_goes}
use Rattle.floyd_symexpr_paths.proofs.bounds.bounded_step.Goals as goal

pub returns : goal.returns
returns g c = record { exact = step_goes _ _ c.args.at.structs.now c.args.t.now c.args.asked c.args.step.now c.args.all.now _ c.in_ok-say_asked.ensures.exact c.type_behind.ensures.exact }
