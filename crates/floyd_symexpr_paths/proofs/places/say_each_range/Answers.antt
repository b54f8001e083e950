use Rattle.floyd_symexpr_rows.proofs.SayingLemmas.{stopped}
use Rattle.floyd_symexpr_paths.proofs.PlaceLemmas.{ranges_stop}
use Rattle.floyd_symexpr_paths.proofs.places.say_each_range.Goals as goal

pub returns-in_err-say_range : goal.returns-in_err-say_range
returns-in_err-say_range g c =
    record { exact = stopped _ _ _ _ c.from_residual.ensures.1 (ranges_stop _ c.args.all.now c.numbers.all c.args.numbers.now c.numbers.i-index c.i-item.result c.numbers-test.true c.i-item.is c.numbers.invariant c.in_err-say_range.ensures.exact) }
