use Rattle.floyd_symexpr_rows.specs.Rows.{range}
use Rattle.floyd_symexpr_rows.proofs.SayingLemmas.{more_said, said_stops, stopped}
use Rattle.floyd_symexpr_rows.proofs.integers.say_two_ranges.Goals as goal

pub returns-in_err-say_range : goal.returns-in_err-say_range
returns-in_err-say_range g c =
    record { exact = stopped _ _ _ _ c.from_residual.ensures.1 (said_stops _ c.args.all.now (range c.args.a.now.kind c.args.a.now.term) (range c.args.a.now.kind c.args.n.now) c.in_err-say_range.ensures.exact) }

pub returns : goal.returns
returns g c = record { exact = more_said _ c.args.all.now (range c.args.a.now.kind c.args.a.now.term) (range c.args.a.now.kind c.args.n.now) _ _ c.in_ok-say_range.ensures.exact c.say_range-2.ensures.exact }
