use Rattle.floyd_symexpr_rows.specs.Rows.{range, ranges}
use Rattle.floyd_symexpr_rows.proofs.SayingLemmas.{more_said, said_stops, stopped}
use Rattle.floyd_symexpr_rows.proofs.integers.say_three_ranges.Goals as goal

pub returns-in_err-say_ranges : goal.returns-in_err-say_ranges
returns-in_err-say_ranges g c =
    record { exact = stopped _ _ _ _ c.from_residual.ensures.1 (said_stops _ c.args.all.now (ranges c.args.a.now c.args.b.now) (range c.args.a.now.kind c.args.n.now) c.in_err-say_ranges.ensures.exact) }

pub returns : goal.returns
returns g c = record { exact = more_said _ c.args.all.now (ranges c.args.a.now c.args.b.now) (range c.args.a.now.kind c.args.n.now) _ _ c.in_ok-say_ranges.ensures.exact c.say_range.ensures.exact }
