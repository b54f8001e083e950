use Rattle.floyd_symexpr_rows.proofs.SayingLemmas.{more_said, said_stops, stopped}
use Rattle.floyd_symexpr_paths.specs.Places.{root_sides, subscript_ranges}
use Rattle.floyd_symexpr_paths.proofs.places.say_address.Goals as goal

pub returns-in_err-say_root : goal.returns-in_err-say_root
returns-in_err-say_root g c =
    record { exact = stopped _ _ _ _ c.from_residual.ensures.1 (said_stops _ c.args.all.now (root_sides c.args.l.now) (subscript_ranges c.args.l.now.subscripts) c.in_err-say_root.ensures.exact) }

pub returns : goal.returns
returns g c = record { exact = more_said _ c.args.all.now (root_sides c.args.l.now) (subscript_ranges c.args.l.now.subscripts) _ _ c.in_ok-say_root.ensures.exact c.say_subscripts.ensures.exact }
