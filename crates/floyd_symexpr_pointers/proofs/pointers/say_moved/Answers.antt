use Rattle.floyd_symexpr_rows.specs.Formulas.{is_pointer}
use Rattle.floyd_symexpr_rows.specs.Rows.{range}
use Rattle.floyd_symexpr_rows.proofs.SayingLemmas.{one_more, one_stops, stopped}
use Rattle.floyd_symexpr_pointers.proofs.pointers.say_moved.Goals as goal

pub returns-in_err-say_pointer : goal.returns-in_err-say_pointer
returns-in_err-say_pointer g c =
    record { exact = stopped _ _ _ _ c.from_residual.ensures.1 (one_stops _ c.args.all.now (is_pointer c.args.p.now) (range c.args.i.now.kind c.args.i.now.term) c.in_err-say_pointer.ensures.exact) }

pub returns : goal.returns
returns g c = record { exact = one_more _ c.args.all.now (is_pointer c.args.p.now) (range c.args.i.now.kind c.args.i.now.term) _ _ c.in_ok-say_pointer.ensures.exact c.say_range.ensures.exact }
