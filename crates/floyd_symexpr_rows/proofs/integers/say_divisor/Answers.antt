use Rattle.std.specs.Prelude.{pos}
use Rattle.floyd_fieldpath.specs.Nested.{literal}
use Rattle.floyd_symexpr_rows.specs.Formulas.{different}
use Rattle.floyd_symexpr_rows.specs.Rows.{no_overflow}
use Rattle.floyd_symexpr_rows.proofs.SayingLemmas.{one_more, one_stops, stopped}
use Rattle.floyd_symexpr_rows.proofs.integers.say_divisor.Goals as goal

pub returns-in_err-say_differs : goal.returns-in_err-say_differs
returns-in_err-say_differs g c =
    record { exact = stopped _ _ _ _ c.from_residual.ensures.1 (one_stops _ c.args.all.now (different c.args.b.now.term (literal (pos 0))) (no_overflow c.args.a.now c.args.b.now) c.in_err-say_differs.ensures.exact) }

pub returns : goal.returns
returns g c = record { exact = one_more _ c.args.all.now (different c.args.b.now.term (literal (pos 0))) (no_overflow c.args.a.now c.args.b.now) _ _ c.in_ok-say_differs.ensures.exact c.say_quotient.ensures.exact }
