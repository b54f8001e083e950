use Rattle.std.specs.Prelude.{negsuc}
use Rattle.floyd_int.specs.Kind.{least}
use Rattle.floyd_fieldpath.specs.Nested.{literal}
use Rattle.floyd_symexpr_rows.specs.Formulas.{different}
use Rattle.floyd_symexpr_rows.proofs.PartLemmas.{either_gives, left_stops, right_stops}
use Rattle.floyd_symexpr_rows.proofs.SayingLemmas.{stopped}
use Rattle.floyd_symexpr_rows.proofs.formulas.say_no_least.Goals as goal

pub returns-in_err-left : goal.returns-in_err-left
returns-in_err-left g c =
    record { exact = stopped _ _ _ _ c.from_residual.ensures.1 (left_stops _ c.args.all.now (different c.args.a.now (literal (least c.args.kind))) (different c.args.b.now (literal (negsuc 0))) c.in_err-left.ensures.exact) }

pub returns-in_err-right : goal.returns-in_err-right
returns-in_err-right g c =
    record { exact = stopped _ _ _ _ c.from_residual-in_err-right.ensures.1 (right_stops _ c.args.all.now (different c.args.a.now (literal (least c.args.kind))) (different c.args.b.now (literal (negsuc 0))) c.in_err-right.ensures.exact) }

pub returns : goal.returns
returns g c = record { exact = either_gives _ _ c.args.all.now (different c.args.a.now (literal (least c.args.kind))) (different c.args.b.now (literal (negsuc 0))) _ _ c.in_ok-left.ensures.exact c.in_ok-right.ensures.exact c.say_either.ensures.exact }
