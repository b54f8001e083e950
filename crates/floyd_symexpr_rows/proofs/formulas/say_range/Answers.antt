use Rattle.std.specs.Prelude.{[], ◌∷◌}
use Rattle.floyd_int.specs.Kind.{greatest, least}
use Rattle.floyd_fieldpath.specs.Nested.{literal}
use Rattle.floyd_symexpr_rows.specs.Formulas.{at_most}
use Rattle.floyd_symexpr_rows.proofs.SayingLemmas.{one_more, one_stops, stopped}
use Rattle.floyd_symexpr_rows.proofs.formulas.say_range.Goals as goal

pub returns-in_err-say_least : goal.returns-in_err-say_least
returns-in_err-say_least g c =
    record { exact = stopped _ _ _ _ c.from_residual.ensures.1 (one_stops _ c.args.all.now (at_most (literal (least c.args.kind)) c.args.n.now) (at_most c.args.n.now (literal (greatest c.args.kind)) ∷ []) c.in_err-say_least.ensures.exact) }

pub returns : goal.returns
returns g c = record { exact = one_more _ c.args.all.now (at_most (literal (least c.args.kind)) c.args.n.now) (at_most c.args.n.now (literal (greatest c.args.kind)) ∷ []) _ _ c.in_ok-say_least.ensures.exact c.say_greatest.ensures.exact }
