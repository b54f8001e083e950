use Rattle.std.specs.Prelude.{[], ◌∷◌, pos}
use Rattle.floyd_int.specs.Kind.{width}
use Rattle.floyd_fieldpath.specs.Nested.{literal}
use Rattle.floyd_symexpr_rows.specs.Formulas.{at_most}
use Rattle.floyd_symexpr_rows.proofs.SayingLemmas.{one_more, one_stops, stopped}
use Rattle.floyd_symexpr_rows.proofs.integers.say_amount.Goals as goal

pub returns-in_err-say_from : goal.returns-in_err-say_from
returns-in_err-say_from g c =
    record { exact = stopped _ _ _ _ c.from_residual.ensures.1 (one_stops _ c.args.all.now (at_most (literal (pos 0)) c.args.b.now.term) (at_most c.args.more.now (literal (pos (width c.args.a.now.kind))) ∷ []) c.in_err-say_from.ensures.exact) }

pub returns : goal.returns
returns g c = record { exact = one_more _ c.args.all.now (at_most (literal (pos 0)) c.args.b.now.term) (at_most c.args.more.now (literal (pos (width c.args.a.now.kind))) ∷ []) _ _ c.in_ok-say_from.ensures.exact c.say_width.ensures.exact }
