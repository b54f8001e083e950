use Rattle.std.specs.Prelude.{[], ◌∷◌, pos}
use Rattle.floyd_fieldpath.specs.Nested.{literal}
use Rattle.floyd_symexpr_rows.specs.Formulas.{at_most}
use Rattle.floyd_symexpr_rows.proofs.SayingLemmas.{one_more, one_stops, stopped}
use Rattle.floyd_symexpr_pointers.proofs.pointers.say_within.Goals as goal

pub returns-in_err-say_from : goal.returns-in_err-say_from
returns-in_err-say_from g c =
    record { exact = stopped _ _ _ _ c.from_residual.ensures.1 (one_stops _ c.args.all.now (at_most (literal (pos 1)) c.args.bytes.now) (at_most (literal (pos 0)) c.args.a.now ∷ at_most c.args.a.now c.args.bytes.now ∷ at_most (literal (pos 0)) c.args.b.now ∷ at_most c.args.b.now c.args.bytes.now ∷ []) c.in_err-say_from.ensures.exact) }

pub returns : goal.returns
returns g c = record { exact = one_more _ c.args.all.now (at_most (literal (pos 1)) c.args.bytes.now) (at_most (literal (pos 0)) c.args.a.now ∷ at_most c.args.a.now c.args.bytes.now ∷ at_most (literal (pos 0)) c.args.b.now ∷ at_most c.args.b.now c.args.bytes.now ∷ []) _ _ c.in_ok-say_from.ensures.exact c.say_offsets.ensures.exact }
