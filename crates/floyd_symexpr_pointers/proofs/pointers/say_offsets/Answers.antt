use Rattle.std.specs.Prelude.{[], ◌∷◌, pos}
use Rattle.floyd_fieldpath.specs.Nested.{literal}
use Rattle.floyd_symexpr_rows.specs.Formulas.{at_most}
use Rattle.floyd_symexpr_rows.proofs.SayingLemmas.{stopped}
use Rattle.floyd_symexpr_pointers.proofs.PointerLemmas.{two_more, two_stop}
use Rattle.floyd_symexpr_pointers.proofs.pointers.say_offsets.Goals as goal

pub returns-in_err-say_offset : goal.returns-in_err-say_offset
returns-in_err-say_offset g c =
    record { exact = stopped _ _ _ _ c.from_residual.ensures.1 (two_stop _ c.args.all.now (at_most (literal (pos 0)) c.args.a.now) (at_most c.args.a.now c.args.bytes.now) (at_most (literal (pos 0)) c.args.b.now ∷ at_most c.args.b.now c.args.bytes.now ∷ []) c.in_err-say_offset.ensures.exact) }

pub returns : goal.returns
returns g c = record { exact = two_more _ c.args.all.now (at_most (literal (pos 0)) c.args.a.now) (at_most c.args.a.now c.args.bytes.now) (at_most (literal (pos 0)) c.args.b.now ∷ at_most c.args.b.now c.args.bytes.now ∷ []) _ _ c.in_ok-say_offset.ensures.exact c.say_offset-2.ensures.exact }
