use Rattle.std.proofs.Common.{subst}
use Rattle.std.specs.Prelude.{[], ◌∷◌, pos}
use Rattle.floyd_text.specs.Gives.{RuleStops}
use Rattle.floyd_tree.specs.Types.{SizedType}
use Rattle.floyd_fieldpath.specs.Nested.{literal, sized_type}
use Rattle.floyd_symexpr_rows.specs.Formulas.{equal, of_type, saying}
use Rattle.floyd_symexpr_rows.proofs.SayingLemmas.{one_stops, stopped}
use Rattle.floyd_forward.proofs.assigning.say_may_store.Goals as goal

pub returns-in_err-say_of_type : goal.returns-in_err-say_of_type
returns-in_err-say_of_type g c =
    record {
      exact = stopped _ _ _ _ c.from_residual-in_err-say_of_type.ensures.1
          (one_stops _ c.args.all.now (of_type (sized_type c.args.t.now) c.args.v.now) (equal c.args.region.now.share (literal (pos 16)) ∷ [])
          (subst (λ (t : SizedType). RuleStops c.in_err-say_of_type.field-0.0 (saying c.args.all.now (of_type t c.args.v.now ∷ []))) c.in_ok-t.ensures c.in_err-say_of_type.ensures.exact));
    }
