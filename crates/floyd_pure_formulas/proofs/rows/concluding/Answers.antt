use Rattle.std.proofs.Common.{Ok, Err, subst}
use Rattle.floyd_goal.specs.Answers.{IsAnswer}
use Rattle.floyd_goal.specs.Sides.{Side}
use Rattle.floyd_pure_formulas.proofs.Premises.{concluding_gives, concluding_stops}
use Rattle.floyd_pure_formulas.proofs.rows.concluding.Goals as goal

pub returns-in-Err : goal.returns-in-Err
returns-in-Err g c =
    record {
      exact = concluding_stops c.args.goal.now c.args.premises.now c.args.conclusion.now c.in-Err.stop
          (subst (λ x. IsAnswer (Side x c.args.premises.now) (Err c.in-Err.stop)) c.context_of.ensures c.in-Err.ensures.exact);
    }

pub returns-in_ok-concluded-in-Ok : goal.returns-in_ok-concluded-in-Ok
returns-in_ok-concluded-in-Ok g c =
    record {
      exact = concluding_gives c.args.goal.now c.args.premises.now c.args.conclusion.now c.in-Ok.sides c.in_ok-concluded-in-Ok.field-0
          (subst (λ x. Side x c.args.premises.now (Ok c.in-Ok.sides)) c.context_of.ensures c.in-Ok.ensures.exact) c.in_ok-concluded-in-Ok.ensures;
    }
