use Rattle.std.proofs.Common.{◌≡◌, Ok, subst}
use Rattle.std.proofs.lemmas.Result.{err_from_is_err_and}
use Rattle.floyd_text.specs.Gives.{RuleStops}
use Rattle.floyd_assert_trees.specs.declared.assertion.Assertion.{Assertion}
use Rattle.floyd_goal_parts.proofs.RowLemmas.{row_goes, row_stops}
use Rattle.floyd_symexpr.specs.Expressions.{evaluate}
use Rattle.floyd_forward.specs.Set.{SetsTerm}
use Rattle.floyd_forward.proofs.setting.sets_evaluated.Goals as goal

pub returns-in_err-v : goal.returns-in_err-v
returns-in_err-v g c =
    let run = c.args.at.run.now in
    let structs = c.args.at.defs.now.structs in
    let p = err_from_is_err_and c.from_residual.result c.from_residual.ensures.1 in
    record {
      exact = rw (p.1, p.2)
          (row_stops (evaluate run.source structs c.args.e.now) (SetsTerm run c.args.name.now) c.in_err-v.field-0.0
          (subst (λ (s : Assertion). RuleStops c.in_err-v.field-0.0 (evaluate s structs c.args.e.now)) c.source.ensures c.in_err-v.ensures.exact));
    }

pub returns : goal.returns
returns g c =
    let run = c.args.at.run.now in
    let structs = c.args.at.defs.now.structs in
    record {
      exact = row_goes (evaluate run.source structs c.args.e.now) c.in_ok-v.v (SetsTerm run c.args.name.now) c.sets_term.result
          (subst (λ (s : Assertion). evaluate s structs c.args.e.now ≡ Ok c.in_ok-v.v) c.source.ensures c.in_ok-v.ensures.exact) c.sets_term.ensures.exact;
    }
