use Rattle.std.proofs.Common.{◌≡◌, Ok, subst}
use Rattle.std.specs.Option.{option_copied}
use Rattle.std.proofs.lemmas.Result.{err_from_is_err_and}
use Rattle.floyd_text.specs.Gives.{RuleStops}
use Rattle.floyd_assert_trees.specs.declared.assertion.Assertion.{Assertion}
use Rattle.floyd_assert_trees.specs.declared.items.Defs.{Defs}
use Rattle.floyd_goal_parts.proofs.RowLemmas.{row_goes, row_stops}
use Rattle.floyd_conditions.specs.Conditions.{condition}
use Rattle.floyd_control.specs.ForwardIf.{DividesBy}
use Rattle.floyd_control.proofs.branching.divides_value.Goals as goal

pub returns-in_err-c : goal.returns-in_err-c
returns-in_err-c g c =
    let run = c.args.at.run.now in
    let defs = c.args.at.defs.now in
    let p = err_from_is_err_and c.from_residual.result c.from_residual.ensures.1 in
    record {
      exact = rw (p.1, p.2)
          (row_stops (condition run.source defs.structs c.args.e.now) (DividesBy run (option_copied c.args.a) c.args.forks.met.now c.args.forks.unmet.now) c.in_err-c.field-0.0
          (subst (λ (d : Defs). RuleStops c.in_err-c.field-0.0 (condition run.source d.structs c.args.e.now)) c.reader.ensures.defs
          (subst (λ (s : Assertion). RuleStops c.in_err-c.field-0.0 (condition s c.reader.result.defs.now.structs c.args.e.now)) c.reader.ensures.source c.in_err-c.ensures.exact)));
    }

pub returns : goal.returns
returns g c =
    let run = c.args.at.run.now in
    let defs = c.args.at.defs.now in
    record {
      exact = row_goes (condition run.source defs.structs c.args.e.now) c.in_ok-c.c (DividesBy run (option_copied c.args.a) c.args.forks.met.now c.args.forks.unmet.now) c.divides_by.result
          (subst (λ (d : Defs). condition run.source d.structs c.args.e.now ≡ Ok c.in_ok-c.c) c.reader.ensures.defs
          (subst (λ (s : Assertion). condition s c.reader.result.defs.now.structs c.args.e.now ≡ Ok c.in_ok-c.c) c.reader.ensures.source c.in_ok-c.ensures.exact))
          c.divides_by.ensures.exact;
    }
