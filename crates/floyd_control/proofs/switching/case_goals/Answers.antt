use Rattle.std.proofs.Common.{◌∙◌}
use Rattle.floyd_symexpr_rows.proofs.SayingLemmas.{stopped}
use Rattle.floyd_control.specs.ForwardSwitch.{case_goals, labels_of}
use Rattle.floyd_control.proofs.SwitchLemmas.{body_left, case_next, case_stops, cases_end}
use Rattle.floyd_control.proofs.switching.case_goals.Goals as goal

pub cases-preserved : goal.cases-preserved
cases-preserved g c =
    record {
      behind = c.in_ok-put_case.ensures.rest ∙ body_left c.cases.left.now c.in-Some.more.now c.in-Some.case.now c.cases.rest c.in-Some.ensures.cases.0 c.cases.invariant.behind;
      goals = case_next c.args.at.run.now c.args.switching.number.now (labels_of c.args.switching.cases.now) c.args.context.now c.args.switching.exits.now c.cases.goals c.cases.left.now c.in-Some.more.now c.in-Some.case.now c.cases.rest (case_goals c.args.at.run.now c.args.switching.number.now (labels_of c.args.switching.cases.now) c.args.context.now c.args.switching.exits.now c.args.switching.cases.now) c.in-Some.ensures.cases.0 c.cases.invariant.behind c.cases.invariant.goals c.in_ok-put_case.field-0 c.push.new.self c.in_ok-put_case.ensures.exact c.in_ok-push.ensures.ok;
    }

pub returns-in_err-put_case : goal.returns-in_err-put_case
returns-in_err-put_case g c =
    record {
      exact = stopped _ _ _ _ c.from_residual-in_err-put_case.ensures.1
          (case_stops c.args.at.run.now c.args.switching.number.now (labels_of c.args.switching.cases.now) c.args.context.now c.args.switching.exits.now c.cases.goals c.cases.left.now c.in-Some.more.now c.in-Some.case.now c.cases.rest (case_goals c.args.at.run.now c.args.switching.number.now (labels_of c.args.switching.cases.now) c.args.context.now c.args.switching.exits.now c.args.switching.cases.now) c.in-Some.ensures.cases.0 c.cases.invariant.behind c.cases.invariant.goals _ c.in_err-put_case.ensures.exact);
    }

pub returns : goal.returns
returns g c =
    record {
      exact = cases_end c.args.at.run.now c.args.switching.number.now (labels_of c.args.switching.cases.now) c.args.context.now c.args.switching.exits.now c.cases.goals c.cases.left.now (case_goals c.args.at.run.now c.args.switching.number.now (labels_of c.args.switching.cases.now) c.args.context.now c.args.switching.exits.now c.args.switching.cases.now) c.in_default.ensures.cases c.cases.invariant.goals;
    }
