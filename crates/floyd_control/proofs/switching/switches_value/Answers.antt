use Rattle.std.proofs.Common.{◌≡◌, Ok, subst}
use Rattle.std.proofs.lemmas.Result.{err_from_is_err_and}
use Rattle.floyd_text.specs.Gives.{RuleStops}
use Rattle.floyd_assert_trees.specs.declared.assertion.Assertion.{Assertion}
use Rattle.floyd_assert_trees.specs.declared.items.Defs.{Defs}
use Rattle.floyd_goal_parts.proofs.RowLemmas.{row_goes, row_stops}
use Rattle.floyd_symexpr_rows.specs.declared.needs.Needs.{Needs}
use Rattle.floyd_symexpr_rows.specs.declared.needs.Number.{Number}
use Rattle.floyd_control.specs.ForwardSwitch.{SwitchesBy, choice}
use Rattle.floyd_control.proofs.switching.switches_value.Goals as goal

pub returns-in_err-number : goal.returns-in_err-number
returns-in_err-number g c =
    let run = c.args.at.run.now in
    let defs = c.args.at.defs.now in
    let p = err_from_is_err_and c.from_residual.result c.from_residual.ensures.1 in
    record {
      exact = rw (p.1, p.2)
          (row_stops (choice run.source defs.structs c.args.e.now) (SwitchesBy run c.args.a.now c.args.cases.now) c.in_err-number.field-0.0
          (subst (λ (d : Defs). RuleStops c.in_err-number.field-0.0 (choice run.source d.structs c.args.e.now)) c.reader.ensures.defs
          (subst (λ (s : Assertion). RuleStops c.in_err-number.field-0.0 (choice s c.reader.result.defs.now.structs c.args.e.now)) c.reader.ensures.source c.in_err-number.ensures.exact)));
    }

pub returns : goal.returns
returns g c =
    let run = c.args.at.run.now in
    let defs = c.args.at.defs.now in
    let both : Number × Needs = (c.in_ok-number.number, c.in_ok-number.needs) in
    record {
      exact = row_goes (choice run.source defs.structs c.args.e.now) both (SwitchesBy run c.args.a.now c.args.cases.now) c.switches_by.result
          (subst (λ (d : Defs). choice run.source d.structs c.args.e.now ≡ Ok both) c.reader.ensures.defs
          (subst (λ (s : Assertion). choice s c.reader.result.defs.now.structs c.args.e.now ≡ Ok both) c.reader.ensures.source c.in_ok-number.ensures.exact))
          c.switches_by.ensures.exact;
    }
