use Rattle.std.proofs.Common.{[]}
use Rattle.floyd_symexpr_rows.proofs.SayingLemmas.{stopped}
use Rattle.floyd_symexpr_rows.specs.Formulas.{saying}
use Rattle.floyd_control.specs.ForwardSwitch.{labels_of, no_labels}
use Rattle.floyd_control.proofs.SwitchLemmas.{label_next, label_stops}
use Rattle.floyd_control.proofs.choosing.no_labels.Goals as goal

pub cases-preserved : goal.cases-preserved
cases-preserved g c =
    label_next c.args.a.now c.cases.all c.cases.rest.now c.in-Some.more.now c.in-Some.case.now (saying [] (no_labels c.args.a.now (labels_of c.args.cases.now))) c.in-Some.ensures.cases.0 c.cases.invariant
    c.say_other.new.all c.in_ok-say_other.ensures.exact

pub returns-in_err-say_other : goal.returns-in_err-say_other
returns-in_err-say_other g c =
    record {
      exact = stopped _ _ _ _ c.from_residual.ensures.1
          (label_stops c.args.a.now c.cases.all c.cases.rest.now c.in-Some.more.now c.in-Some.case.now (saying [] (no_labels c.args.a.now (labels_of c.args.cases.now))) c.in-Some.ensures.cases.0
          c.cases.invariant _ c.in_err-say_other.ensures.exact);
    }
