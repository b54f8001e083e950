use Rattle.std.proofs.Common.{◌≤◌, ◌++◌, List, length, ap, ◌∙◌, arith}
use Rattle.floyd_clight.specs.declared.syntax.Stmt.{Stmt}
use Rattle.floyd_clight.specs.Flat.{flat}
use Rattle.floyd_control.specs.ForwardSwitch.{bodies_of}
use Rattle.floyd_control.proofs.SwitchLemmas.{bodies_end, bodies_next}
use Rattle.floyd_control.proofs.switching.bodies.Goals as goal

pub cases-preserved : goal.cases-preserved
cases-preserved c =
    bodies_next c.cases.all c.append.new.self c.args.cases.now c.cases.case-index c.case-item.result (bodies_of c.args.cases.now) c.cases-test.true c.case-item.is c.cases.invariant
    (c.in_ok-append.ensures ∙ ap (λ (ss : List Stmt). c.cases.all ++ ss) (c.in_ok-flat.ensures ∙ ap flat c.get.ensures))

pub returns : goal.returns
returns c =
    let high : length c.args.cases.now ≤ c.cases.case-index = omega arith in
    c.new-2.ensures ∙ c.in_ok-new.ensures ∙ bodies_end c.cases.all c.args.cases.now c.cases.case-index (bodies_of c.args.cases.now) high c.cases.invariant
