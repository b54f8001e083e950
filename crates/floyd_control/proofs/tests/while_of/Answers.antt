use Rattle.floyd_control.proofs.WhileLemmas.{while_absent, while_there}
use Rattle.floyd_control.proofs.tests.while_of.Goals as goal

pub returns-then-branch : goal.returns-then-branch
returns-then-branch c =
    while_absent c.args.s.now c.in-Loop.first c.in-Loop.second c.get.result.now c.in_ok-is_followed-in-Loop.field-0 c.in-Loop.is c.get.ensures c.in_ok-is_followed-in-Loop.ensures c.if-branch.true

pub returns-in_ok-all_of-in-Loop : goal.returns-in_ok-all_of-in-Loop
returns-in_ok-all_of-in-Loop c =
    while_there c.tested.result c.args.s.now c.in-Loop.first c.in-Loop.second c.get-else-branch.result.now c.get.result.now c.in_ok-is_followed-in-Loop.field-0 c.in_ok-all_of-in-Loop.field-0 c.in-Loop.is
    c.get-else-branch.ensures c.get.ensures c.in_ok-is_followed-in-Loop.ensures c.if-branch.false c.in_ok-all_of-in-Loop.ensures c.tested.ensures
