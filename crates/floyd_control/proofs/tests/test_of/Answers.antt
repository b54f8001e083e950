use Rattle.floyd_control.proofs.WhileLemmas.{test_absent, test_there}
use Rattle.floyd_control.proofs.tests.test_of.Goals as goal

pub returns-in_ok-share-in-If : goal.returns-in_ok-share-in-If
returns-in_ok-share-in-If c =
    test_there c.args.s.now c.in-If.e c.in_ok-share-in-If.field-0 c.in-If.met c.in-If.unmet c.get.result.now c.get-in-If.result.now c.in_ok-passes-in-If.field-0 c.in-If.is c.get.ensures c.get-in-If.ensures
    c.in_ok-passes-in-If.ensures c.if-branch.true c.in_ok-share-in-If.ensures

pub returns-else-branch : goal.returns-else-branch
returns-else-branch c =
    test_absent c.args.s.now c.in-If.e c.in-If.met c.in-If.unmet c.get.result.now c.get-in-If.result.now c.in_ok-passes-in-If.field-0 c.in-If.is c.get.ensures c.get-in-If.ensures c.in_ok-passes-in-If.ensures
    c.if-branch.false
