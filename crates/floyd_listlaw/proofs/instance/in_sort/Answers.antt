use Rattle.std.proofs.Common.{Some, sym, subst}
use Rattle.floyd_text.specs.Gives.{RuleStops}
use Rattle.floyd_listlaw.specs.Instances.{in_sort}
use Rattle.floyd_listlaw.specs.Table.{row}
use Rattle.floyd_listlaw.proofs.InstanceRuns.{made_law, some_formula, stopped}
use Rattle.floyd_listlaw.proofs.instance.in_sort.Goals as goal

pub law_of-requires : goal.law_of-requires
law_of-requires g c = some_formula (row c.args.law) c.args.s.now c.args.terms.now c.items.result.now c.in-Ok.formulas.items c.items.ensures.items c.in-Ok.ensures.ok

pub returns-in-Ok-clause-exact : goal.returns-in-Ok-clause-exact
returns-in-Ok-clause-exact g c =
    made_law (row c.args.law) c.args.s.now c.args.terms.now c.items.result.now c.in-Ok.formulas.items c.law_of.result c.items.ensures.items c.in-Ok.ensures.ok c.law_of.ensures

pub returns-in-Err-clause-exact : goal.returns-in-Err-clause-exact
returns-in-Err-clause-exact g c =
    subst (λ stop. RuleStops stop (in_sort (row c.args.law) c.args.terms.now (Some c.args.s.now))) (sym c.refusal.ensures)
    (stopped (row c.args.law) c.args.s.now c.args.terms.now c.items.result.now c.in-Err.stop c.items.ensures.items c.in-Err.ensures.err)
