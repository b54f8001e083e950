use Rattle.std.proofs.Common.{◌≡◌, Ok, rules}
use Rattle.std.proofs.lemmas.Result.{err_from_is_err_and}
use Rattle.floyd_assert_instances.specs.Instances.{taken}
use Rattle.floyd_entail_predicates.proofs.FoldLemmas.{instance_goes, instance_stops}
use Rattle.floyd_entail_predicates.proofs.folding.folds_clause.Goals as goal

pub returns-in_err-instance : goal.returns-in_err-instance
returns-in_err-instance g c =
    let p = err_from_is_err_and c.from_residual-in_err-instance.result c.from_residual-in_err-instance.ensures.1 in
    let by : taken c.args.clause.now.existentials c.args.args.now.more ≡ Ok c.in_ok-by.by.items = search rules in
    record {
      exact = rw (p.1, p.2)
          (instance_stops c.args.goal.now c.args.args.now c.args.source.now c.args.clause.now c.in_ok-by.by.items c.as_slice-3.result.now c.in_err-instance.field-0.0 by c.as_slice-3.ensures.value c.in_err-instance.ensures.exact);
    }

pub returns : goal.returns
returns g c =
    let by : taken c.args.clause.now.existentials c.args.args.now.more ≡ Ok c.in_ok-by.by.items = search rules in
    record {
      exact = instance_goes c.args.goal.now c.args.args.now c.args.source.now c.args.clause.now c.in_ok-instance.instance c.in_ok-by.by.items c.as_slice-3.result.now c.folds.result by c.as_slice-3.ensures.value c.in_ok-instance.ensures.exact c.folds.ensures.exact;
    }
