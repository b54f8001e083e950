use Rattle.std.proofs.Common.{◌≡◌, Ok, rules}
use Rattle.std.proofs.lemmas.Result.{err_from_is_err_and}
use Rattle.floyd_assert_changes.specs.Substituted.{formulas_with}
use Rattle.floyd_entail.proofs.IntrosLemmas.{memory_stops, opens_goes}
use Rattle.floyd_entail.proofs.intros.opens_with.Goals as goal

pub returns-in_err-memory : goal.returns-in_err-memory
returns-in_err-memory g c =
    let p = err_from_is_err_and c.from_residual-in_err-memory.result c.from_residual-in_err-memory.ensures.1 in
    let props : formulas_with c.args.pairs.now c.args.source.now.props ≡ Ok c.in_ok-props.props = search rules in
    record {
      exact = rw (p.1, p.2)
          (memory_stops c.args.goal.now c.args.source.now c.args.names.now c.args.pairs.now c.in_ok-props.props c.in_err-memory.field-0.0 props c.in_err-memory.ensures.exact);
    }

pub returns : goal.returns
returns g c =
    let props : formulas_with c.args.pairs.now c.args.source.now.props ≡ Ok c.in_ok-props.props = search rules in
    record {
      exact = opens_goes c.args.goal.now c.args.source.now c.args.names.now c.args.pairs.now c.in_ok-props.props c.in_ok-memory.memory c.in_ok-is_opened.field-0 props
          c.in_ok-memory.ensures.exact c.in_ok-is_opened.ensures;
    }
