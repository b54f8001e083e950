use Rattle.std.proofs.Common.{subst}
use Rattle.std.proofs.lemmas.Result.{err_from_is_err_and}
use Rattle.floyd_text.specs.Gives.{RuleGives}
use Rattle.floyd_fieldpath.specs.UpdateClauses.{within_levels}
use Rattle.floyd_fieldpath.proofs.UpdateLemmas.{update_gives, update_stops}
use Rattle.floyd_fieldpath.proofs.updates.update.Goals as goal

pub returns-in_err-levels : goal.returns-in_err-levels
returns-in_err-levels g c =
    let p = err_from_is_err_and c.from_residual-in_err-levels.result c.from_residual-in_err-levels.ensures.1 in
    record {
      exact = rw (p.1, p.2)
          (update_stops c.args.structs.now c.args.t.now c.in_ok-_nested._nested c.args.path.now c.args.v.now c.args.new.now c.in_err-levels.field-0.0
          c.in_ok-_nested.ensures.exact c.in_err-levels.ensures.exact);
    }

pub returns : goal.returns
returns g c =
    record {
      exact = update_gives c.args.structs.now c.args.t.now c.in_ok-_nested._nested c.args.path.now c.args.v.now c.args.new.now c.in_ok-levels.levels.items c.within_levels.result
          c.in_ok-_nested.ensures.exact c.in_ok-levels.ensures.exact
          (subst (λ ls. RuleGives (λ a. a) c.within_levels.result (within_levels c.args.structs.now ls c.args.new.now)) c.as_slice.ensures.value c.within_levels.ensures.exact);
    }
