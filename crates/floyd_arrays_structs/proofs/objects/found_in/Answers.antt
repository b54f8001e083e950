use Rattle.std.proofs.Common.{sym, subst}
use Rattle.std.proofs.lemmas.Result.{err_from_is_err_and}
use Rattle.floyd_arrays_structs.specs.declared.objects.Found.{Found}
use Rattle.floyd_arrays_structs.specs.JoinStruct.{IsFound}
use Rattle.floyd_arrays_structs.specs.JoinStructClauses.{found_ahead}
use Rattle.floyd_arrays_structs.proofs.ObjectLemmas.{ahead_nothing, found_end, found_step, found_stops}
use Rattle.floyd_arrays_structs.proofs.objects.found_in.Goals as goal

pub fields-init : goal.fields-init
fields-init c = λ answer h.
    subst (λ (f : Found). IsFound c.args.region.now c.args.parts.now c.args.fields.now (found_ahead f answer)) (sym c.new-found.ensures)
    (subst (IsFound c.args.region.now c.args.parts.now c.args.fields.now) (sym (ahead_nothing answer)) h)

pub fields-preserved : goal.fields-preserved
fields-preserved c =
    found_step c.args.region.now c.args.parts.now c.args.fields.now c.fields.field-index c.field-item.result c.in_ok-place.place c.fields.found c.fields-test.true c.field-item.is c.in_ok-place.ensures
    c.fields.invariant c.in_ok-more.more c.in_ok-more.ensures.exact

pub returns-in_err-more : goal.returns-in_err-more
returns-in_err-more c =
    let e = err_from_is_err_and c.from_residual-in_err-more.result c.from_residual-in_err-more.ensures.1 in
    record {
      exact = rw (e.1, e.2)
          (found_stops c.args.region.now c.args.parts.now c.args.fields.now c.fields.field-index c.field-item.result c.in_ok-place.place c.fields.found c.fields-test.true c.field-item.is c.in_ok-place.ensures
          c.fields.invariant c.in_err-more.field-0.0 c.in_err-more.ensures.exact);
    }

pub returns : goal.returns
returns c = record {
  exact = found_end c.args.region.now c.args.parts.now c.args.fields.now c.fields.field-index c.fields.found c.fields-test.false c.fields.invariant;
}
