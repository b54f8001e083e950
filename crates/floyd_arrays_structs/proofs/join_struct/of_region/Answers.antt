use Rattle.std.proofs.lemmas.Result.{err_from_is_err_and}
use Rattle.floyd_arrays_structs.specs.JoinStruct.{last_field}
use Rattle.floyd_arrays_structs.proofs.JoinLemmas.{named_goes, named_stops}
use Rattle.floyd_arrays_structs.proofs.join_struct.of_region.Goals as goal

pub returns-in_err-whole : goal.returns-in_err-whole
returns-in_err-whole g c =
    let region = c.args.region.now in
    let e = err_from_is_err_and c.from_residual-in_err-whole.result c.from_residual-in_err-whole.ensures.1 in
    record {
      exact = rw (e.1, e.2)
          (named_stops c.args.structs.now c.args.parts.now region c.in_ok-outer.outer c.args.value.now c.in-Some.name.now (last_field region.path) c.in_err-whole.field-0.0 c.in-Some.ensures
          c.in_ok-outer.ensures c.in_err-whole.ensures.exact);
    }

pub returns : goal.returns
returns g c =
    let region = c.args.region.now in
    record {
      exact = named_goes c.args.structs.now c.args.parts.now region c.in_ok-outer.outer c.args.value.now c.in-Some.name.now (last_field region.path) c.in_ok-whole.whole c.of_whole.result
          c.in-Some.ensures c.in_ok-outer.ensures c.in_ok-whole.ensures.exact c.of_whole.ensures.exact;
    }
