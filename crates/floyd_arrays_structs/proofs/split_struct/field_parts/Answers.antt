use Rattle.std.proofs.Common.{◌∙◌}
use Rattle.std.proofs.lemmas.Result.{err_from_is_err_and}
use Rattle.floyd_arrays_structs.proofs.StructLemmas.{parts_end, parts_step, parts_stop}
use Rattle.floyd_arrays_structs.proofs.split_struct.field_parts.Goals as goal

pub returns-in_err-part : goal.returns-in_err-part
returns-in_err-part g c =
    let p = err_from_is_err_and c.from_residual.result c.from_residual.ensures.1 in
    record {
      exact = rw (p.1, p.2)
          (parts_stop c.args.structs.now c.args.whole.now c.args.behind c.args.fields.now c.fields.field-index c.field-item.result c.fields.parts c.in_err-part.field-0.0 c.fields-test.true
          c.field-item.is c.fields.invariant c.in_err-part.ensures.exact);
    }

pub fields-preserved : goal.fields-preserved
fields-preserved g c =
    parts_step c.args.structs.now c.args.whole.now c.args.behind c.args.fields.now c.fields.field-index c.field-item.result c.in_ok-part.part c.fields.parts c.push.new.self c.fields-test.true
    c.field-item.is c.in_ok-part.ensures.exact c.in_ok-push.ensures.ok ∙ c.fields.invariant

pub returns : goal.returns
returns g c = record {
  exact = parts_end c.args.structs.now c.args.whole.now c.args.behind c.args.fields.now c.fields.field-index c.fields.parts c.append.new.self c.fields-test.false c.fields.invariant
      c.in_ok-append.ensures;
}
