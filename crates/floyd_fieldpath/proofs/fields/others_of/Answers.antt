use Rattle.std.proofs.Common.{◌≡◌, ◌<◌, suc, length, subst, sym, ◌∙◌, arith}
use Rattle.std.proofs.lemmas.Result.{err_from_is_err_and}
use Rattle.floyd_text.specs.Gives.{RuleStops}
use Rattle.floyd_fieldpath.specs.Updates.{others_written}
use Rattle.floyd_fieldpath.proofs.FieldLemmas.{behind_first, others_stop, rest_stops}
use Rattle.floyd_fieldpath.proofs.fields.others_of.Goals as goal

pub returns-in_err-rest : goal.returns-in_err-rest
returns-in_err-rest g c =
    let fields = c.args.fields.now in
    let k = c.fields.at in
    let stop = c.in_err-rest.field-0.0 in
    let within : suc k < length fields = omega arith in
    let stopped = subst (λ fs. RuleStops stop (others_written c.args.structs.now fs c.fields.value)) (behind_first fields k) c.in_err-rest.ensures.exact in
    let p = err_from_is_err_and c.from_residual-in_err-rest.result c.from_residual-in_err-rest.ensures.1 in
    record {
      exact = rw (p.1, p.2)
          (subst (RuleStops stop) c.fields.invariant
          (rest_stops c.args.structs.now fields c.args.name.now k c.index-fields-at.result c.fields.value c.fields.before stop within c.index-fields-at.is
          (sym c.eq.ensures ∙ c.if-eq.true) stopped));
    }

pub returns-in_err-rest-2 : goal.returns-in_err-rest-2
returns-in_err-rest-2 g c =
    let fields = c.args.fields.now in
    let k = c.fields.at in
    let stop = c.in_err-rest-2.field-0.0 in
    let within : suc k < length fields = omega arith in
    let p = err_from_is_err_and c.from_residual-in_err-rest-2.result c.from_residual-in_err-rest-2.ensures.1 in
    record {
      exact = rw (p.1, p.2)
          (subst (RuleStops stop) c.fields.invariant
          (others_stop c.args.structs.now fields c.args.name.now k c.index-fields-at.result c.fields.value c.in_ok-first.first c.fields.before stop within c.index-fields-at.is
          (sym c.eq.ensures ∙ c.if-eq.false) c.in_ok-first.ensures.exact c.in_err-rest-2.ensures.exact));
    }
