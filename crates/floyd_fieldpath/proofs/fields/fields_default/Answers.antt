use Rattle.std.proofs.Common.{◌≡◌, ℕ, ◌+◌, ◌-◌, ◌<◌, ◌==◌, suc, Bool, true, false, List, [], ◌∷◌, length, arith, sym, ◌∙◌}
use Rattle.std.proofs.lemmas.Result.{err_from_is_err_and}
use Rattle.floyd_ctypes.specs.declared.field.Field.{Field}
use Rattle.floyd_fieldpath.proofs.FieldLemmas.{default_stops, last_default_stops}
use Rattle.floyd_fieldpath.proofs.fields.fields_default.Goals as goal

some_fields : (fields : List Field) (b : Bool) → b ≡ (length fields == 0) → b ≡ false → 0 < length fields
some_fields [] b e f = let wrong : true ≡ false = sym e ∙ f in absurd cc
some_fields (x ∷ fields) b e f = omega arith

pub returns-in_err-value : goal.returns-in_err-value
returns-in_err-value g c =
    let fields = c.args.fields.now in
    let some = some_fields fields c.is_empty.result c.is_empty.ensures c.if-is_empty.false in
    let count : (length fields - 1) + 1 ≡ length fields = omega (arith, some) in
    let p = err_from_is_err_and c.from_residual.result c.from_residual.ensures.1 in
    record {
      exact = rw (p.1, p.2)
          (last_default_stops c.args.structs.now fields (length fields - 1) c.index-fields-at.result c.in_err-value.field-0.0 count c.index-fields-at.is c.in_err-value.ensures.exact);
    }

pub returns-in_err-more : goal.returns-in_err-more
returns-in_err-more g c =
    let fields = c.args.fields.now in
    let k = c.fields.at - 1 in
    let next : c.fields.at ≡ suc k = omega arith in
    let within : suc k < length fields = omega arith in
    let p = err_from_is_err_and c.from_residual-in_err-more.result c.from_residual-in_err-more.ensures.1 in
    record {
      exact = rw (p.1, p.2)
          (default_stops c.args.structs.now fields c.fields.at k c.index-fields-at-in-fields.result c.fields.value c.in_err-more.field-0.0
          next within c.index-fields-at-in-fields.is c.fields.invariant.behind c.in_err-more.ensures.exact);
    }
