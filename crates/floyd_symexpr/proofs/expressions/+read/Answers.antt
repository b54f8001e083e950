use Rattle.std.proofs.Common.{◌∙◌, Result, Ok, Err, ap, arith, refl, sym}
use Rattle.floyd_text.specs.declared.refusal.No.{No}
use Rattle.floyd_clight.specs.Types.{type_of}
use Rattle.floyd_fieldpath.specs.Written.{on_ok}
use Rattle.floyd_symexpr_rows.specs.declared.needs.Needs.{Needs}
use Rattle.floyd_symexpr_paths.specs.declared.lvalue.Lvalue.{Lvalue}
use Rattle.floyd_symexpr.specs.Expressions.{read}
use Rattle.floyd_symexpr.proofs.Chains.{gives_as, one_goes, one_stops, two_go, two_stops}
use Rattle.floyd_symexpr.proofs.ReadingLemmas.{after_both, after_cast, after_field, after_object, after_operand, after_place, behind_no_binary, behind_other, behind_sum, no_object, place_at_deref, place_at_field, second, value_at_address, value_at_binary, value_at_deref, value_at_field, value_at_null_cast, value_at_other_cast, value_at_unary, value_at_var}
use Rattle.floyd_symexpr.proofs.TypeLemmas.{after_array, after_elements, after_pointer, behind_array, behind_value, beside_null, elements_of_array, elements_of_pointer, is_none, no_elements, no_sum}
use Rattle.floyd_symexpr.proofs.Weights.{below_address, below_binary, below_cast, below_deref, below_field, below_left, below_right, below_unary}
use Rattle.floyd_symexpr.proofs.expressions.+read.Goals as goal

-- The term of an expression.

pub value-returns-in-Var : goal.value-returns-in-Var
value-returns-in-Var g t c =
    record { exact = gives_as _ _ _ _ (value_at_var c.args.at.source.now c.args.at.structs.now c.args.e.now _ _ _ c.args.needs.now c.in-Var.is) c.value_of_object.ensures.exact }

pub value-returns-in-Deref : goal.value-returns-in-Deref
value-returns-in-Deref g t c =
    record { exact = gives_as _ _ _ _ (value_at_deref c.args.at.source.now c.args.at.structs.now c.args.e.now _ _ c.args.needs.now c.in-Deref.is) c.value_of_object-in-Deref.ensures.exact }

pub value-returns-in-Field : goal.value-returns-in-Field
value-returns-in-Field g t c =
    record { exact = gives_as _ _ _ _ (value_at_field c.args.at.source.now c.args.at.structs.now c.args.e.now _ _ _ c.args.needs.now c.in-Field.is) c.value_of_object-in-Field.ensures.exact }

pub value-place-requires : goal.value-place-requires
value-place-requires g t c κs within =
    (omega (arith, below_address c.args.e.now c.in-AddrOf.object c.get.result.now _ c.in-AddrOf.is c.get.ensures, c.decreases), within)

pub value-returns-in_err-l-in-AddrOf : goal.value-returns-in_err-l-in-AddrOf
value-returns-in_err-l-in-AddrOf g t c =
    record { exact = one_stops _ _ _ _ ((read c.args.at.source.now c.args.at.structs.now c.get.result.now).place c.args.needs.now) (after_place c.args.at.source.now c.args.at.structs.now) (value_at_address c.args.at.source.now c.args.at.structs.now c.args.e.now c.in-AddrOf.object c.get.result.now _ c.args.needs.now c.in-AddrOf.is c.get.ensures) c.from_residual.ensures.1 c.in_err-l-in-AddrOf.ensures.exact }

pub value-returns-in_ok-l-in-AddrOf : goal.value-returns-in_ok-l-in-AddrOf
value-returns-in_ok-l-in-AddrOf g t c =
    record { exact = one_goes _ _ _ ((read c.args.at.source.now c.args.at.structs.now c.get.result.now).place c.args.needs.now) (after_place c.args.at.source.now c.args.at.structs.now) _ (value_at_address c.args.at.source.now c.args.at.structs.now c.args.e.now c.in-AddrOf.object c.get.result.now _ c.args.needs.now c.in-AddrOf.is c.get.ensures) c.in_ok-l-in-AddrOf.ensures.exact c.address_row.ensures.exact }

pub value-value-requires : goal.value-value-requires
value-value-requires g t c κs within =
    (omega (arith, below_unary c.args.e.now c.in-Unary.op c.in-Unary.operand c.get-a.result.now _ c.in-Unary.is c.get-a.ensures, c.decreases), within)

pub value-returns-in_err-v-in-Unary : goal.value-returns-in_err-v-in-Unary
value-returns-in_err-v-in-Unary g t c =
    record { exact = one_stops _ _ _ _ ((read c.args.at.source.now c.args.at.structs.now c.get-a.result.now).value c.args.needs.now) (after_operand c.args.at.source.now c.args.at.structs.now c.in-Unary.op (type_of c.get-a.result.now)) (value_at_unary c.args.at.source.now c.args.at.structs.now c.args.e.now c.in-Unary.op c.in-Unary.operand c.get-a.result.now _ c.args.needs.now c.in-Unary.is c.get-a.ensures) c.from_residual-in_err-v-in-Unary.ensures.1 c.in_err-v-in-Unary.ensures.exact }

pub value-returns-in_ok-v-in-Unary : goal.value-returns-in_ok-v-in-Unary
value-returns-in_ok-v-in-Unary g t c =
    record { exact = one_goes _ _ _ ((read c.args.at.source.now c.args.at.structs.now c.get-a.result.now).value c.args.needs.now) (after_operand c.args.at.source.now c.args.at.structs.now c.in-Unary.op (type_of c.get-a.result.now)) _ (value_at_unary c.args.at.source.now c.args.at.structs.now c.args.e.now c.in-Unary.op c.in-Unary.operand c.get-a.result.now _ c.args.needs.now c.in-Unary.is c.get-a.ensures) c.in_ok-v-in-Unary.ensures.exact c.operated_one.ensures.exact }

pub value-value-requires-in-Binary : goal.value-value-requires-in-Binary
value-value-requires-in-Binary g t c κs within =
    (omega (arith, below_left c.args.e.now c.in-Binary.op c.in-Binary.left c.get-a-in-Binary.result.now c.in-Binary.right _ c.in-Binary.is c.get-a-in-Binary.ensures, c.decreases), within)

pub value-value-requires-in-Binary-2 : goal.value-value-requires-in-Binary-2
value-value-requires-in-Binary-2 g t c κs within =
    (omega (arith, below_right c.args.e.now c.in-Binary.op c.in-Binary.left c.in-Binary.right c.get-b.result.now _ c.in-Binary.is c.get-b.ensures, c.decreases), within)

pub value-returns-in_err-v-in-Binary : goal.value-returns-in_err-v-in-Binary
value-returns-in_err-v-in-Binary g t c =
    record { exact = one_stops _ _ _ _ ((read c.args.at.source.now c.args.at.structs.now c.get-a-in-Binary.result.now).value c.args.needs.now) (λ v. on_ok ((second c.args.at.source.now c.args.at.structs.now c.get-b.result.now) v) ((after_both c.args.at.source.now c.args.at.structs.now c.in-Binary.op (type_of c.get-a-in-Binary.result.now) (type_of c.get-b.result.now)) v)) (value_at_binary c.args.at.source.now c.args.at.structs.now c.args.e.now c.in-Binary.op c.in-Binary.left c.get-a-in-Binary.result.now c.in-Binary.right c.get-b.result.now _ c.args.needs.now c.in-Binary.is c.get-a-in-Binary.ensures c.get-b.ensures) c.from_residual-in_err-v-in-Binary.ensures.1 c.in_err-v-in-Binary.ensures.exact }

pub value-returns-in_err-w-in-Binary : goal.value-returns-in_err-w-in-Binary
value-returns-in_err-w-in-Binary g t c =
    record { exact = two_stops _ _ _ _ ((read c.args.at.source.now c.args.at.structs.now c.get-a-in-Binary.result.now).value c.args.needs.now) _ (second c.args.at.source.now c.args.at.structs.now c.get-b.result.now) (after_both c.args.at.source.now c.args.at.structs.now c.in-Binary.op (type_of c.get-a-in-Binary.result.now) (type_of c.get-b.result.now)) (value_at_binary c.args.at.source.now c.args.at.structs.now c.args.e.now c.in-Binary.op c.in-Binary.left c.get-a-in-Binary.result.now c.in-Binary.right c.get-b.result.now _ c.args.needs.now c.in-Binary.is c.get-a-in-Binary.ensures c.get-b.ensures) c.in_ok-v-in-Binary.ensures.exact c.from_residual-in_err-w-in-Binary.ensures.1 c.in_err-w-in-Binary.ensures.exact }

pub value-returns-in_ok-w-in-Binary : goal.value-returns-in_ok-w-in-Binary
value-returns-in_ok-w-in-Binary g t c =
    record { exact = two_go _ _ _ ((read c.args.at.source.now c.args.at.structs.now c.get-a-in-Binary.result.now).value c.args.needs.now) _ (second c.args.at.source.now c.args.at.structs.now c.get-b.result.now) _ (after_both c.args.at.source.now c.args.at.structs.now c.in-Binary.op (type_of c.get-a-in-Binary.result.now) (type_of c.get-b.result.now)) (value_at_binary c.args.at.source.now c.args.at.structs.now c.args.e.now c.in-Binary.op c.in-Binary.left c.get-a-in-Binary.result.now c.in-Binary.right c.get-b.result.now _ c.args.needs.now c.in-Binary.is c.get-a-in-Binary.ensures c.get-b.ensures) c.in_ok-v-in-Binary.ensures.exact c.in_ok-w-in-Binary.ensures.exact c.operated_two.ensures.exact }

pub value-returns-then-is_null_cast : goal.value-returns-then-is_null_cast
value-returns-then-is_null_cast g t c =
    record { exact = gives_as _ _ _ _ (value_at_null_cast c.args.at.source.now c.args.at.structs.now c.args.e.now c.in-Cast.operand c.get-a-in-Cast.result.now c.in-Cast.t c.args.needs.now c.is_null_cast.result c.in-Cast.is c.get-a-in-Cast.ensures c.is_null_cast.ensures c.if-is_null_cast.true) (beside_null c.args.needs.now c.null_pointer.result c.null_pointer.ensures.exact) }

pub value-value-requires-in-Cast : goal.value-value-requires-in-Cast
value-value-requires-in-Cast g t c κs within =
    (omega (arith, below_cast c.args.e.now c.in-Cast.operand c.get-a-in-Cast.result.now c.in-Cast.t c.in-Cast.is c.get-a-in-Cast.ensures, c.decreases), within)

pub value-returns-in_err-v-in-Cast : goal.value-returns-in_err-v-in-Cast
value-returns-in_err-v-in-Cast g t c =
    record { exact = one_stops _ _ _ _ ((read c.args.at.source.now c.args.at.structs.now c.get-a-in-Cast.result.now).value c.args.needs.now) (after_cast c.args.at.source.now c.args.at.structs.now (type_of c.get-a-in-Cast.result.now) c.in-Cast.t) (value_at_other_cast c.args.at.source.now c.args.at.structs.now c.args.e.now c.in-Cast.operand c.get-a-in-Cast.result.now c.in-Cast.t c.args.needs.now c.is_null_cast.result c.in-Cast.is c.get-a-in-Cast.ensures c.is_null_cast.ensures c.if-is_null_cast.false) c.from_residual-in_err-v-in-Cast.ensures.1 c.in_err-v-in-Cast.ensures.exact }

pub value-returns-in_ok-v-in-Cast : goal.value-returns-in_ok-v-in-Cast
value-returns-in_ok-v-in-Cast g t c =
    record { exact = one_goes _ _ _ ((read c.args.at.source.now c.args.at.structs.now c.get-a-in-Cast.result.now).value c.args.needs.now) (after_cast c.args.at.source.now c.args.at.structs.now (type_of c.get-a-in-Cast.result.now) c.in-Cast.t) _ (value_at_other_cast c.args.at.source.now c.args.at.structs.now c.args.e.now c.in-Cast.operand c.get-a-in-Cast.result.now c.in-Cast.t c.args.needs.now c.is_null_cast.result c.in-Cast.is c.get-a-in-Cast.ensures c.is_null_cast.ensures c.if-is_null_cast.false) c.in_ok-v-in-Cast.ensures.exact c.operated_cast.ensures.exact }

-- The term of what stands for an object.

pub value_of_object-returns-in_err-l : goal.value_of_object-returns-in_err-l
value_of_object-returns-in_err-l g t c =
    record { exact = one_stops _ _ _ _ ((read c.args.at.source.now c.args.at.structs.now c.args.e.now).place c.args.needs.now) (after_object c.args.at.source.now c.args.at.structs.now (type_of c.args.e.now)) refl c.from_residual.ensures.1 c.in_err-l.ensures.exact }

pub value_of_object-returns : goal.value_of_object-returns
value_of_object-returns g t c =
    record { exact = one_goes _ _ _ ((read c.args.at.source.now c.args.at.structs.now c.args.e.now).place c.args.needs.now) (after_object c.args.at.source.now c.args.at.structs.now (type_of c.args.e.now)) _ refl c.in_ok-l.ensures.exact c.object_term.ensures.exact }

-- The object that an expression stands for.

pub place-behind-requires : goal.place-behind-requires
place-behind-requires g t c κs within =
    (omega (arith, below_deref c.args.e.now c.in-Deref.pointer c.get.result.now c.in-Deref.t c.in-Deref.is c.get.ensures, c.decreases), within)

pub place-returns-in-Deref : goal.place-returns-in-Deref
place-returns-in-Deref g t c =
    record { exact = gives_as _ _ _ _ (place_at_deref c.args.at.source.now c.args.at.structs.now c.args.e.now c.in-Deref.pointer c.get.result.now c.in-Deref.t c.args.needs.now c.in-Deref.is c.get.ensures) c.behind.ensures.exact }

pub place-place-requires : goal.place-place-requires
place-place-requires g t c κs within =
    (omega (arith, below_field c.args.e.now c.in-Field.object c.get-a.result.now c.in-Field.name _ c.in-Field.is c.get-a.ensures, c.decreases), within)

pub place-returns-in_err-whole-in-Field : goal.place-returns-in_err-whole-in-Field
place-returns-in_err-whole-in-Field g t c =
    record { exact = one_stops _ _ _ _ ((read c.args.at.source.now c.args.at.structs.now c.get-a.result.now).place c.args.needs.now) (after_field c.args.at.source.now c.args.at.structs.now (type_of c.get-a.result.now) c.in-Field.name) (place_at_field c.args.at.source.now c.args.at.structs.now c.args.e.now c.in-Field.object c.get-a.result.now c.in-Field.name _ c.args.needs.now c.in-Field.is c.get-a.ensures) c.from_residual-in_err-whole-in-Field.ensures.1 c.in_err-whole-in-Field.ensures.exact }

pub place-returns-in_ok-field_of-in-Field : goal.place-returns-in_ok-field_of-in-Field
place-returns-in_ok-field_of-in-Field g t c =
    record { exact = one_goes {C = Lvalue} (λ (l : Lvalue). (l, c.place.new.needs)) (Ok c.in_ok-field_of-in-Field.field-0) _ ((read c.args.at.source.now c.args.at.structs.now c.get-a.result.now).place c.args.needs.now) (after_field c.args.at.source.now c.args.at.structs.now (type_of c.get-a.result.now) c.in-Field.name) _ (place_at_field c.args.at.source.now c.args.at.structs.now c.args.e.now c.in-Field.object c.get-a.result.now c.in-Field.name _ c.args.needs.now c.in-Field.is c.get-a.ensures) c.in_ok-whole-in-Field.ensures.exact (ap {B = Result (Lvalue × Needs) No} (λ (z : Lvalue). Ok (z, c.place.new.needs)) (sym c.in_ok-field_of-in-Field.ensures)) }

pub place-returns-in_default : goal.place-returns-in_default
place-returns-in_default g t c =
    record { exact = no_object c.args.at.source.now c.args.at.structs.now c.args.e.now c.args.needs.now c.in_default.not-Var c.in_default.not-Deref c.in_default.not-Field ∙ ap Err (sym c.no_part.ensures) }

-- The object to which a value leads.

pub behind-sum_behind-requires : goal.behind-sum_behind-requires
behind-sum_behind-requires g t c κs within =
    (omega (arith, below_binary c.args.e.now c.in-Binary.op c.in-Binary.left c.get.result.now c.in-Binary.right c.get-then-is_add.result.now _ c.in-Binary.is c.get.ensures c.get-then-is_add.ensures, c.decreases), within)

pub behind-returns-then-is_add : goal.behind-returns-then-is_add
behind-returns-then-is_add g t c =
    record { exact = gives_as _ _ _ _ (behind_sum c.args.at.source.now c.args.at.structs.now c.args.e.now c.in-Binary.op c.in-Binary.left c.get.result.now c.in-Binary.right c.get-then-is_add.result.now _ c.args.t.now c.args.needs.now c.is_add.result c.in-Binary.is c.get.ensures c.get-then-is_add.ensures c.is_add.ensures c.if-is_add.true) c.sum_behind.ensures.exact }

pub behind-returns-else-is_add : goal.behind-returns-else-is_add
behind-returns-else-is_add g t c =
    record { exact = gives_as _ _ _ _ (behind_other c.args.at.source.now c.args.at.structs.now c.args.e.now c.in-Binary.op c.in-Binary.left c.in-Binary.right _ c.args.t.now c.args.needs.now c.is_add.result c.in-Binary.is c.is_add.ensures c.if-is_add.false) c.behind_type.ensures.exact }

pub behind-returns-in_default : goal.behind-returns-in_default
behind-returns-in_default g t c =
    record { exact = gives_as _ _ _ _ (behind_no_binary c.args.at.source.now c.args.at.structs.now c.args.e.now c.args.t.now c.args.needs.now c.in_default.not-Binary) c.behind_type-in_default.ensures.exact }

-- The same of what is no sum.

pub behind_type-returns-in_err-l : goal.behind_type-returns-in_err-l
behind_type-returns-in_err-l g t c =
    record { exact = one_stops _ _ _ _ ((read c.args.at.source.now c.args.at.structs.now c.args.e.now).place c.args.needs.now) (after_array c.args.t.now) (behind_array (type_of c.args.e.now) ((read c.args.at.source.now c.args.at.structs.now c.args.e.now).place) ((read c.args.at.source.now c.args.at.structs.now c.args.e.now).value) c.args.t.now c.args.needs.now c.has_array_type.result c.has_array_type.ensures c.if-has_array_type.true) c.from_residual.ensures.1 c.in_err-l.ensures.exact }

pub behind_type-returns-in_err-v : goal.behind_type-returns-in_err-v
behind_type-returns-in_err-v g t c =
    record { exact = one_stops _ _ _ _ ((read c.args.at.source.now c.args.at.structs.now c.args.e.now).value c.args.needs.now) (after_pointer c.args.t.now) (behind_value (type_of c.args.e.now) ((read c.args.at.source.now c.args.at.structs.now c.args.e.now).place) ((read c.args.at.source.now c.args.at.structs.now c.args.e.now).value) c.args.t.now c.args.needs.now c.has_array_type.result c.has_array_type.ensures c.if-has_array_type.false) c.from_residual-in_err-v.ensures.1 c.in_err-v.ensures.exact }

-- The elements of an array, or the objects to which a pointer leads.

pub elements-returns-then-has_array_type : goal.elements-returns-then-has_array_type
elements-returns-then-has_array_type g t c =
    record { exact = gives_as _ _ _ _ (elements_of_array c.args.at.source.now c.args.at.structs.now (type_of c.args.e.now) c.args.t.now (read c.args.at.source.now c.args.at.structs.now c.args.e.now) c.args.needs.now c.has_array_type.result c.has_array_type.ensures c.if-has_array_type.true) c.place.ensures.exact }

pub elements-returns-in_err-v : goal.elements-returns-in_err-v
elements-returns-in_err-v g t c =
    record { exact = one_stops _ _ _ _ ((read c.args.at.source.now c.args.at.structs.now c.args.e.now).value c.args.needs.now) (after_elements c.args.t.now) (elements_of_pointer c.args.at.source.now c.args.at.structs.now (type_of c.args.e.now) c.args.t.now (read c.args.at.source.now c.args.at.structs.now c.args.e.now) c.args.needs.now c.has_pointer_type.result c.has_pointer_type.ensures c.if-has_pointer_type.true) c.from_residual.ensures.1 c.in_err-v.ensures.exact }

pub elements-returns : goal.elements-returns
elements-returns g t c =
    record { exact = no_elements c.args.at.source.now c.args.at.structs.now (type_of c.args.e.now) c.args.t.now (read c.args.at.source.now c.args.at.structs.now c.args.e.now) c.args.needs.now c.has_array_type.result c.has_pointer_type.result c.has_array_type.ensures c.if-has_array_type.false c.has_pointer_type.ensures c.if-has_pointer_type.false ∙ ap Err (sym c.not_number.ensures) }

-- The object behind the sum of a number and an address.

pub sum_behind-returns : goal.sum_behind-returns
sum_behind-returns g t c =
    record { exact = no_sum c.args.at.source.now c.args.at.structs.now (type_of c.args.a.now) (type_of c.args.b.now) (read c.args.at.source.now c.args.at.structs.now c.args.a.now) (read c.args.at.source.now c.args.at.structs.now c.args.b.now) c.args.t.now c.args.needs.now c.kind_of.result c.kind_of-2.result c.kind_of.ensures (is_none c.kind_of.result c.in_default.not-Some) c.kind_of-2.ensures (is_none c.kind_of-2.result c.in_default-kind_of.not-Some) ∙ ap Err (sym c.not_number.ensures) }
