use Rattle.std.proofs.Common.{[], List, map, length, Ok, ap, sym, ◌∙◌, subst}
use Rattle.floyd_text.specs.Gives.{Stops}
use Rattle.floyd_ctypes.specs.declared.ctype.CType.{CType, Struct, Function}
use Rattle.floyd_ctypes.specs.declared.field.Field.{Field}
use Rattle.floyd_elab_names.specs.declared.wraps.Wrap.TheVariants as w
use Rattle.floyd_elab_names.specs.Refusing.{GivesWith, in_turn}
use Rattle.floyd_elab_names.specs.Types.{array_of}
use Rattle.floyd_elab_names.specs.WrapClauses.{wrap_all}
use Rattle.floyd_elab_names.specs.Declarators.{base_type, made_by, complete, new_field, field_names, field_types, new_parameter, pointers, number_in}
use Rattle.floyd_elab_names.specs.DeclaratorClauses.{add_field, add_fields, add_parameter}
use Rattle.floyd_elab_names.proofs.PartLemmas.{behind_fields, behind_type, of_struct, of_struct_fields, tag_there, all_stored, of_field, of_parameter, row_done, row_stops, of_bare}
use Rattle.floyd_elab_names.proofs.SpecifierLemmas.{of_parentheses, of_pointer, of_array, of_function, function_behind, with_wrap}
use Rattle.floyd_elab_names.proofs.TurnLemmas.{stops_with, stops_first, first_done, turn_next}
use Rattle.floyd_elab_names.proofs.specifiers.+declared.Goals as goal

-- A struct with its fields.

pub base_type-returns-in_err-fields-in-StructWith : goal.base_type-returns-in_err-fields-in-StructWith
base_type-returns-in_err-fields-in-StructWith t c =
    let scopes = c.args.names.now in
    let site = c.args.site.now in
    let tag = c.in-StructWith.tag in
    let all = c.as_slice.result.now in
    let t1 = c.begin_fields.new.tags in
    let t2 = c.all_fields.new.tags in
    let e = c.in_err-fields-in-StructWith.field-0.0 in
    stops_with _ c.from_residual-in_err-fields-in-StructWith.result e t2 (base_type scopes site c.args.base.now c.args.tags.now) c.from_residual-in_err-fields-in-StructWith.ensures.1
    (subst (Stops e) (sym (of_struct scopes site c.args.tags.now t1 t2 c.args.base.now tag c.in-StructWith.rows all c.in-StructWith.is c.as_slice.ensures c.in_ok-begin_fields-in-StructWith.ensures))
    (stops_first (behind_fields scopes site c.args.tags.now t1 t2 tag) e (in_turn (map (add_fields scopes site) all) [] t1) c.in_err-fields-in-StructWith.ensures))

pub base_type-complete-requires-clause-there : goal.base_type-complete-requires-clause-there
base_type-complete-requires-clause-there t c =
    tag_there c.args.names.now c.args.site.now c.args.tags.now c.begin_fields.new.tags c.all_fields.new.tags c.args.base.now c.in-StructWith.tag c.in-StructWith.rows c.as_slice.result.now
    c.in-StructWith.is c.as_slice.ensures c.in_ok-begin_fields-in-StructWith.ensures c.in_ok-fields-in-StructWith.fields c.in_ok-fields-in-StructWith.ensures

pub base_type-complete-requires-clause-stored : goal.base_type-complete-requires-clause-stored
base_type-complete-requires-clause-stored t c =
    all_stored c.args.names.now c.args.site.now c.args.tags.now c.begin_fields.new.tags c.all_fields.new.tags c.args.base.now c.in-StructWith.tag c.in-StructWith.rows c.as_slice.result.now
    c.in-StructWith.is c.as_slice.ensures c.in_ok-begin_fields-in-StructWith.ensures c.in_ok-fields-in-StructWith.fields c.in_ok-fields-in-StructWith.ensures
    c.into_items.result c.into_items.ensures

pub base_type-returns-in_err-complete-in-StructWith : goal.base_type-returns-in_err-complete-in-StructWith
base_type-returns-in_err-complete-in-StructWith t c =
    let scopes = c.args.names.now in
    let site = c.args.site.now in
    let tag = c.in-StructWith.tag in
    let t1 = c.begin_fields.new.tags in
    let t2 = c.all_fields.new.tags in
    let e = c.in_err-complete-in-StructWith.field-0.0 in
    stops_with _ c.from_residual-in_err-complete-in-StructWith.result e c.complete.new.tags (base_type scopes site c.args.base.now c.args.tags.now) c.from_residual-in_err-complete-in-StructWith.ensures.1
    (subst (Stops e)
    (sym (of_struct_fields scopes site c.args.tags.now t1 t2 c.args.base.now tag c.in-StructWith.rows c.as_slice.result.now
    c.in-StructWith.is c.as_slice.ensures c.in_ok-begin_fields-in-StructWith.ensures c.in_ok-fields-in-StructWith.fields c.in_ok-fields-in-StructWith.ensures
    ∙ ap (λ (fs : List Field). behind_fields scopes site c.args.tags.now t1 t2 tag fs t2) (sym c.into_items.ensures)))
    (stops_first (λ done u. Ok (Struct tag.name, u)) e (complete tag c.into_items.result t2) c.in_err-complete-in-StructWith.ensures))

pub base_type-returns-in_ok-share-in-StructWith : goal.base_type-returns-in_ok-share-in-StructWith
base_type-returns-in_ok-share-in-StructWith t c =
    let scopes = c.args.names.now in
    let site = c.args.site.now in
    let tag = c.in-StructWith.tag in
    let t1 = c.begin_fields.new.tags in
    let t2 = c.all_fields.new.tags in
    of_struct_fields scopes site c.args.tags.now t1 t2 c.args.base.now tag c.in-StructWith.rows c.as_slice.result.now
    c.in-StructWith.is c.as_slice.ensures c.in_ok-begin_fields-in-StructWith.ensures c.in_ok-fields-in-StructWith.fields c.in_ok-fields-in-StructWith.ensures
    ∙ ap (λ (fs : List Field). behind_fields scopes site c.args.tags.now t1 t2 tag fs t2) (sym c.into_items.ensures)
    ∙ first_done (λ done u. Ok (Struct tag.name, u)) (complete tag c.into_items.result t2) tt c.complete.new.tags c.in_ok-complete-in-StructWith.ensures
    ∙ ap (λ n. Ok (Struct n, c.complete.new.tags)) (sym c.in_ok-share-in-StructWith.ensures)

-- Fields and parameters.

pub add_field-returns-in_err-field : goal.add_field-returns-in_err-field
add_field-returns-in_err-field t c =
    let scopes = c.args.names.now in
    let site = c.args.site.now in
    let d = c.args.d.now in
    let t1 = c.made_by.new.tags in
    let e = c.in_err-field.field-0.0 in
    stops_with _ c.from_residual-in_err-field.result e t1 (add_field scopes site c.args.base.now d c.args.fields c.args.tags.now) c.from_residual-in_err-field.ensures.1
    (subst (Stops e)
    (sym (of_field scopes site c.args.tags.now t1 t1 d c.in_ok-inner.inner c.in_ok-wraps.wraps c.args.fields c.args.base.now c.in_ok-share.field-0 c.in_ok-t.t
    c.in_ok-inner.ensures c.in_ok-wraps.ensures c.in_ok-share.ensures c.in_ok-t.ensures))
    (stops_first (behind_type scopes site c.args.tags.now t1 t1 c.args.fields) e (new_field site (field_names c.args.fields) d c.in_ok-t.t t1) c.in_err-field.ensures))

pub add_fields-declarators-preserved : goal.add_fields-declarators-preserved
add_fields-declarators-preserved t c =
    let scopes = c.args.names.now in
    let site = c.args.site.now in (
      c.declarators.invariant.0,
      sym (turn_next (add_field scopes site c.in_ok-t.t) c.as_slice-d-items.result.now c.declarators.d-index c.d-item.result c.declarators-test.true c.d-item.is
          c.declarators.fields c.in_ok-fields.fields c.declarators.tags c.add_field.new.tags
          (ap (λ (x : CType). add_field scopes site x c.d-item.result c.declarators.fields c.declarators.tags) (sym c.declarators.invariant.0) ∙ c.in_ok-fields.ensures))
          ∙ c.declarators.invariant.1,
    )

pub add_fields-returns-in_err-fields : goal.add_fields-returns-in_err-fields
add_fields-returns-in_err-fields t c =
    let scopes = c.args.names.now in
    let site = c.args.site.now in
    let e = c.in_err-fields.field-0.0 in
    stops_with _ c.from_residual-in_err-fields.result e c.add_field.new.tags (add_fields scopes site c.args.row.now c.args.fields c.args.tags.now) c.from_residual-in_err-fields.ensures.1
    (row_stops scopes site c.args.tags.now c.base_type.new.tags c.declarators.tags c.args.row.now c.as_slice-d-items.result.now c.in_ok-t.t c.args.fields c.declarators.fields c.declarators.d-index
    c.in_ok-t.ensures c.as_slice-d-items.ensures c.declarators.invariant.1 c.d-item.result _ e c.declarators-test.true c.d-item.is c.declarators.invariant.0 c.in_err-fields.ensures)

pub add_fields-returns : goal.add_fields-returns
add_fields-returns t c =
    row_done c.args.names.now c.args.site.now c.args.tags.now c.base_type.new.tags c.declarators.tags c.args.row.now c.as_slice-d-items.result.now c.in_ok-t.t c.args.fields c.declarators.fields
    c.declarators.d-index c.in_ok-t.ensures c.as_slice-d-items.ensures c.declarators.invariant.1 c.declarators-test.false

pub add_parameter-returns-in_err-parameter : goal.add_parameter-returns-in_err-parameter
add_parameter-returns-in_err-parameter t c =
    let scopes = c.args.names.now in
    let site = c.args.site.now in
    let p = c.args.p.now in
    let t1 = c.base_type.new.tags in
    let t2 = c.made_by.new.tags in
    let e = c.in_err-parameter.field-0.0 in
    stops_with _ c.from_residual-in_err-parameter.result e t2 (add_parameter scopes site p c.args.all c.args.tags.now) c.from_residual-in_err-parameter.ensures.1
    (subst (Stops e)
    (sym (of_parameter scopes site c.args.tags.now t1 t2 p c.in_ok-inner.inner c.in_ok-wraps.wraps c.args.all c.in_ok-base.base c.in_ok-t.t
    c.in_ok-base.ensures c.in_ok-inner.ensures c.in_ok-wraps.ensures c.in_ok-t.ensures))
    (stops_first (behind_type scopes site c.args.tags.now t1 t2 c.args.all) e (new_parameter site (field_names c.args.all) p.declarator c.in_ok-t.t t2) c.in_err-parameter.ensures))

pub add_parameter-returns : goal.add_parameter-returns
add_parameter-returns t c =
    let scopes = c.args.names.now in
    let site = c.args.site.now in
    let p = c.args.p.now in
    let t1 = c.base_type.new.tags in
    let t2 = c.made_by.new.tags in
    of_parameter scopes site c.args.tags.now t1 t2 p c.in_ok-inner.inner c.in_ok-wraps.wraps c.args.all c.in_ok-base.base c.in_ok-t.t
    c.in_ok-base.ensures c.in_ok-inner.ensures c.in_ok-wraps.ensures c.in_ok-t.ensures
    ∙ first_done (behind_type scopes site c.args.tags.now t1 t2 c.args.all) (new_parameter site (field_names c.args.all) p.declarator c.in_ok-t.t t2) c.in_ok-parameter.parameter t2 c.in_ok-parameter.ensures
    ∙ ap (λ (fs : List Field). Ok (fs, t2)) (sym c.in_ok-with.ensures)

-- Declarators.

pub made_by-returns-in-Name : goal.made_by-returns-in-Name
made_by-returns-in-Name t c = of_bare c.args.names.now c.args.site.now c.args.tags.now c.args.tags.now c.args.tags.now c.args.d.now c.new.result c.in-Name.is c.new.ensures

pub made_by-returns-in-Parenthesised : goal.made_by-returns-in-Parenthesised
made_by-returns-in-Parenthesised t c =
    let scopes = c.args.names.now in
    let site = c.args.site.now in
    let s = c.args.tags.now in
    subst (GivesWith wrap_all c.made_by.result c.made_by.new.tags)
    (ap (λ d. made_by scopes site d s) c.get.ensures ∙ sym (ap (λ d. made_by scopes site d s) c.in-Parenthesised.is ∙ of_parentheses scopes site c.in-Parenthesised.inner s c.in-Parenthesised.place))
    c.made_by.ensures

pub made_by-returns-in_err-wraps-in-Pointer : goal.made_by-returns-in_err-wraps-in-Pointer
made_by-returns-in_err-wraps-in-Pointer t c =
    let scopes = c.args.names.now in
    let site = c.args.site.now in
    let s = c.args.tags.now in
    let inner = c.in-Pointer.inner in
    let e = c.in_err-wraps-in-Pointer.field-0.0 in
    stops_with wrap_all c.from_residual.result e c.made_by-in-Pointer.new.tags (made_by scopes site c.args.d.now s) c.from_residual.ensures.1
    (subst (Stops e) (sym (ap (λ d. made_by scopes site d s) c.in-Pointer.is ∙ of_pointer scopes site inner s c.in-Pointer.stars))
    (stops_first (λ make s1. Ok ((λ t. make (pointers (length c.in-Pointer.stars) t)), s1)) e (made_by scopes site inner s)
    (subst (λ d. Stops e (made_by scopes site d s)) c.get-in-Pointer.ensures c.in_err-wraps-in-Pointer.ensures)))

pub made_by-returns-in_ok-push-in-Pointer : goal.made_by-returns-in_ok-push-in-Pointer
made_by-returns-in_ok-push-in-Pointer t c =
    let scopes = c.args.names.now in
    let site = c.args.site.now in
    let s = c.args.tags.now in
    let t1 = c.made_by-in-Pointer.new.tags in
    let inner = c.in-Pointer.inner in
    let stars = c.in-Pointer.stars in
    let ws = c.in_ok-wraps-in-Pointer.wraps in
    let w = w.Pointers c.len.result in
    ap (λ d. made_by scopes site d s) c.in-Pointer.is
    ∙ of_pointer scopes site inner s stars
    ∙ first_done (λ make s1. Ok ((λ t. make (pointers (length stars) t)), s1)) (made_by scopes site inner s) (wrap_all ws) t1
    (ap (λ d. made_by scopes site d s) (sym c.get-in-Pointer.ensures) ∙ c.in_ok-wraps-in-Pointer.ensures)
    ∙ ap (λ n. Ok ((λ t. wrap_all ws (pointers n t)), t1)) (sym c.len.ensures)
    ∙ ap (λ make. Ok (make, t1)) (with_wrap ws c.push.new.self w c.in_ok-push-in-Pointer.ensures.ok)

pub made_by-returns-in_err-wraps-in-Array : goal.made_by-returns-in_err-wraps-in-Array
made_by-returns-in_err-wraps-in-Array t c =
    let scopes = c.args.names.now in
    let site = c.args.site.now in
    let s = c.args.tags.now in
    let inner = c.in-Array.inner in
    let e = c.in_err-wraps-in-Array.field-0.0 in
    stops_with wrap_all c.from_residual-in_err-wraps-in-Array.result e c.made_by-in-Array.new.tags (made_by scopes site c.args.d.now s) c.from_residual-in_err-wraps-in-Array.ensures.1
    (subst (Stops e) (sym (ap (λ d. made_by scopes site d s) c.in-Array.is ∙ of_array scopes site inner s c.in-Array.place c.in-Array.size))
    (stops_first (λ make s1. Ok ((λ t. make (array_of t (number_in c.in-Array.size))), s1)) e (made_by scopes site inner s)
    (subst (λ d. Stops e (made_by scopes site d s)) c.get-in-Array.ensures c.in_err-wraps-in-Array.ensures)))

pub made_by-returns-in_ok-push-in-Array : goal.made_by-returns-in_ok-push-in-Array
made_by-returns-in_ok-push-in-Array t c =
    let scopes = c.args.names.now in
    let site = c.args.site.now in
    let s = c.args.tags.now in
    let t1 = c.made_by-in-Array.new.tags in
    let inner = c.in-Array.inner in
    let size = c.in-Array.size in
    let ws = c.in_ok-wraps-in-Array.wraps in
    let w = w.Array c.number_in.result in
    ap (λ d. made_by scopes site d s) c.in-Array.is
    ∙ of_array scopes site inner s c.in-Array.place size
    ∙ first_done (λ make s1. Ok ((λ t. make (array_of t (number_in size))), s1)) (made_by scopes site inner s) (wrap_all ws) t1
    (ap (λ d. made_by scopes site d s) (sym c.get-in-Array.ensures) ∙ c.in_ok-wraps-in-Array.ensures)
    ∙ ap (λ n. Ok ((λ t. wrap_all ws (array_of t n)), t1)) (sym c.number_in.ensures)
    ∙ ap (λ make. Ok (make, t1)) (with_wrap ws c.push-in-Array.new.self w c.in_ok-push-in-Array.ensures.ok)

pub made_by-returns-in_err-wraps-in-Function : goal.made_by-returns-in_err-wraps-in-Function
made_by-returns-in_err-wraps-in-Function t c =
    let scopes = c.args.names.now in
    let site = c.args.site.now in
    let s = c.args.tags.now in
    let inner = c.in-Function.inner in
    let ps = c.in-Function.parameters in
    let e = c.in_err-wraps-in-Function.field-0.0 in
    stops_with wrap_all c.from_residual-in_err-wraps-in-Function.result e c.made_by-in-Function.new.tags (made_by scopes site c.args.d.now s) c.from_residual-in_err-wraps-in-Function.ensures.1
    (subst (Stops e) (sym (ap (λ d. made_by scopes site d s) c.in-Function.is ∙ of_function scopes site inner s c.in-Function.place ps))
    (stops_first (function_behind scopes site inner s ps) e (made_by scopes site inner s)
    (subst (λ d. Stops e (made_by scopes site d s)) c.get-in-Function.ensures c.in_err-wraps-in-Function.ensures)))

pub made_by-returns-in_err-all-in-Function : goal.made_by-returns-in_err-all-in-Function
made_by-returns-in_err-all-in-Function t c =
    let scopes = c.args.names.now in
    let site = c.args.site.now in
    let s = c.args.tags.now in
    let t1 = c.made_by-in-Function.new.tags in
    let inner = c.in-Function.inner in
    let ps = c.in-Function.parameters in
    let given = c.as_slice.result.now in
    let ws = c.in_ok-wraps-in-Function.wraps in
    let e = c.in_err-all-in-Function.field-0.0 in
    stops_with wrap_all c.from_residual-in_err-all-in-Function.result e c.all_parameters.new.tags (made_by scopes site c.args.d.now s) c.from_residual-in_err-all-in-Function.ensures.1
    (subst (Stops e)
    (sym (ap (λ d. made_by scopes site d s) c.in-Function.is ∙ of_function scopes site inner s c.in-Function.place ps
    ∙ first_done (function_behind scopes site inner s ps) (made_by scopes site inner s) (wrap_all ws) t1
    (ap (λ d. made_by scopes site d s) (sym c.get-in-Function.ensures) ∙ c.in_ok-wraps-in-Function.ensures)))
    (stops_first (λ parameters s2. Ok ((λ t. wrap_all ws (Function (field_types parameters) t)), s2)) e (in_turn (map (add_parameter scopes site) ps) [] t1)
    (subst (λ (xs : List _). Stops e (in_turn (map (add_parameter scopes site) xs) [] t1)) c.as_slice.ensures c.in_err-all-in-Function.ensures)))

pub made_by-returns-in_ok-push-in-Function : goal.made_by-returns-in_ok-push-in-Function
made_by-returns-in_ok-push-in-Function t c =
    let scopes = c.args.names.now in
    let site = c.args.site.now in
    let s = c.args.tags.now in
    let t1 = c.made_by-in-Function.new.tags in
    let t2 = c.all_parameters.new.tags in
    let inner = c.in-Function.inner in
    let ps = c.in-Function.parameters in
    let ws = c.in_ok-wraps-in-Function.wraps in
    let all = c.in_ok-all-in-Function.all in
    let w = w.Function c.in_ok-types-in-Function.field-0 in
    ap (λ d. made_by scopes site d s) c.in-Function.is
    ∙ of_function scopes site inner s c.in-Function.place ps
    ∙ first_done (function_behind scopes site inner s ps) (made_by scopes site inner s) (wrap_all ws) t1
    (ap (λ d. made_by scopes site d s) (sym c.get-in-Function.ensures) ∙ c.in_ok-wraps-in-Function.ensures)
    ∙ first_done (λ parameters s2. Ok ((λ t. wrap_all ws (Function (field_types parameters) t)), s2)) (in_turn (map (add_parameter scopes site) ps) [] t1) all t2
    (ap (λ (xs : List _). in_turn (map (add_parameter scopes site) xs) [] t1) (sym c.as_slice.ensures) ∙ c.in_ok-all-in-Function.ensures)
    ∙ ap (λ (ts : List CType). Ok ((λ t. wrap_all ws (Function ts t)), t2)) (sym c.in_ok-types-in-Function.ensures)
    ∙ ap (λ make. Ok (make, t2)) (with_wrap ws c.push-in-Function.new.self w c.in_ok-push-in-Function.ensures.ok)
