use Rattle.std.proofs.Common.{◌≡◌, Result, ap, sym, ◌∙◌, subst, refl, arith, length, ◌<◌, ◌≤◌, ◌+◌, List, get_or, nat_le, inl, inr}
use Rattle.std.proofs.lemmas.Bool.{le-leb}
use Rattle.std.proofs.lemmas.Result.{err_from_is_err_and}
use Rattle.floyd_text.specs.declared.refusal.Refusal.{Refusal}
use Rattle.floyd_text.specs.Gives.{Gives}
use Rattle.floyd_ctypes.specs.declared.ctype.CType.{CType, Void, Struct, Function}
use Rattle.floyd_ctypes.specs.declared.field.Field.{Field}
use Rattle.floyd_cparse_trees.specs.declared.declarations.Initialiser as i
use Rattle.floyd_clight.specs.declared.initial.Initial.{Initial}
use Rattle.floyd_elab_names.specs.declared.tags.Tags.{Tags as Kept}
use Rattle.floyd_elab_names.specs.Types.{array_of}
use Rattle.floyd_elab_names.proofs.TypeLemmas.{array_is}
use Rattle.floyd_elab_data.specs.Contents.{contents as contents_lem}
use Rattle.floyd_elab_data.specs.ItemClauses.{list_parts, no_parts}
use Rattle.floyd_elab_data.proofs.ItemLemmas.{IsSoFar, goes_on, stops, listed_stops, contents_listed, nothing_given, field_part, function_scalar, function_parts}
use Rattle.floyd_elab_data.proofs.lists.+contents.Goals as goal

pub list_contents-returns-in-Array : goal.list_contents-returns-in-Array
list_contents-returns-in-Array t c =
    let names = c.args.names.now in
    let items = c.args.items.now in
    let kept = c.args.tags.now in
    let e = c.in-Array.element in
    let n = c.in-Array.number in
    let is = ap (λ (x : CType). contents_lem names c.args.blame.around x (i.List c.args.blame.brace items) kept) (c.in-Array.is ∙ array_is e n)
    ∙ contents_listed names c.args.blame.brace (array_of e n) c.args.blame.around items kept refl in
    record {
      exact = subst (λ (wanted : Result (Initial × Kept) Refusal). Gives (λ (x : Initial). (x, kept)) c.array_contents.result wanted)
          (ap (λ (u : CType). list_parts names c.args.blame.brace (array_of u n) items kept) c.get.ensures ∙ sym is) c.array_contents.ensures.exact;
    }

pub list_contents-returns-in-Struct : goal.list_contents-returns-in-Struct
list_contents-returns-in-Struct t c =
    let names = c.args.names.now in
    let items = c.args.items.now in
    let kept = c.args.tags.now in
    let is = ap (λ (x : CType). contents_lem names c.args.blame.around x (i.List c.args.blame.brace items) kept) c.in-Struct.is
    ∙ contents_listed names c.args.blame.brace (Struct c.in-Struct.tag) c.args.blame.around items kept refl in
    record {
      exact = subst (λ (wanted : Result (Initial × Kept) Refusal). Gives (λ (x : Initial). (x, kept)) c.struct_contents.result wanted)
          (sym is) c.struct_contents.ensures.exact;
    }

pub list_contents-returns-in-Void : goal.list_contents-returns-in-Void
list_contents-returns-in-Void t c =
    let names = c.args.names.now in
    let items = c.args.items.now in
    let kept = c.args.tags.now in
    let all : CType → Result (Initial × Kept) Refusal = λ x. contents_lem names c.args.blame.around x (i.List c.args.blame.brace items) kept in
    let is : all c.args.t.now ≡ no_parts c.args.blame.brace items kept = elim c.in-Void.is [
      | inl e ↦ ap all e ∙ nothing_given names c.args.blame.brace Void c.args.blame.around items kept refl refl
      | inr f ↦ ap all f.2 ∙ nothing_given names c.args.blame.brace (Function f.0 f.1) c.args.blame.around items kept (function_scalar f.0 f.1) (function_parts kept.structs f.0 f.1)
    ] in
    record {
      exact = subst (λ (wanted : Result (Initial × Kept) Refusal). Gives (λ (x : Initial). (x, kept)) c.no_contents.result wanted)
          (sym is) (c.no_contents.ensures.exact kept);
    }

pub struct_contents-returns-in_err-part : goal.struct_contents-returns-in_err-part
struct_contents-returns-in_err-part t c =
    let names = c.args.names.now in
    let items = c.args.items.now in
    let kept = c.args.tags.now in
    let whole = Struct c.args.tag.now in
    let fields = c.fields_or_none-fields.result.now in
    let few : length items ≤ length fields = omega arith in
    let within : c.items.at < length fields = omega arith in
    let u = (get_or fields c.items.at c.index-fields-at.result).ty in
    let fits = field_part kept.structs c.args.tag.now fields c.items.at c.index-fields-at.result c.fields_or_none-fields.ensures within in
    let p = err_from_is_err_and c.from_residual.result c.from_residual.ensures.1 in
    rw (p.1, p.2) (record {
      exact = listed_stops names c.args.brace whole kept items
          (ap (λ (fs : List Field). nat_le (length items) (length fs)) (sym c.fields_or_none-fields.ensures) ∙ le-leb (length items) (length fields) few)
          c.in_err-part.field-0.0
          (stops names c.args.brace whole kept items c.items.at c.items.parts c.items.invariant c.index-items-at.result u c.items-test.true c.index-items-at.is fits
          c.in_err-part.field-0.0 c.in_err-part.ensures.exact);
    })

pub struct_contents-items-preserved : goal.struct_contents-items-preserved
struct_contents-items-preserved t c =
    let names = c.args.names.now in
    let items = c.args.items.now in
    let kept = c.args.tags.now in
    let whole = Struct c.args.tag.now in
    let fields = c.fields_or_none-fields.result.now in
    let within : c.items.at < length fields = omega arith in
    let u = (get_or fields c.items.at c.index-fields-at.result).ty in
    let fits = field_part kept.structs c.args.tag.now fields c.items.at c.index-fields-at.result c.fields_or_none-fields.ensures within in
    subst (IsSoFar names c.args.brace whole kept items (c.items.at + 1)) (sym c.in_ok-push.ensures.ok)
    (goes_on names c.args.brace whole kept items c.items.at c.items.parts c.items.invariant
    c.index-items-at.result u c.items-test.true c.index-items-at.is fits c.in_ok-part.part c.in_ok-part.ensures.exact)
