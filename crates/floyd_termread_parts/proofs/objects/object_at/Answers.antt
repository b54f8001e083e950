use Rattle.std.proofs.Common.{◌≡◌, ℕ, Some, None, option_map, Ok, Err, refl, ap, sym, ◌∙◌}
use Rattle.floyd_tree_values.specs.Defaults.{value_sort}
use Rattle.floyd_termread_wants.specs.Refusals.{ill_sorted}
use Rattle.floyd_termread_scope.specs.Scopes.{env}
use Rattle.floyd_termread_marks.specs.Marks as marks
use Rattle.floyd_termread_parts.specs.declared.objects.Object.{Object}
use Rattle.floyd_termread_parts.specs.Objects as objects
use Rattle.floyd_termread_parts.proofs.Chains.{stopped, given_some, given_none}
use Rattle.floyd_termread_parts.proofs.objects.object_at.Goals as goal

pub returns-in_err-ty-clause-exact : goal.returns-in_err-ty-clause-exact
returns-in_err-ty-clause-exact c =
    stopped (λ (x : Object × ℕ). x) (objects.object c.args.text.bytes.now c.args.text.tokens.now c.args.spot.depth (env c.args.scope.now c.args.bound.now) c.args.share c.args.spot.at) c.from_residual.result c.in_err-ty.field-0.0 c.from_residual.ensures.1 (λ refusal e. (Err refusal, rw e at c.in_err-ty.ensures.exact, refl))

pub returns-in-Some-clause-exact : goal.returns-in-Some-clause-exact
returns-in-Some-clause-exact c =
    let e : value_sort c.args.scope.now.defs.now.structs (c.in_ok-ty.ty).shape ≡ Some c.in-Some.sort = sym (ap (value_sort c.args.scope.now.defs.now.structs) (c.get.ensures ∙ c.shape.ensures)) ∙ sym c.in_ok-sort.ensures ∙ c.in-Some.is in
    (Ok (c.in_ok-ty.ty, c.in_ok-ty.behind), c.in_ok-ty.ensures.exact, given_some _ (option_map (objects.object_of c.args.share c.in_ok-ty.ty) (value_sort c.args.scope.now.defs.now.structs (c.in_ok-ty.ty).shape)) (objects.object_of c.args.share c.in_ok-ty.ty c.in-Some.sort) c.in_ok-ty.behind (ap (option_map (objects.object_of c.args.share c.in_ok-ty.ty)) e))

pub returns-in-None-clause-exact : goal.returns-in-None-clause-exact
returns-in-None-clause-exact c =
    let e : value_sort c.args.scope.now.defs.now.structs (c.in_ok-ty.ty).shape ≡ None = sym (ap (value_sort c.args.scope.now.defs.now.structs) (c.get.ensures ∙ c.shape.ensures)) ∙ sym c.in_ok-sort.ensures ∙ c.in-None.is in
    (Ok (c.in_ok-ty.ty, c.in_ok-ty.behind), c.in_ok-ty.ensures.exact, given_none (ill_sorted (marks.place_at c.args.text.bytes.now c.args.text.tokens.now c.args.spot.at)) c.ill_sorted.result (option_map (objects.object_of c.args.share c.in_ok-ty.ty) (value_sort c.args.scope.now.defs.now.structs (c.in_ok-ty.ty).shape)) c.in_ok-ty.behind (ap (option_map (objects.object_of c.args.share c.in_ok-ty.ty)) e) (c.ill_sorted.ensures ∙ ap ill_sorted c.first_place.ensures))
