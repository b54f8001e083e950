use Rattle.std.proofs.Common.{ℕ, Bool, List, Ok, Err, refl, ap, sym, ◌∙◌}
use Rattle.floyd_tree.specs.declared.paths.PathStep.{PathStep}
use Rattle.floyd_fieldpath.specs.Nested.{type_at}
use Rattle.floyd_termread_wants.specs.Refusals.{ill_sorted}
use Rattle.floyd_termread_scope.specs.Scopes.{env}
use Rattle.floyd_termread_marks.specs.Marks as marks
use Rattle.floyd_termread_parts.specs.Objects as objects
use Rattle.floyd_termread_parts.proofs.Chains.{stopped, given_some, given_none}
use Rattle.floyd_termread_parts.proofs.paths.struct_path_at.Goals as goal

pub returns-in_err-path-clause-exact : goal.returns-in_err-path-clause-exact
returns-in_err-path-clause-exact c =
    stopped (λ (x : List PathStep × ℕ). x) (objects.struct_path c.args.text.bytes.now c.args.text.tokens.now c.args.spot.depth (env c.args.scope.now c.args.bound.now) c.args.ty.now c.args.spot.at) c.from_residual.result c.in_err-path.field-0.0 c.from_residual.ensures.1 (λ refusal e. (Err refusal, rw e at c.in_err-path.ensures.exact, refl))

pub returns-then-branch-clause-exact : goal.returns-then-branch-clause-exact
returns-then-branch-clause-exact c =
    (Ok (c.in_ok-path.path, c.in_ok-path.behind), c.in_ok-path.ensures.exact, given_some _ (objects.path_if (objects.is_struct_type (type_at c.args.scope.now.defs.now.structs c.args.ty.now c.in_ok-path.path)) c.in_ok-path.path) c.in_ok-path.path c.in_ok-path.behind (ap (λ (b : Bool). objects.path_if b c.in_ok-path.path) (sym c.in_ok-is_struct_there.ensures ∙ c.if-branch.true)))

pub returns-clause-exact : goal.returns-clause-exact
returns-clause-exact c =
    (Ok (c.in_ok-path.path, c.in_ok-path.behind), c.in_ok-path.ensures.exact, given_none (ill_sorted (marks.place_at c.args.text.bytes.now c.args.text.tokens.now c.args.spot.at)) c.ill_sorted.result (objects.path_if (objects.is_struct_type (type_at c.args.scope.now.defs.now.structs c.args.ty.now c.in_ok-path.path)) c.in_ok-path.path) c.in_ok-path.behind (ap (λ (b : Bool). objects.path_if b c.in_ok-path.path) (sym c.in_ok-is_struct_there.ensures ∙ c.if-branch.false)) (c.ill_sorted.ensures ∙ ap ill_sorted c.first_place.ensures))
