use Rattle.std.proofs.Common.{ℕ, List, option_map, Ok, Err, refl, ap, sym, ◌∙◌}
use Rattle.floyd_tree_sorts.specs.declared.sorts.Sort.{Sort}
use Rattle.floyd_tree.specs.declared.paths.PathStep.{PathStep}
use Rattle.floyd_termread_wants.specs.Refusals.{ill_sorted}
use Rattle.floyd_termread_scope.specs.Scopes.{env}
use Rattle.floyd_termread_marks.specs.Marks as marks
use Rattle.floyd_termread_parts.specs.Objects as objects
use Rattle.floyd_termread_parts.proofs.Chains.{stopped, given_some, given_none}
use Rattle.floyd_termread_parts.proofs.paths.value_path_at.Goals as goal

pub returns-in_err-path-clause-exact : goal.returns-in_err-path-clause-exact
returns-in_err-path-clause-exact c =
    stopped (λ (x : (List PathStep × Sort) × ℕ). x) (objects.value_path c.args.text.bytes.now c.args.text.tokens.now c.args.spot.depth (env c.args.scope.now c.args.bound.now) c.args.ty.now c.args.spot.at) c.from_residual.result c.in_err-path.field-0.0 c.from_residual.ensures.1 (λ refusal e. (Err refusal, rw e at c.in_err-path.ensures.exact, refl))

pub returns-in-Some-clause-exact : goal.returns-in-Some-clause-exact
returns-in-Some-clause-exact c =
    (Ok (c.in_ok-path.path, c.in_ok-path.behind), c.in_ok-path.ensures.exact, given_some _ (option_map (λ (s : Sort). (c.in_ok-path.path, s)) (objects.sort_at c.args.scope.now.defs.now.structs c.args.ty.now c.in_ok-path.path)) (c.in_ok-path.path, c.in-Some.sort) c.in_ok-path.behind (ap (option_map (λ (s : Sort). (c.in_ok-path.path, s))) (sym c.in_ok-sort.ensures ∙ c.in-Some.is)))

pub returns-in-None-clause-exact : goal.returns-in-None-clause-exact
returns-in-None-clause-exact c =
    (Ok (c.in_ok-path.path, c.in_ok-path.behind), c.in_ok-path.ensures.exact, given_none (ill_sorted (marks.place_at c.args.text.bytes.now c.args.text.tokens.now c.args.spot.at)) c.ill_sorted.result (option_map (λ (s : Sort). (c.in_ok-path.path, s)) (objects.sort_at c.args.scope.now.defs.now.structs c.args.ty.now c.in_ok-path.path)) c.in_ok-path.behind (ap (option_map (λ (s : Sort). (c.in_ok-path.path, s))) (sym c.in_ok-sort.ensures ∙ c.in-None.is)) (c.ill_sorted.ensures ∙ ap ill_sorted c.first_place.ensures))
