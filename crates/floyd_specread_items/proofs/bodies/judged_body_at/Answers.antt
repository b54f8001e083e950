use Rattle.std.proofs.Common.{ℕ, List, Ok, Err, refl, ap, subst, ◌∙◌}
use Rattle.floyd_assert_trees.specs.declared.assertion.Assertion.{Assertion}
use Rattle.floyd_assert_trees.specs.declared.binder.Binder.{Binder}
use Rattle.floyd_predicates.specs.Calls.{unhidden}
use Rattle.floyd_termread_scope.specs.Scopes.{env, sort_of}
use Rattle.floyd_termread_assertions.specs.Assertions.{under}
use Rattle.floyd_termread_assertions.specs.BoundClauses.{bound_by_all}
use Rattle.floyd_termread_assertions.proofs.BoundLemmas.{under_is}
use Rattle.floyd_specread_recursion.specs.JudgedClauses.{IsJudged}
use Rattle.floyd_specread_recursion.proofs.JudgedLemmas.{judged_is}
use Rattle.floyd_specread_items.specs.Bodies as specs
use Rattle.floyd_termread_parts.proofs.Chains.{stopped, carried}
use Rattle.floyd_specread_items.proofs.bodies.judged_body_at.Goals as goal

pub returns-in_err-existentials-clause-exact : goal.returns-in_err-existentials-clause-exact
returns-in_err-existentials-clause-exact c =
    stopped (λ (x : Assertion × ℕ). x) (specs.judged_body c.args.text.bytes.now c.args.text.tokens.now c.args.calls.own.now c.args.calls.parts.now (env c.args.scope.now c.args.bound.now) c.args.at) c.from_residual.result c.in_err-existentials.field-0.0 c.from_residual.ensures.1
    (λ refusal e. (Err refusal, rw e at c.in_err-existentials.ensures.exact, refl))

pub returns-clause-exact : goal.returns-clause-exact
returns-clause-exact c =
    carried (λ (x : Assertion × ℕ). x) (specs.judged_body c.args.text.bytes.now c.args.text.tokens.now c.args.calls.own.now c.args.calls.parts.now (env c.args.scope.now c.args.bound.now) c.args.at) c.structural.result (specs.judged_rest c.args.text.bytes.now c.args.text.tokens.now c.args.calls.own.now c.args.calls.parts.now c.in_ok-existentials.existentials (under c.in_ok-existentials.existentials (env c.args.scope.now c.args.bound.now)) c.in_ok-existentials.first) (judged_is c.args.text.bytes.now c.args.text.tokens.now c.args.calls.own.now (unhidden c.in_ok-existentials.existentials c.args.calls.parts.now) (specs.plain_rest c.args.text.bytes.now c.args.text.tokens.now c.in_ok-existentials.existentials (under c.in_ok-existentials.existentials (env c.args.scope.now c.args.bound.now))) c.in_ok-existentials.first c.plain_rest_at-read.result c.structural.result (rw (under_is c.args.scope.now c.in_ok-existentials.existentials c.args.bound.now c.bind_all.new.bound (c.in_ok-bind_all.ensures ∙ ap (λ (bs : List Binder). bound_by_all bs (sort_of c.args.bound.now)) c.as_slice.ensures)) at c.plain_rest_at-read.ensures.exact) (subst (λ (ns : List (List ℕ)). IsJudged c.args.text.bytes.now c.args.text.tokens.now c.args.calls.own.now ns c.in_ok-existentials.first c.plain_rest_at-read.result c.structural.result) (c.as_slice-3.ensures.value ∙ c.in_ok-parts.ensures ∙ ap (λ (xs : List Binder). unhidden xs c.args.calls.parts.now) c.as_slice-2.ensures) c.structural.ensures.exact))
    (λ a d. (Ok (c.in_ok-existentials.existentials, c.in_ok-existentials.first), c.in_ok-existentials.ensures.exact, d))
