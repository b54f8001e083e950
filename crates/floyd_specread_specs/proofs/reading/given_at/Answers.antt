use Rattle.std.proofs.Common.{ℕ, Ok, Err, refl}
use Rattle.floyd_tree.specs.Types.{SizedType}
use Rattle.floyd_assert_trees.specs.declared.spec.Postcondition.{Postcondition}
use Rattle.floyd_termread_scope.specs.Scopes.{env}
use Rattle.floyd_specread_specs.specs.Specifications as specs
use Rattle.floyd_termread_parts.proofs.Chains.{stopped}
use Rattle.floyd_specread_specs.proofs.reading.given_at.Goals as goal

pub returns-in_err-ty-clause-exact : goal.returns-in_err-ty-clause-exact
returns-in_err-ty-clause-exact c =
    stopped (λ (x : (SizedType × Postcondition) × ℕ). x) (specs.given c.args.text.bytes.now c.args.text.tokens.now (env c.args.scope.now c.args.bound.now) c.args.at) c.from_residual-in_err-ty.result c.in_err-ty.field-0.0 c.from_residual-in_err-ty.ensures.1
    (λ refusal e. (Ok (c.in_ok-_word._word, c.in_ok-_word.first), c.in_ok-_word.ensures.exact, (Err refusal, rw e at c.in_err-ty.ensures.exact, refl)))

pub returns-in_err-post-clause-exact : goal.returns-in_err-post-clause-exact
returns-in_err-post-clause-exact c =
    stopped (λ (x : (SizedType × Postcondition) × ℕ). x) (specs.given c.args.text.bytes.now c.args.text.tokens.now (env c.args.scope.now c.args.bound.now) c.args.at) c.from_residual-in_err-post.result c.in_err-post.field-0.0 c.from_residual-in_err-post.ensures.1
    (λ refusal e. (Ok (c.in_ok-_word._word, c.in_ok-_word.first), c.in_ok-_word.ensures.exact, (Ok (c.in_ok-ty.ty, c.in_ok-ty.second), c.in_ok-ty.ensures.exact, (Err refusal, rw e at c.in_err-post.ensures.exact, refl))))

pub returns-clause-exact : goal.returns-clause-exact
returns-clause-exact c =
    (Ok (c.in_ok-_word._word, c.in_ok-_word.first), c.in_ok-_word.ensures.exact, (Ok (c.in_ok-ty.ty, c.in_ok-ty.second), c.in_ok-ty.ensures.exact, (Ok (c.in_ok-post.post, c.in_ok-post.behind), c.in_ok-post.ensures.exact, refl)))
