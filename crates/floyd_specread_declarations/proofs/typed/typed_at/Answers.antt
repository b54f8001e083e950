use Rattle.std.proofs.Common.{ℕ, Ok, Err, refl}
use Rattle.floyd_specread_sources.specs.declared.functions.Prototype.{Prototype}
use Rattle.floyd_termread_scope.specs.Scopes.{env}
use Rattle.floyd_specread_declarations.specs.Judging as specs
use Rattle.floyd_termread_parts.proofs.Chains.{stopped}
use Rattle.floyd_specread_declarations.proofs.typed.typed_at.Goals as goal

pub returns-in_err-_pre : goal.returns-in_err-_pre
returns-in_err-_pre c = record {
  exact =
      stopped (λ (x : Prototype × ℕ). x) (specs.typed c.args.text.bytes.now c.args.text.tokens.now c.args.takes_main (env c.args.scope.now c.args.bound.now) c.args.at) c.from_residual.result c.in_err-_pre.field-0.0 c.from_residual.ensures.1
      (λ refusal e. (Err refusal, rw e at c.in_err-_pre.ensures.exact, refl));
}

pub returns-in_err-params : goal.returns-in_err-params
returns-in_err-params c = record {
  exact =
      stopped (λ (x : Prototype × ℕ). x) (specs.typed c.args.text.bytes.now c.args.text.tokens.now c.args.takes_main (env c.args.scope.now c.args.bound.now) c.args.at) c.from_residual-in_err-params.result c.in_err-params.field-0.0 c.from_residual-in_err-params.ensures.1
      (λ refusal e. (Ok (c.in_ok-_pre._pre, c.in_ok-_pre.first), c.in_ok-_pre.ensures.exact, (Err refusal, rw e at c.in_err-params.ensures.exact, refl)));
}

pub returns-in_err-third : goal.returns-in_err-third
returns-in_err-third c = record {
  exact =
      stopped (λ (x : Prototype × ℕ). x) (specs.typed c.args.text.bytes.now c.args.text.tokens.now c.args.takes_main (env c.args.scope.now c.args.bound.now) c.args.at) c.from_residual-in_err-third.result c.in_err-third.field-0.0 c.from_residual-in_err-third.ensures.1
      (λ refusal e. (Ok (c.in_ok-_pre._pre, c.in_ok-_pre.first), c.in_ok-_pre.ensures.exact, (Ok (c.in_ok-params.params, c.in_ok-params.second), c.in_ok-params.ensures.exact, (Err refusal, rw e at c.in_err-third.ensures.exact, refl))));
}

pub returns-in_err-_post : goal.returns-in_err-_post
returns-in_err-_post c = record {
  exact =
      stopped (λ (x : Prototype × ℕ). x) (specs.typed c.args.text.bytes.now c.args.text.tokens.now c.args.takes_main (env c.args.scope.now c.args.bound.now) c.args.at) c.from_residual-in_err-_post.result c.in_err-_post.field-0.0 c.from_residual-in_err-_post.ensures.1
      (λ refusal e. (Ok (c.in_ok-_pre._pre, c.in_ok-_pre.first), c.in_ok-_pre.ensures.exact, (Ok (c.in_ok-params.params, c.in_ok-params.second), c.in_ok-params.ensures.exact, (Ok (tt {0}, c.in_ok-third.third), c.in_ok-third.ensures.exact, (Err refusal, rw e at c.in_err-_post.ensures.exact, refl)))));
}

pub returns-in_err-ty : goal.returns-in_err-ty
returns-in_err-ty c = record {
  exact =
      stopped (λ (x : Prototype × ℕ). x) (specs.typed c.args.text.bytes.now c.args.text.tokens.now c.args.takes_main (env c.args.scope.now c.args.bound.now) c.args.at) c.from_residual-in_err-ty.result c.in_err-ty.field-0.0 c.from_residual-in_err-ty.ensures.1
      (λ refusal e. (Ok (c.in_ok-_pre._pre, c.in_ok-_pre.first), c.in_ok-_pre.ensures.exact, (Ok (c.in_ok-params.params, c.in_ok-params.second), c.in_ok-params.ensures.exact, (Ok (tt {0}, c.in_ok-third.third), c.in_ok-third.ensures.exact, (Ok (c.in_ok-_post._post, c.in_ok-_post.fourth), c.in_ok-_post.ensures.exact, (Err refusal, rw e at c.in_err-ty.ensures.exact, refl))))));
}

pub returns : goal.returns
returns c = record {
  exact =
      (Ok (c.in_ok-_pre._pre, c.in_ok-_pre.first), c.in_ok-_pre.ensures.exact, (Ok (c.in_ok-params.params, c.in_ok-params.second), c.in_ok-params.ensures.exact, (Ok (tt {0}, c.in_ok-third.third), c.in_ok-third.ensures.exact, (Ok (c.in_ok-_post._post, c.in_ok-_post.fourth), c.in_ok-_post.ensures.exact, (Ok (c.in_ok-ty.ty, c.in_ok-ty.behind), c.in_ok-ty.ensures.exact, refl)))));
}
