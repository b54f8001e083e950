use Rattle.std.proofs.Common.{ℕ, List, Ok, Err, refl, ap, ◌∙◌}
use Rattle.floyd_assert_trees.specs.declared.binder.Binder.{Binder}
use Rattle.floyd_termread.specs.Brackets.{outermost}
use Rattle.floyd_termread_scope.specs.Scopes.{sort_of}
use Rattle.floyd_termread_assertions.specs.Assertions.{under}
use Rattle.floyd_termread_assertions.specs.BoundClauses.{bound_by_all}
use Rattle.floyd_specread_specs.proofs.OutermostLemmas.{under_outermost}
use Rattle.floyd_specread_sources.specs.declared.functions.Prototype.{Prototype}
use Rattle.floyd_specread_declarations.specs.Judging as specs
use Rattle.floyd_termread_parts.proofs.Chains.{stopped, carried}
use Rattle.floyd_specread_declarations.proofs.typed.typed_spec_at.Goals as goal

pub returns-in_err-with : goal.returns-in_err-with
returns-in_err-with c = record {
  exact =
      stopped (λ (x : Prototype × ℕ). x) (specs.typed_spec c.args.text.bytes.now c.args.text.tokens.now c.args.takes_main (outermost c.args.scope.now) c.args.at) c.from_residual.result c.in_err-with.field-0.0 c.from_residual.ensures.1
      (λ refusal e. (Err refusal, rw e at c.in_err-with.ensures.exact, refl));
}

pub returns : goal.returns
returns c = record {
  exact =
      carried (λ (x : Prototype × ℕ). x) (specs.typed_spec c.args.text.bytes.now c.args.text.tokens.now c.args.takes_main (outermost c.args.scope.now) c.args.at) c.typed_at.result (specs.typed c.args.text.bytes.now c.args.text.tokens.now c.args.takes_main (under c.in_ok-with.with (outermost c.args.scope.now)) c.in_ok-with.first) (rw (under_outermost c.args.scope.now c.in_ok-with.with c.new-bound.result c.bind_all.new.bound c.new-bound.ensures (c.in_ok-bind_all.ensures ∙ ap (λ (bs : List Binder). bound_by_all bs (sort_of c.new-bound.result)) c.as_slice.ensures)) at c.typed_at.ensures.exact)
      (λ a d. (Ok (c.in_ok-with.with, c.in_ok-with.first), c.in_ok-with.ensures.exact, d));
}
