use Rattle.std.proofs.Common.{ℕ, List, Ok, Err, refl}
use Rattle.floyd_assert_trees.specs.declared.binder.Binder.{Binder}
use Rattle.floyd_specread_declarations.specs.Declarations as specs
use Rattle.floyd_termread_parts.proofs.Chains.{stopped, carried}
use Rattle.floyd_specread_declarations.proofs.by.by_variables_at.Goals as goal

pub returns-in_err-first : goal.returns-in_err-first
returns-in_err-first c = record {
  exact =
      stopped (λ (x : List Binder × ℕ). x) (specs.by_variables c.args.text.bytes.now c.args.text.tokens.now c.args.items.now c.args.at) c.from_residual.result c.in_err-first.field-0.0 c.from_residual.ensures.1
      (λ refusal e. (Err refusal, rw e at c.in_err-first.ensures.exact, refl));
}

pub returns : goal.returns
returns c = record {
  exact =
      carried (λ (x : List Binder × ℕ). x) (specs.by_variables c.args.text.bytes.now c.args.text.tokens.now c.args.items.now c.args.at) c.with_behind_at.result (specs.with_behind c.args.text.bytes.now c.args.text.tokens.now c.args.items.now c.in_ok-first.first) c.with_behind_at.ensures.exact
      (λ a d. (Ok (tt {0}, c.in_ok-first.first), c.in_ok-first.ensures.exact, d));
}
