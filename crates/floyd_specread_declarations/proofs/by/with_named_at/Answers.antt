use Rattle.std.proofs.Common.{ℕ, List, Ok, Err, refl}
use Rattle.floyd_assert_trees.specs.declared.binder.Binder.{Binder}
use Rattle.floyd_specread_declarations.specs.Declarations as specs
use Rattle.floyd_termread_parts.proofs.Chains.{stopped}
use Rattle.floyd_specread_declarations.proofs.by.with_named_at.Goals as goal

pub returns-in_err-spec : goal.returns-in_err-spec
returns-in_err-spec c = record {
  exact =
      stopped (λ (x : List Binder × ℕ). x) (specs.with_named c.args.text.bytes.now c.args.text.tokens.now c.args.items.now c.args.at) c.from_residual.result c.in_err-spec.field-0.0 c.from_residual.ensures.1
      (λ refusal e. (Err refusal, rw e at c.in_err-spec.ensures.exact, refl));
}

pub returns : goal.returns
returns c = record {
  exact =
      (Ok (c.in_ok-spec.spec, c.in_ok-spec.behind), c.in_ok-spec.ensures.exact, rw (c.in_ok-with.ensures, c.as_slice.ensures, c.get.ensures) refl);
}
