use Rattle.std.proofs.Common.{ℕ, Ok, Err, bytes_eq, refl}
use Rattle.floyd_termread.specs.Brackets.{outermost}
use Rattle.floyd_specread_sources.specs.declared.functions.Prototype.{Prototype}
use Rattle.floyd_specread_declarations.specs.Declarations.{main}
use Rattle.floyd_specread_declarations.specs.Judging as specs
use Rattle.floyd_termread_parts.proofs.Chains.{stopped, carried}
use Rattle.floyd_specread_declarations.proofs.typed.typed_behind_at.Goals as goal

pub returns-in_err-first : goal.returns-in_err-first
returns-in_err-first c = record {
  exact =
      stopped (λ (x : Prototype × ℕ). x) (specs.typed_behind c.args.text.bytes.now c.args.text.tokens.now c.args.written.standing c.args.written.name.now (outermost c.args.scope.now) c.args.items.now c.args.at) c.from_residual.result c.in_err-first.field-0.0 c.from_residual.ensures.1
      (λ refusal e. (Err refusal, rw e at c.in_err-first.ensures.exact, refl));
}

pub returns : goal.returns
returns c = record {
  exact =
      carried (λ (x : Prototype × ℕ). x) (specs.typed_behind c.args.text.bytes.now c.args.text.tokens.now c.args.written.standing c.args.written.name.now (outermost c.args.scope.now) c.args.items.now c.args.at) c.typed_given_at.result (specs.typed_given c.args.text.bytes.now c.args.text.tokens.now (bytes_eq (c.args.written.name.now).name main) (outermost c.args.scope.now) c.args.items.now c.in_ok-first.first) (rw c.is_main-takes_main.ensures at c.typed_given_at.ensures.exact)
      (λ a d. (Ok (tt {0}, c.in_ok-first.first), c.in_ok-first.ensures.exact, d));
}
