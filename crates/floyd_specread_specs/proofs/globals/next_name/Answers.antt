use Rattle.std.proofs.Common.{ℕ, List, Ok, Err, refl}
use Rattle.floyd_lex.specs.declared.kinds.Punctuator.TheVariants as p
use Rattle.floyd_termread_marks.specs.Lists.{next_item}
use Rattle.floyd_termread_marks.specs.Marks.{one}
use Rattle.floyd_specread_specs.specs.Names.{any_name}
use Rattle.floyd_specread_specs.specs.Specifications as specs
use Rattle.floyd_termread_parts.proofs.Chains.{stopped, carried}
use Rattle.floyd_specread_specs.proofs.globals.next_name.Goals as goal

pub returns-in_err-first-clause-exact : goal.returns-in_err-first-clause-exact
returns-in_err-first-clause-exact c =
    stopped (λ (x : List ℕ × ℕ). x) (next_item c.args.text.bytes.now c.args.text.tokens.now 1 p.Semicolon (specs.global_behind c.args.text.bytes.now c.args.text.tokens.now) c.args.names.now c.args.at) c.from_residual.result c.in_err-first.field-0.0 c.from_residual.ensures.1
    (λ refusal e. (Err refusal, rw e at c.in_err-first.ensures.exact, refl))

pub returns-clause-exact : goal.returns-clause-exact
returns-clause-exact c =
    carried (λ (x : List ℕ × ℕ). x) (next_item c.args.text.bytes.now c.args.text.tokens.now 1 p.Semicolon (specs.global_behind c.args.text.bytes.now c.args.text.tokens.now) c.args.names.now c.args.at) c.take_name.result (one c.args.text.bytes.now c.args.text.tokens.now 1 any_name c.in_ok-first.first) c.take_name.ensures.exact
    (λ a d. (Ok (tt, c.in_ok-first.first), c.in_ok-first.ensures.exact, d))
