use Rattle.std.proofs.Common.{ℕ, Ok, Err, refl}
use Rattle.floyd_lex.specs.declared.kinds.Punctuator.TheVariants as p
use Rattle.floyd_specread_skims.specs.declared.lists.Skimmed.TheVariants as s
use Rattle.floyd_specread_skims.specs.Skims.{list_of}
use Rattle.floyd_specread_declarations.specs.Declarations as specs
use Rattle.floyd_termread_parts.proofs.Chains.{stopped, carried}
use Rattle.floyd_specread_declarations.proofs.by.written_by_at.Goals as goal

pub returns-in_err-_by-clause-exact : goal.returns-in_err-_by-clause-exact
returns-in_err-_by-clause-exact c =
    stopped (λ (n : ℕ). (tt {0}, n)) (specs.written_by c.args.text.bytes.now c.args.text.tokens.now c.args.at) c.from_residual.result c.in_err-_by.field-0.0 c.from_residual.ensures.1
    (λ refusal e. (Err refusal, rw e at c.in_err-_by.ensures.exact, refl))

pub returns-in_err-second-clause-exact : goal.returns-in_err-second-clause-exact
returns-in_err-second-clause-exact c =
    stopped (λ (n : ℕ). (tt {0}, n)) (specs.written_by c.args.text.bytes.now c.args.text.tokens.now c.args.at) c.from_residual-in_err-second.result c.in_err-second.field-0.0 c.from_residual-in_err-second.ensures.1
    (λ refusal e. (Ok (c.in_ok-_by._by, c.in_ok-_by.first), c.in_ok-_by.ensures.exact, (Err refusal, rw e at c.in_err-second.ensures.exact, refl)))

pub returns-in_err-_frame-clause-exact : goal.returns-in_err-_frame-clause-exact
returns-in_err-_frame-clause-exact c =
    stopped (λ (n : ℕ). (tt {0}, n)) (specs.written_by c.args.text.bytes.now c.args.text.tokens.now c.args.at) c.from_residual-in_err-_frame.result c.in_err-_frame.field-0.0 c.from_residual-in_err-_frame.ensures.1
    (λ refusal e. (Ok (c.in_ok-_by._by, c.in_ok-_by.first), c.in_ok-_by.ensures.exact, (Ok (tt {0}, c.in_ok-second.second), c.in_ok-second.ensures.exact, (Err refusal, rw e at c.in_err-_frame.ensures.exact, refl))))

pub returns-clause-exact : goal.returns-clause-exact
returns-clause-exact c =
    carried (λ (n : ℕ). (tt {0}, n)) (specs.written_by c.args.text.bytes.now c.args.text.tokens.now c.args.at) c.skim_list-2.result (list_of c.args.text.bytes.now c.args.text.tokens.now 0 p.Semicolon s.Part c.in_ok-_frame.third) c.skim_list-2.ensures.exact
    (λ a d. (Ok (c.in_ok-_by._by, c.in_ok-_by.first), c.in_ok-_by.ensures.exact, (Ok (tt {0}, c.in_ok-second.second), c.in_ok-second.ensures.exact, (Ok (c.in_ok-_frame._frame, c.in_ok-_frame.third), c.in_ok-_frame.ensures.exact, d))))
