use Rattle.std.proofs.Common.{ℕ, Ok, Err, refl}
use Rattle.floyd_termread_marks.specs.declared.words.AssertionWord.TheVariants.{Sep}
use Rattle.floyd_specread_skims.specs.declared.lists.Skimmed.TheVariants as s
use Rattle.floyd_specread_cases.specs.Cases.{worded_list}
use Rattle.floyd_specread_declarations.specs.Judging as specs
use Rattle.floyd_termread_parts.proofs.Chains.{stopped, carried}
use Rattle.floyd_specread_declarations.proofs.typed.written_pre_at.Goals as goal

pub returns-in_err-first-clause-exact : goal.returns-in_err-first-clause-exact
returns-in_err-first-clause-exact c =
    stopped (λ (n : ℕ). (tt {0}, n)) (specs.written_pre c.args.text.bytes.now c.args.text.tokens.now c.args.at) c.from_residual.result c.in_err-first.field-0.0 c.from_residual.ensures.1
    (λ refusal e. (Err refusal, rw e at c.in_err-first.ensures.exact, refl))

pub returns-in_err-second-clause-exact : goal.returns-in_err-second-clause-exact
returns-in_err-second-clause-exact c =
    stopped (λ (n : ℕ). (tt {0}, n)) (specs.written_pre c.args.text.bytes.now c.args.text.tokens.now c.args.at) c.from_residual-in_err-second.result c.in_err-second.field-0.0 c.from_residual-in_err-second.ensures.1
    (λ refusal e. (Ok (tt {0}, c.in_ok-first.first), c.in_ok-first.ensures.exact, (Err refusal, rw e at c.in_err-second.ensures.exact, refl)))

pub returns-in_err-third-clause-exact : goal.returns-in_err-third-clause-exact
returns-in_err-third-clause-exact c =
    stopped (λ (n : ℕ). (tt {0}, n)) (specs.written_pre c.args.text.bytes.now c.args.text.tokens.now c.args.at) c.from_residual-in_err-third.result c.in_err-third.field-0.0 c.from_residual-in_err-third.ensures.1
    (λ refusal e. (Ok (tt {0}, c.in_ok-first.first), c.in_ok-first.ensures.exact, (Ok (tt {0}, c.in_ok-second.second), c.in_ok-second.ensures.exact, (Err refusal, rw e at c.in_err-third.ensures.exact, refl))))

pub returns-clause-exact : goal.returns-clause-exact
returns-clause-exact c =
    carried (λ (n : ℕ). (tt {0}, n)) (specs.written_pre c.args.text.bytes.now c.args.text.tokens.now c.args.at) c.worded_list_at-2.result (worded_list c.args.text.bytes.now c.args.text.tokens.now Sep s.Part c.in_ok-third.third) c.worded_list_at-2.ensures.exact
    (λ a d. (Ok (tt {0}, c.in_ok-first.first), c.in_ok-first.ensures.exact, (Ok (tt {0}, c.in_ok-second.second), c.in_ok-second.ensures.exact, (Ok (tt {0}, c.in_ok-third.third), c.in_ok-third.ensures.exact, d))))
