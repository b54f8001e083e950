use Rattle.std.proofs.Common.{ℕ, Ok, Err, refl}
use Rattle.floyd_lex.specs.declared.kinds.Punctuator.TheVariants as p
use Rattle.floyd_specread_skims.specs.Skims.{list_of}
use Rattle.floyd_specread_cases.specs.Cases as specs
use Rattle.floyd_termread_parts.proofs.Chains.{stopped, carried}
use Rattle.floyd_specread_cases.proofs.forms.worded_list_at.Goals as goal

pub returns-in_err-_word-clause-exact : goal.returns-in_err-_word-clause-exact
returns-in_err-_word-clause-exact c =
    stopped (λ (n : ℕ). (tt {0}, n)) (specs.worded_list c.args.text.bytes.now c.args.text.tokens.now c.args.word c.args.what c.args.at) c.from_residual.result c.in_err-_word.field-0.0 c.from_residual.ensures.1
    (λ refusal e. (Err refusal, rw e at c.in_err-_word.ensures.exact, refl))

pub returns-clause-exact : goal.returns-clause-exact
returns-clause-exact c =
    carried (λ (n : ℕ). (tt {0}, n)) (specs.worded_list c.args.text.bytes.now c.args.text.tokens.now c.args.word c.args.what c.args.at) c.skim_list.result (list_of c.args.text.bytes.now c.args.text.tokens.now 0 p.Semicolon c.args.what c.in_ok-_word.first) c.skim_list.ensures.exact
    (λ a d. (Ok (c.in_ok-_word._word, c.in_ok-_word.first), c.in_ok-_word.ensures.exact, d))
