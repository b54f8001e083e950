use Rattle.std.proofs.Common.{ℕ, None, Ok, Err, refl}
use Rattle.floyd_lex.specs.declared.kinds.Punctuator.TheVariants as p
use Rattle.floyd_tree.specs.Plain.{Plain}
use Rattle.floyd_termread_scope.specs.Scopes.{env}
use Rattle.floyd_termread_marks.specs.Lists.{next_item}
use Rattle.floyd_termread_phrases.specs.Phrases as phrase
use Rattle.floyd_specread_declarations.specs.Declarations as specs
use Rattle.floyd_termread_parts.proofs.Chains.{stopped, carried}
use Rattle.floyd_specread_declarations.proofs.by.next_term.Goals as goal

pub returns-in_err-first-clause-exact : goal.returns-in_err-first-clause-exact
returns-in_err-first-clause-exact c =
    stopped (λ (x : Plain × ℕ). x) (next_item c.args.text.bytes.now c.args.text.tokens.now 1 p.Comma (specs.term_behind c.args.text.bytes.now c.args.text.tokens.now (env c.args.scope.now c.args.bound.now)) c.args.terms.now c.args.at) c.from_residual.result c.in_err-first.field-0.0 c.from_residual.ensures.1
    (λ refusal e. (Err refusal, rw e at c.in_err-first.ensures.exact, refl))

pub returns-clause-exact : goal.returns-clause-exact
returns-clause-exact c =
    carried (λ (x : Plain × ℕ). x) (next_item c.args.text.bytes.now c.args.text.tokens.now 1 p.Comma (specs.term_behind c.args.text.bytes.now c.args.text.tokens.now (env c.args.scope.now c.args.bound.now)) c.args.terms.now c.args.at) c.term_at.result (phrase.term c.args.text.bytes.now c.args.text.tokens.now 1 (env c.args.scope.now c.args.bound.now) None c.in_ok-first.first) c.term_at.ensures.exact
    (λ a d. (Ok (tt {0}, c.in_ok-first.first), c.in_ok-first.ensures.exact, d))
