use Rattle.std.proofs.Common.{ℕ, Ok, Err, refl}
use Rattle.floyd_lex.specs.declared.kinds.Punctuator.TheVariants as p
use Rattle.floyd_tree.specs.Plain.{Plain}
use Rattle.floyd_termread_scope.specs.Scopes.{env}
use Rattle.floyd_termread_marks.specs.Lists.{next_item}
use Rattle.floyd_play_arguments.proofs.Chains.{stopped, carried}
use Rattle.floyd_play_terms.specs.Terms as specs
use Rattle.floyd_play_terms.proofs.terms.next_term.Goals as goal

pub returns-in_err-first-clause-exact : goal.returns-in_err-first-clause-exact
returns-in_err-first-clause-exact c =
    stopped (λ (x : Plain × ℕ). x) (next_item c.args.text.bytes.now c.args.text.tokens.now 1 p.Semicolon (specs.term_behind c.args.text.bytes.now c.args.text.tokens.now (env c.args.scope.now c.args.bound.now) c.args.expected) c.args.terms.now c.args.at) c.from_residual.result c.in_err-first.field-0.0 c.from_residual.ensures.1 (λ refusal e. (Err refusal, rw e at c.in_err-first.ensures.exact, refl))

pub returns-clause-exact : goal.returns-clause-exact
returns-clause-exact c =
    carried (λ (x : Plain × ℕ). x) (next_item c.args.text.bytes.now c.args.text.tokens.now 1 p.Semicolon (specs.term_behind c.args.text.bytes.now c.args.text.tokens.now (env c.args.scope.now c.args.bound.now) c.args.expected) c.args.terms.now c.args.at) c.term_behind.result (specs.term_behind c.args.text.bytes.now c.args.text.tokens.now (env c.args.scope.now c.args.bound.now) c.args.expected c.args.terms.now c.in_ok-first.first) c.term_behind.ensures.exact
    (λ a d. (Ok (tt, c.in_ok-first.first), c.in_ok-first.ensures.exact, d))
