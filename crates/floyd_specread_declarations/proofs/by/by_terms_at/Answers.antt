use Rattle.std.proofs.Common.{ℕ, List, [], Ok, Err, refl}
use Rattle.floyd_lex.specs.declared.kinds.Punctuator.TheVariants as p
use Rattle.floyd_tree.specs.Plain.{Plain}
use Rattle.floyd_termread_scope.specs.Scopes.{env}
use Rattle.floyd_termread_marks.specs.Lists.{Listed}
use Rattle.floyd_specread_declarations.specs.Declarations as specs
use Rattle.floyd_termread_parts.proofs.Chains.{stopped, carried}
use Rattle.floyd_specread_declarations.proofs.by.by_terms_at.Goals as goal

pub returns-in_err-_open-clause-exact : goal.returns-in_err-_open-clause-exact
returns-in_err-_open-clause-exact c =
    stopped (λ (x : List Plain × ℕ). x) (specs.by_terms c.args.text.bytes.now c.args.text.tokens.now (env c.args.scope.now c.args.bound.now) c.args.at) c.from_residual.result c.in_err-_open.field-0.0 c.from_residual.ensures.1
    (λ refusal e. (Err refusal, rw e at c.in_err-_open.ensures.exact, refl))

pub returns-clause-exact : goal.returns-clause-exact
returns-clause-exact c =
    carried (λ (x : List Plain × ℕ). x) (specs.by_terms c.args.text.bytes.now c.args.text.tokens.now (env c.args.scope.now c.args.bound.now) c.args.at) c.more_terms.result (Listed c.args.text.bytes.now c.args.text.tokens.now 1 p.Comma (specs.term_behind c.args.text.bytes.now c.args.text.tokens.now (env c.args.scope.now c.args.bound.now)) [] c.in_ok-_open.first) c.more_terms.ensures.exact
    (λ a d. (Ok (c.in_ok-_open._open, c.in_ok-_open.first), c.in_ok-_open.ensures.exact, d))
