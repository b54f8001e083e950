use Rattle.std.proofs.Common.{ℕ, List, [], Ok}
use Rattle.floyd_lex.specs.declared.kinds.Punctuator.TheVariants as p
use Rattle.floyd_tree.specs.Plain.{Plain}
use Rattle.floyd_termread_scope.specs.Scopes.{env}
use Rattle.floyd_termread_marks.specs.Lists.{Listed}
use Rattle.floyd_play_arguments.proofs.Chains.{carried}
use Rattle.floyd_play_terms.specs.Terms as specs
use Rattle.floyd_play_terms.proofs.terms.terms_at.Goals as goal

pub returns-clause-exact : goal.returns-clause-exact
returns-clause-exact c =
    carried (λ (x : List Plain × ℕ). x) (specs.terms c.args.text.bytes.now c.args.text.tokens.now (env c.args.scope.now c.args.bound.now) c.args.expected c.args.at) c.more_terms.result (Listed c.args.text.bytes.now c.args.text.tokens.now 1 p.Semicolon (specs.term_behind c.args.text.bytes.now c.args.text.tokens.now (env c.args.scope.now c.args.bound.now) c.args.expected) [] c.in_ok-_open.first) c.more_terms.ensures.exact
    (λ a d. (Ok (c.in_ok-_open._open, c.in_ok-_open.first), c.in_ok-_open.ensures.exact, d))
