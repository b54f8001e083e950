use Rattle.std.proofs.Common.{ℕ, ◌+◌, List, [], Ok}
use Rattle.floyd_lex.specs.declared.kinds.Punctuator.TheVariants as p
use Rattle.floyd_assert_trees.specs.declared.assertion.Local.{Local}
use Rattle.floyd_termread_scope.specs.Scopes.{env}
use Rattle.floyd_termread_marks.specs.Lists as lists
use Rattle.floyd_termread_assertions.specs.Assertions as specs
use Rattle.floyd_termread_parts.proofs.Chains.{carried}
use Rattle.floyd_termread_assertions.proofs.locals.local_list_at.Goals as goal

pub returns-clause-exact : goal.returns-clause-exact
returns-clause-exact c =
    carried (λ (x : List Local × ℕ). x) (specs.local_list c.args.text.bytes.now c.args.text.tokens.now c.args.spot.depth (env c.args.scope.now c.args.bound.now) c.args.spot.at) c.more_locals.result (lists.Listed c.args.text.bytes.now c.args.text.tokens.now (c.args.spot.depth + 1) p.Semicolon (specs.local_behind c.args.text.bytes.now c.args.text.tokens.now (c.args.spot.depth + 1) (env c.args.scope.now c.args.bound.now)) [] c.in_ok-_open.first) c.more_locals.ensures.exact (λ a d. (Ok (c.in_ok-_open._open, c.in_ok-_open.first), c.in_ok-_open.ensures.exact, d))
