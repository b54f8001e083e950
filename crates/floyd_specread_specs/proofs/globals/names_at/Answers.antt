use Rattle.std.proofs.Common.{ℕ, List, [], Ok}
use Rattle.floyd_lex.specs.declared.kinds.Punctuator.TheVariants as p
use Rattle.floyd_termread_marks.specs.Lists.{Listed}
use Rattle.floyd_specread_specs.specs.Specifications as specs
use Rattle.floyd_termread_parts.proofs.Chains.{carried}
use Rattle.floyd_specread_specs.proofs.globals.names_at.Goals as goal

pub returns-clause-exact : goal.returns-clause-exact
returns-clause-exact c =
    carried (λ (x : List (List ℕ) × ℕ). x) (specs.global_names c.args.text.bytes.now c.args.text.tokens.now c.args.at) c.more_names.result (Listed c.args.text.bytes.now c.args.text.tokens.now 1 p.Semicolon (specs.global_behind c.args.text.bytes.now c.args.text.tokens.now) [] c.in_ok-_open.first) c.more_names.ensures.exact
    (λ a d. (Ok (c.in_ok-_open._open, c.in_ok-_open.first), c.in_ok-_open.ensures.exact, d))
