use Rattle.std.proofs.Common.{ℕ, Ok, Err, bytes_eq, refl, ap, sym, ◌∙◌}
use Rattle.std.specs.Map.{lookup}
use Rattle.std.specs.Option.{option_copied}
use Rattle.floyd_assert_trees.specs.declared.spec.Funspec.{Funspec}
use Rattle.floyd_termread_wants.specs.Refusals.{unknown}
use Rattle.floyd_specread_declarations.specs.Declarations as specs
use Rattle.floyd_termread_parts.proofs.Chains.{stopped, given_some, given_none}
use Rattle.floyd_specread_declarations.proofs.names.named_spec_at.Goals as goal

pub returns-in_err-name-clause-exact : goal.returns-in_err-name-clause-exact
returns-in_err-name-clause-exact c =
    stopped (λ (x : Funspec × ℕ). x) (specs.named_spec c.args.text.bytes.now c.args.text.tokens.now c.args.items.now c.args.at) c.from_residual-in_err-name.result c.in_err-name.field-0.0 c.from_residual-in_err-name.ensures.1
    (λ refusal e. (Ok (c.in_ok-_word._word, c.in_ok-_word.first), c.in_ok-_word.ensures.exact, (Err refusal, rw e at c.in_err-name.ensures.exact, refl)))

pub returns-in_default-clause-exact : goal.returns-in_default-clause-exact
returns-in_default-clause-exact c =
    (Ok (c.in_ok-_word._word, c.in_ok-_word.first), c.in_ok-_word.ensures.exact, (Ok (c.in_ok-name.name, c.in_ok-name.behind), c.in_ok-name.ensures.exact, given_none (unknown c.in_ok-name.name) c.in_ok-unknown.field-0 (lookup (bytes_eq (c.in_ok-name.name).name) c.args.items.now) c.in_ok-name.behind (sym c.get.ensures ∙ ap option_copied c.in_default.is) c.in_ok-unknown.ensures))

pub returns-clause-exact : goal.returns-clause-exact
returns-clause-exact c =
    (Ok (c.in_ok-_word._word, c.in_ok-_word.first), c.in_ok-_word.ensures.exact, (Ok (c.in_ok-name.name, c.in_ok-name.behind), c.in_ok-name.ensures.exact, rw c.in_ok-share.ensures (given_some (unknown c.in_ok-name.name) (lookup (bytes_eq (c.in_ok-name.name).name) c.args.items.now) c.in-Some.item.now c.in_ok-name.behind (sym c.in-Some.ensures))))
