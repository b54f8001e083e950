use Rattle.std.proofs.Common.{ℕ, List, Ok}
use Rattle.floyd_tree.specs.Plain.{Plain}
use Rattle.floyd_termread_scope.specs.Scopes.{env}
use Rattle.floyd_specread_specs.specs.Specifications as specs
use Rattle.floyd_termread_parts.proofs.Chains.{carried}
use Rattle.floyd_specread_specs.proofs.values.returned_at.Goals as goal

pub returns-clause-exact : goal.returns-clause-exact
returns-clause-exact c =
    carried (λ (x : List Plain × ℕ). x) (specs.returned c.args.text.bytes.now c.args.text.tokens.now (env c.args.scope.now c.args.bound.now) c.args.ty.now c.args.at) c.counted_values_at.result (specs.counted_values c.args.text.bytes.now c.args.text.tokens.now (env c.args.scope.now c.args.bound.now) (specs.results_of (c.args.ty.now).shape) c.in_ok-_word.first) (rw (c.results_of-count.ensures, c.get.ensures, c.shape.ensures) at c.counted_values_at.ensures.exact)
    (λ a d. (Ok (c.in_ok-_word._word, c.in_ok-_word.first), c.in_ok-_word.ensures.exact, d))
