use Rattle.std.proofs.Common.{ℕ, ◌+◌, Ok, Err, refl}
use Rattle.floyd_specread_trees.specs.declared.declarations.Declaration.{Declaration}
use Rattle.floyd_termread.specs.Brackets.{outermost}
use Rattle.floyd_specread_declarations.specs.Judging as specs
use Rattle.floyd_termread_parts.proofs.Chains.{stopped, carried}
use Rattle.floyd_specread_declarations.proofs.judging.declaration_at.Goals as goal

pub returns-in_err-name-clause-exact : goal.returns-in_err-name-clause-exact
returns-in_err-name-clause-exact c =
    stopped (λ (x : Declaration × ℕ). x) (specs.declaration c.args.text.bytes.now c.args.text.tokens.now c.args.around.functions.now c.args.around.bodies.now (outermost c.args.around.scope.now) c.args.around.items.now c.args.at) c.from_residual.result c.in_err-name.field-0.0 c.from_residual.ensures.1
    (λ refusal e. (Ok (c.standing_at-standing.result, c.args.at + c.words_of.result), rw (c.words_of.ensures, c.standing_at-standing.ensures.value) refl, (Err refusal, rw e at c.in_err-name.ensures.exact, refl)))

pub returns-clause-exact : goal.returns-clause-exact
returns-clause-exact c =
    carried (λ (x : Declaration × ℕ). x) (specs.declaration c.args.text.bytes.now c.args.text.tokens.now c.args.around.functions.now c.args.around.bodies.now (outermost c.args.around.scope.now) c.args.around.items.now c.args.at) c.judged_behind_at.result (specs.judged_behind c.args.text.bytes.now c.args.text.tokens.now c.args.around.functions.now c.args.around.bodies.now c.standing_at-standing.result c.in_ok-name.name (outermost c.args.around.scope.now) c.args.around.items.now c.in_ok-name.second) c.judged_behind_at.ensures.exact
    (λ a d. (Ok (c.standing_at-standing.result, c.args.at + c.words_of.result), rw (c.words_of.ensures, c.standing_at-standing.ensures.value) refl, (Ok (c.in_ok-name.name, c.in_ok-name.second), c.in_ok-name.ensures.exact, d)))
