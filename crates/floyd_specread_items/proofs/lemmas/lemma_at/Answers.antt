use Rattle.std.proofs.Common.{ℕ, Ok, Err, refl}
use Rattle.floyd_termread.specs.Brackets.{outermost}
use Rattle.floyd_termread_assertions.proofs.BoundLemmas.{same_env}
use Rattle.floyd_specread_items.proofs.VariableLemmas.{argument_env}
use Rattle.floyd_specread_items.specs.declared.lemmas.LemmaText.{LemmaText}
use Rattle.floyd_specread_items.specs.Lemmas as specs
use Rattle.floyd_termread_parts.proofs.Chains.{stopped}
use Rattle.floyd_specread_items.proofs.lemmas.lemma_at.Goals as goal

pub returns-in_err-with-clause-exact : goal.returns-in_err-with-clause-exact
returns-in_err-with-clause-exact c =
    stopped (λ (x : LemmaText × ℕ). x) (specs.lemma c.args.text.bytes.now c.args.text.tokens.now (outermost c.args.scope.now) c.args.at) c.from_residual.result c.in_err-with.field-0.0 c.from_residual.ensures.1
    (λ refusal e. (Err refusal, rw e at c.in_err-with.ensures.exact, refl))

pub returns-in_err-left-clause-exact : goal.returns-in_err-left-clause-exact
returns-in_err-left-clause-exact c =
    stopped (λ (x : LemmaText × ℕ). x) (specs.lemma c.args.text.bytes.now c.args.text.tokens.now (outermost c.args.scope.now) c.args.at) c.from_residual-in_err-left.result c.in_err-left.field-0.0 c.from_residual-in_err-left.ensures.1
    (λ refusal e. (Ok (c.in_ok-with.with, c.in_ok-with.first), c.in_ok-with.ensures.exact, (Err refusal, rw (e, c.new.ensures, argument_env c.args.scope.now c.in_ok-with.with c.in_ok-bound.bound (rw c.as_slice.ensures at c.in_ok-bound.ensures)) at c.in_err-left.ensures.exact, refl)))

pub returns-in_err-_word-clause-exact : goal.returns-in_err-_word-clause-exact
returns-in_err-_word-clause-exact c =
    stopped (λ (x : LemmaText × ℕ). x) (specs.lemma c.args.text.bytes.now c.args.text.tokens.now (outermost c.args.scope.now) c.args.at) c.from_residual-in_err-_word.result c.in_err-_word.field-0.0 c.from_residual-in_err-_word.ensures.1
    (λ refusal e. (Ok (c.in_ok-with.with, c.in_ok-with.first), c.in_ok-with.ensures.exact, (Ok (c.in_ok-left.left, c.in_ok-left.second), rw (c.new.ensures, argument_env c.args.scope.now c.in_ok-with.with c.in_ok-bound.bound (rw c.as_slice.ensures at c.in_ok-bound.ensures)) at c.in_ok-left.ensures.exact, (Err refusal, rw e at c.in_err-_word.ensures.exact, refl))))

pub returns-in_err-right-clause-exact : goal.returns-in_err-right-clause-exact
returns-in_err-right-clause-exact c =
    stopped (λ (x : LemmaText × ℕ). x) (specs.lemma c.args.text.bytes.now c.args.text.tokens.now (outermost c.args.scope.now) c.args.at) c.from_residual-in_err-right.result c.in_err-right.field-0.0 c.from_residual-in_err-right.ensures.1
    (λ refusal e. (Ok (c.in_ok-with.with, c.in_ok-with.first), c.in_ok-with.ensures.exact, (Ok (c.in_ok-left.left, c.in_ok-left.second), rw (c.new.ensures, argument_env c.args.scope.now c.in_ok-with.with c.in_ok-bound.bound (rw c.as_slice.ensures at c.in_ok-bound.ensures)) at c.in_ok-left.ensures.exact, (Ok (c.in_ok-_word._word, c.in_ok-_word.third), c.in_ok-_word.ensures.exact, (Err refusal, rw (e, same_env c.args.scope.now c.plain_rest_at.new.bound c.in_ok-bound.bound c.in_ok-left.ensures.kept, argument_env c.args.scope.now c.in_ok-with.with c.in_ok-bound.bound (rw c.as_slice.ensures at c.in_ok-bound.ensures)) at c.in_err-right.ensures.exact, refl)))))

pub returns-clause-exact : goal.returns-clause-exact
returns-clause-exact c =
    (Ok (c.in_ok-with.with, c.in_ok-with.first), c.in_ok-with.ensures.exact, (Ok (c.in_ok-left.left, c.in_ok-left.second), rw (c.new.ensures, argument_env c.args.scope.now c.in_ok-with.with c.in_ok-bound.bound (rw c.as_slice.ensures at c.in_ok-bound.ensures)) at c.in_ok-left.ensures.exact, (Ok (c.in_ok-_word._word, c.in_ok-_word.third), c.in_ok-_word.ensures.exact, (Ok (c.in_ok-right.right, c.in_ok-right.behind), rw (same_env c.args.scope.now c.plain_rest_at.new.bound c.in_ok-bound.bound c.in_ok-left.ensures.kept, argument_env c.args.scope.now c.in_ok-with.with c.in_ok-bound.bound (rw c.as_slice.ensures at c.in_ok-bound.ensures)) at c.in_ok-right.ensures.exact, refl))))
