use Rattle.std.proofs.Common.{ℕ, List, subst, ◌∙◌}
use Rattle.floyd_assert_trees.specs.declared.assertion.Assertion.{Assertion}
use Rattle.floyd_termread.specs.Brackets.{outermost}
use Rattle.floyd_termread_assertions.specs.Assertions.{under}
use Rattle.floyd_termread_phrases.specs.Reads.{Answers}
use Rattle.floyd_specread_patterns.specs.Binders.{pattern_binders}
use Rattle.floyd_specread_items.specs.Bodies.{judged_body}
use Rattle.floyd_specread_items.proofs.VariableLemmas.{case_env}
use Rattle.floyd_specread_items.proofs.predicates.case_body_at.Goals as goal

pub returns-clause-exact : goal.returns-clause-exact
returns-clause-exact c =
    subst (λ (ns : List (List ℕ)). Answers (λ (x : Assertion × ℕ). x) (judged_body c.args.text.bytes.now c.args.text.tokens.now c.args.item.own.now ns (under (pattern_binders c.args.item.arguments.now c.args.pattern.now) (under c.args.item.arguments.now (outermost c.args.scope.now))) c.args.at) c.judged_body_at.result) (c.as_slice.ensures.value ∙ c.in_ok-parts.ensures)
    (rw (case_env c.args.scope.now c.args.item.arguments.now c.args.pattern.now c.in_ok-bound.bound c.in_ok-bound.ensures) at c.judged_body_at.ensures.exact)
