use Rattle.std.proofs.Common.{ℕ, List, Some, subst, ◌∙◌}
use Rattle.floyd_predicates.specs.Calls.{parts_of}
use Rattle.floyd_termread.specs.Brackets.{outermost}
use Rattle.floyd_termread_phrases.specs.Phrases as phrase
use Rattle.floyd_termread_assertions.specs.Assertions.{under}
use Rattle.floyd_specread_patterns.specs.Binders.{pattern_binders}
use Rattle.floyd_specread_recursion.specs.JudgedClauses.{IsJudged}
use Rattle.floyd_specread_recursion.proofs.JudgedLemmas.{judged_is}
use Rattle.floyd_specread_items.proofs.VariableLemmas.{case_env}
use Rattle.floyd_specread_items.proofs.functions.case_result_at.Goals as goal

pub returns-clause-exact : goal.returns-clause-exact
returns-clause-exact c =
    judged_is c.args.text.bytes.now c.args.text.tokens.now c.args.item.own.now (parts_of c.args.pattern.now) (phrase.term c.args.text.bytes.now c.args.text.tokens.now 0 (under (pattern_binders (c.args.item.head.now).arguments c.args.pattern.now) (under (c.args.item.head.now).arguments (outermost c.args.scope.now))) (Some (c.args.item.head.now).result)) c.args.at c.term_at-read.result c.structural.result
    (rw (case_env c.args.scope.now (c.args.item.head.now).arguments c.args.pattern.now c.in_ok-bound.bound (rw c.as_slice.ensures at c.in_ok-bound.ensures)) at c.term_at-read.ensures.exact)
    (subst (λ (ns : List (List ℕ)). IsJudged c.args.text.bytes.now c.args.text.tokens.now c.args.item.own.now ns c.args.at c.term_at-read.result c.structural.result) (c.as_slice-2.ensures.value ∙ c.in_ok-parts.ensures) c.structural.ensures.exact)
