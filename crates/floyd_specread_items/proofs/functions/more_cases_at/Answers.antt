use Rattle.std.proofs.Common.{ℕ, List, [], ◌∷◌, ◌++◌, ap, sym, subst, ◌∙◌}
use Rattle.floyd_lex.specs.declared.kinds.Punctuator.TheVariants as p
use Rattle.floyd_assert_trees.specs.declared.items.FunCase.{FunCase}
use Rattle.floyd_termread_tokens.specs.Tokens.{is_mark}
use Rattle.floyd_termread.specs.Brackets.{outermost}
use Rattle.floyd_specread_words.proofs.ManyLemmas.{SoFar, one_more, refused_there, ended}
use Rattle.floyd_specread_items.specs.Functions as specs
use Rattle.floyd_termread_parts.proofs.Chains.{stopped}
use Rattle.floyd_specread_items.proofs.functions.more_cases_at.Goals as goal

pub each-init : goal.each-init
each-init c =
    record {
      within = c.requires.at;
      so_far = subst (λ (xs : List FunCase). SoFar c.args.text.bytes.now c.args.text.tokens.now (is_mark p.Bar) (specs.next_case c.args.text.bytes.now c.args.text.tokens.now c.args.item.own.now c.args.item.head.now (outermost c.args.scope.now)) (c.args.first ∷ []) c.args.at xs c.args.at) (sym (c.in_ok-push.ensures.ok ∙ ap (λ (xs : List FunCase). xs ++ c.args.first ∷ []) c.new-cases.ensures)) (λ answer d. d);
    }

pub each-preserved : goal.each-preserved
each-preserved c =
    record {
      within = c.in_ok-case.ensures.within;
      so_far = subst (λ (xs : List FunCase). SoFar c.args.text.bytes.now c.args.text.tokens.now (is_mark p.Bar) (specs.next_case c.args.text.bytes.now c.args.text.tokens.now c.args.item.own.now c.args.item.head.now (outermost c.args.scope.now)) (c.args.first ∷ []) c.args.at xs c.in_ok-case.behind) (sym c.in_ok-push-2.ensures.ok) (one_more c.args.text.bytes.now c.args.text.tokens.now (is_mark p.Bar) (specs.next_case c.args.text.bytes.now c.args.text.tokens.now c.args.item.own.now c.args.item.head.now (outermost c.args.scope.now)) (c.args.first ∷ []) c.args.at c.each.cases c.each.next c.in_ok-case.case c.in_ok-case.behind c.each.invariant.so_far (sym c.leads_mark.ensures.value ∙ c.each-test.true) c.in_ok-case.ensures.exact);
    }

pub returns-clause-exact : goal.returns-clause-exact
returns-clause-exact c =
    ended c.args.text.bytes.now c.args.text.tokens.now (is_mark p.Bar) (specs.next_case c.args.text.bytes.now c.args.text.tokens.now c.args.item.own.now c.args.item.head.now (outermost c.args.scope.now)) (c.args.first ∷ []) c.args.at c.each.cases c.each.next c.each.invariant.so_far (sym c.leads_mark.ensures.value ∙ c.each-test.false)

pub returns-in_err-case-clause-exact : goal.returns-in_err-case-clause-exact
returns-in_err-case-clause-exact c =
    stopped (λ (x : List FunCase × ℕ). x) (specs.more_cases c.args.text.bytes.now c.args.text.tokens.now c.args.item.own.now c.args.item.head.now (outermost c.args.scope.now) c.args.first c.args.at) c.from_residual-in_err-case.result c.in_err-case.field-0.0 c.from_residual-in_err-case.ensures.1
    (λ refusal e. refused_there c.args.text.bytes.now c.args.text.tokens.now (is_mark p.Bar) (specs.next_case c.args.text.bytes.now c.args.text.tokens.now c.args.item.own.now c.args.item.head.now (outermost c.args.scope.now)) (c.args.first ∷ []) c.args.at c.each.cases c.each.next refusal c.each.invariant.so_far (sym c.leads_mark.ensures.value ∙ c.each-test.true) (rw e at c.in_err-case.ensures.exact))
