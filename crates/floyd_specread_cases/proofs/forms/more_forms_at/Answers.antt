use Rattle.std.proofs.Common.{ℕ, List, [], ◌∷◌, ◌++◌, ap, sym, subst, ◌∙◌}
use Rattle.floyd_lex.specs.declared.kinds.Punctuator.TheVariants as p
use Rattle.floyd_assert_trees.specs.declared.pattern.Pattern.{Pattern}
use Rattle.floyd_termread_tokens.specs.Tokens.{is_mark}
use Rattle.floyd_specread_words.proofs.ManyLemmas.{SoFar, one_more, refused_there, ended}
use Rattle.floyd_specread_cases.specs.Cases as specs
use Rattle.floyd_termread_parts.proofs.Chains.{stopped}
use Rattle.floyd_specread_cases.proofs.forms.more_forms_at.Goals as goal

pub each-init : goal.each-init
each-init c =
    record {
      within = c.requires.at;
      so_far = subst (λ (xs : List Pattern). SoFar c.args.text.bytes.now c.args.text.tokens.now (is_mark p.Bar) (specs.next_form c.args.text.bytes.now c.args.text.tokens.now c.args.form) (c.args.first ∷ []) c.args.at xs c.args.at) (sym (c.in_ok-push.ensures.ok ∙ ap (λ (xs : List Pattern). xs ++ c.args.first ∷ []) c.new-patterns.ensures)) (λ answer d. d);
    }

pub each-preserved : goal.each-preserved
each-preserved c =
    record {
      within = c.in_ok-pattern.ensures.within;
      so_far = subst (λ (xs : List Pattern). SoFar c.args.text.bytes.now c.args.text.tokens.now (is_mark p.Bar) (specs.next_form c.args.text.bytes.now c.args.text.tokens.now c.args.form) (c.args.first ∷ []) c.args.at xs c.in_ok-pattern.behind) (sym c.in_ok-push-2.ensures.ok) (one_more c.args.text.bytes.now c.args.text.tokens.now (is_mark p.Bar) (specs.next_form c.args.text.bytes.now c.args.text.tokens.now c.args.form) (c.args.first ∷ []) c.args.at c.each.patterns c.each.next c.in_ok-pattern.pattern c.in_ok-pattern.behind c.each.invariant.so_far (sym c.leads_mark.ensures.value ∙ c.each-test.true) c.in_ok-pattern.ensures.exact);
    }

pub returns-clause-exact : goal.returns-clause-exact
returns-clause-exact c =
    ended c.args.text.bytes.now c.args.text.tokens.now (is_mark p.Bar) (specs.next_form c.args.text.bytes.now c.args.text.tokens.now c.args.form) (c.args.first ∷ []) c.args.at c.each.patterns c.each.next c.each.invariant.so_far (sym c.leads_mark.ensures.value ∙ c.each-test.false)

pub returns-in_err-pattern-clause-exact : goal.returns-in_err-pattern-clause-exact
returns-in_err-pattern-clause-exact c =
    stopped (λ (x : List Pattern × ℕ). x) (specs.more_forms c.args.text.bytes.now c.args.text.tokens.now c.args.form c.args.first c.args.at) c.from_residual-in_err-pattern.result c.in_err-pattern.field-0.0 c.from_residual-in_err-pattern.ensures.1
    (λ refusal e. refused_there c.args.text.bytes.now c.args.text.tokens.now (is_mark p.Bar) (specs.next_form c.args.text.bytes.now c.args.text.tokens.now c.args.form) (c.args.first ∷ []) c.args.at c.each.patterns c.each.next refusal c.each.invariant.so_far (sym c.leads_mark.ensures.value ∙ c.each-test.true) (rw e at c.in_err-pattern.ensures.exact))
