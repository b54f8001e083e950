use Rattle.std.proofs.Common.{ℕ, List, [], sym, subst, ◌∙◌, arith}
use Rattle.floyd_lex.specs.declared.kinds.Punctuator.TheVariants as p
use Rattle.floyd_tree.specs.Plain.{Plain}
use Rattle.floyd_termread_scope.specs.Scopes.{env}
use Rattle.floyd_termread_marks.specs.Lists.{Listed}
use Rattle.floyd_termread_marks.proofs.ListLemmas.{SoFar, one_more, refused_there, ended}
use Rattle.floyd_specread_declarations.specs.Declarations as specs
use Rattle.floyd_termread_parts.proofs.Chains.{stopped}
use Rattle.floyd_specread_declarations.proofs.by.more_terms.Goals as goal

pub each-preserved : goal.each-preserved
each-preserved c =
    record {
      from = omega (arith, c.each.invariant.from, c.in_ok-term.ensures.from);
      within = c.in_ok-term.ensures.within;
      so_far = subst (λ (xs : List Plain). SoFar c.args.text.bytes.now c.args.text.tokens.now 1 p.Comma (specs.term_behind c.args.text.bytes.now c.args.text.tokens.now (env c.args.scope.now c.args.bound.now)) c.args.at xs c.in_ok-term.behind) (sym c.in_ok-push.ensures.ok) (one_more c.args.text.bytes.now c.args.text.tokens.now 1 p.Comma (specs.term_behind c.args.text.bytes.now c.args.text.tokens.now (env c.args.scope.now c.args.bound.now)) c.args.at c.each.terms c.each.next c.in_ok-term.term c.in_ok-term.behind c.each.invariant.so_far (sym c.leads_mark.ensures.value ∙ c.each-test.true) (rw c.as_slice.ensures at c.in_ok-term.ensures.exact));
    }

pub returns-clause-exact : goal.returns-clause-exact
returns-clause-exact c =
    ended c.args.text.bytes.now c.args.text.tokens.now 1 p.Comma (specs.term_behind c.args.text.bytes.now c.args.text.tokens.now (env c.args.scope.now c.args.bound.now)) c.args.at c.each.terms c.each.next c.each.invariant.so_far (sym c.leads_mark.ensures.value ∙ c.each-test.false)

pub returns-in_err-term-clause-exact : goal.returns-in_err-term-clause-exact
returns-in_err-term-clause-exact c =
    stopped (λ (x : List Plain × ℕ). x) (Listed c.args.text.bytes.now c.args.text.tokens.now 1 p.Comma (specs.term_behind c.args.text.bytes.now c.args.text.tokens.now (env c.args.scope.now c.args.bound.now)) [] c.args.at) c.from_residual.result c.in_err-term.field-0.0 c.from_residual.ensures.1
    (λ refusal e. refused_there c.args.text.bytes.now c.args.text.tokens.now 1 p.Comma (specs.term_behind c.args.text.bytes.now c.args.text.tokens.now (env c.args.scope.now c.args.bound.now)) c.args.at c.each.terms c.each.next refusal c.each.invariant.so_far (sym c.leads_mark.ensures.value ∙ c.each-test.true) (rw (e, c.as_slice.ensures) at c.in_err-term.ensures.exact))
