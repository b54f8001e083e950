use Rattle.std.proofs.Common.{ℕ, List, [], sym, subst, ◌∙◌, arith}
use Rattle.floyd_lex.specs.declared.kinds.Punctuator.TheVariants as p
use Rattle.floyd_tree.specs.Plain.{Plain}
use Rattle.floyd_termread_scope.specs.Scopes.{env}
use Rattle.floyd_termread_marks.specs.Lists.{Listed}
use Rattle.floyd_termread_marks.proofs.ListLemmas.{SoFar, one_more, refused_there, ended}
use Rattle.floyd_specread_specs.specs.Specifications as specs
use Rattle.floyd_termread_parts.proofs.Chains.{stopped}
use Rattle.floyd_specread_specs.proofs.values.more_values.Goals as goal

pub each-preserved : goal.each-preserved
each-preserved c =
    record {
      from = omega (arith, c.each.invariant.from, c.in_ok-value.ensures.from);
      within = c.in_ok-value.ensures.within;
      so_far = subst (λ (xs : List Plain). SoFar c.args.text.bytes.now c.args.text.tokens.now 1 p.Semicolon (specs.value_behind c.args.text.bytes.now c.args.text.tokens.now (env c.args.scope.now c.args.bound.now)) c.args.at xs c.in_ok-value.behind) (sym c.in_ok-push.ensures.ok) (one_more c.args.text.bytes.now c.args.text.tokens.now 1 p.Semicolon (specs.value_behind c.args.text.bytes.now c.args.text.tokens.now (env c.args.scope.now c.args.bound.now)) c.args.at c.each.values c.each.next c.in_ok-value.value c.in_ok-value.behind c.each.invariant.so_far (sym c.leads_mark.ensures.value ∙ c.each-test.true) (rw c.as_slice.ensures at c.in_ok-value.ensures.exact));
    }

pub returns-clause-exact : goal.returns-clause-exact
returns-clause-exact c =
    ended c.args.text.bytes.now c.args.text.tokens.now 1 p.Semicolon (specs.value_behind c.args.text.bytes.now c.args.text.tokens.now (env c.args.scope.now c.args.bound.now)) c.args.at c.each.values c.each.next c.each.invariant.so_far (sym c.leads_mark.ensures.value ∙ c.each-test.false)

pub returns-in_err-value-clause-exact : goal.returns-in_err-value-clause-exact
returns-in_err-value-clause-exact c =
    stopped (λ (x : List Plain × ℕ). x) (Listed c.args.text.bytes.now c.args.text.tokens.now 1 p.Semicolon (specs.value_behind c.args.text.bytes.now c.args.text.tokens.now (env c.args.scope.now c.args.bound.now)) [] c.args.at) c.from_residual.result c.in_err-value.field-0.0 c.from_residual.ensures.1
    (λ refusal e. refused_there c.args.text.bytes.now c.args.text.tokens.now 1 p.Semicolon (specs.value_behind c.args.text.bytes.now c.args.text.tokens.now (env c.args.scope.now c.args.bound.now)) c.args.at c.each.values c.each.next refusal c.each.invariant.so_far (sym c.leads_mark.ensures.value ∙ c.each-test.true) (rw (e, c.as_slice.ensures) at c.in_err-value.ensures.exact))
