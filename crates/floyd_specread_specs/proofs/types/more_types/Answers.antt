use Rattle.std.proofs.Common.{ℕ, List, [], sym, subst, ◌∙◌}
use Rattle.floyd_lex.specs.declared.kinds.Punctuator.TheVariants as p
use Rattle.floyd_tree.specs.Types.{SizedType}
use Rattle.floyd_termread_scope.specs.Scopes.{env}
use Rattle.floyd_specread_words.specs.Words.{is_other}
use Rattle.floyd_specread_words.proofs.ManyLemmas.{SoFar, one_more, refused_there, ended}
use Rattle.floyd_specread_specs.specs.Specifications as specs
use Rattle.floyd_termread_parts.proofs.Chains.{stopped}
use Rattle.floyd_specread_specs.proofs.types.more_types.Goals as goal

pub each-preserved : goal.each-preserved
each-preserved c =
    record {
      within = c.in_ok-ty.ensures.within;
      so_far = subst (λ (xs : List SizedType). SoFar c.args.text.bytes.now c.args.text.tokens.now (is_other p.CloseBracket) (specs.type_behind c.args.text.bytes.now c.args.text.tokens.now (env c.args.scope.now c.args.bound.now)) [] c.args.at xs c.in_ok-ty.behind) (sym c.in_ok-push.ensures.ok) (one_more c.args.text.bytes.now c.args.text.tokens.now (is_other p.CloseBracket) (specs.type_behind c.args.text.bytes.now c.args.text.tokens.now (env c.args.scope.now c.args.bound.now)) [] c.args.at c.each.types c.each.next c.in_ok-ty.ty c.in_ok-ty.behind c.each.invariant.so_far (sym c.leads_other.ensures.value ∙ c.each-test.true) (rw c.as_slice.ensures at c.in_ok-ty.ensures.exact));
    }

pub returns-clause-exact : goal.returns-clause-exact
returns-clause-exact c =
    ended c.args.text.bytes.now c.args.text.tokens.now (is_other p.CloseBracket) (specs.type_behind c.args.text.bytes.now c.args.text.tokens.now (env c.args.scope.now c.args.bound.now)) [] c.args.at c.each.types c.each.next c.each.invariant.so_far (sym c.leads_other.ensures.value ∙ c.each-test.false)

pub returns-in_err-ty-clause-exact : goal.returns-in_err-ty-clause-exact
returns-in_err-ty-clause-exact c =
    stopped (λ (x : List SizedType × ℕ). x) (specs.more_types c.args.text.bytes.now c.args.text.tokens.now (env c.args.scope.now c.args.bound.now) c.args.at) c.from_residual.result c.in_err-ty.field-0.0 c.from_residual.ensures.1
    (λ refusal e. refused_there c.args.text.bytes.now c.args.text.tokens.now (is_other p.CloseBracket) (specs.type_behind c.args.text.bytes.now c.args.text.tokens.now (env c.args.scope.now c.args.bound.now)) [] c.args.at c.each.types c.each.next refusal c.each.invariant.so_far (sym c.leads_other.ensures.value ∙ c.each-test.true) (rw (e, c.as_slice.ensures) at c.in_err-ty.ensures.exact))
