use Rattle.std.proofs.Common.{ℕ, List, [], sym, subst, ◌∙◌, arith}
use Rattle.floyd_lex.specs.declared.kinds.Punctuator.TheVariants as p
use Rattle.floyd_tree.specs.Formulas.{PlainFormula}
use Rattle.floyd_termread_scope.specs.Scopes.{env}
use Rattle.floyd_termread_marks.specs.Lists as lists
use Rattle.floyd_termread_marks.proofs.ListLemmas.{SoFar, one_more, refused_there, ended}
use Rattle.floyd_termread_assertions.specs.Assertions as specs
use Rattle.floyd_termread_parts.proofs.Chains.{stopped}
use Rattle.floyd_termread_assertions.proofs.BoundLemmas.{same_env}
use Rattle.floyd_termread_assertions.proofs.formulas.more_formulas.Goals as goal

pub returns-in_err-formula-clause-exact : goal.returns-in_err-formula-clause-exact
returns-in_err-formula-clause-exact c =
    stopped (λ (x : List PlainFormula × ℕ). x) (lists.Listed c.args.text.bytes.now c.args.text.tokens.now c.args.spot.depth p.Semicolon (specs.formula_behind c.args.text.bytes.now c.args.text.tokens.now c.args.spot.depth (env c.args.scope.now c.args.bound.now)) [] c.args.spot.at) c.from_residual.result c.in_err-formula.field-0.0 c.from_residual.ensures.1
    (λ refusal e. refused_there c.args.text.bytes.now c.args.text.tokens.now c.args.spot.depth p.Semicolon (specs.formula_behind c.args.text.bytes.now c.args.text.tokens.now c.args.spot.depth (env c.args.scope.now c.args.bound.now)) c.args.spot.at c.each.formulas c.each.at refusal c.each.invariant.so_far (sym c.leads_mark.ensures.value ∙ c.each-test.true) (rw (e, c.len-number.ensures, same_env c.args.scope.now c.each.bound c.args.bound.now c.each.invariant.kept) at c.in_err-formula.ensures.exact))

pub each-preserved : goal.each-preserved
each-preserved c =
    record {
      from = omega (arith, c.in_ok-formula.ensures.from);
      within = c.in_ok-formula.ensures.within;
      kept = c.in_ok-formula.ensures.kept ∙ c.each.invariant.kept;
      so_far = subst (λ (xs : List PlainFormula). SoFar c.args.text.bytes.now c.args.text.tokens.now c.args.spot.depth p.Semicolon (specs.formula_behind c.args.text.bytes.now c.args.text.tokens.now c.args.spot.depth (env c.args.scope.now c.args.bound.now)) c.args.spot.at xs c.in_ok-formula.next) (sym c.in_ok-push.ensures.ok) (one_more c.args.text.bytes.now c.args.text.tokens.now c.args.spot.depth p.Semicolon (specs.formula_behind c.args.text.bytes.now c.args.text.tokens.now c.args.spot.depth (env c.args.scope.now c.args.bound.now)) c.args.spot.at c.each.formulas c.each.at c.in_ok-formula.formula c.in_ok-formula.next c.each.invariant.so_far (sym c.leads_mark.ensures.value ∙ c.each-test.true) (rw (c.len-number.ensures, same_env c.args.scope.now c.each.bound c.args.bound.now c.each.invariant.kept) at c.in_ok-formula.ensures.exact));
    }

pub returns-clause-exact : goal.returns-clause-exact
returns-clause-exact c =
    ended c.args.text.bytes.now c.args.text.tokens.now c.args.spot.depth p.Semicolon (specs.formula_behind c.args.text.bytes.now c.args.text.tokens.now c.args.spot.depth (env c.args.scope.now c.args.bound.now)) c.args.spot.at c.each.formulas c.each.at c.each.invariant.so_far (sym c.leads_mark.ensures.value ∙ c.each-test.false)
