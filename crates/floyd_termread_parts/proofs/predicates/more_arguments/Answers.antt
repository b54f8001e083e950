use Rattle.std.proofs.Common.{ℕ, List, [], sym, subst, ◌∙◌, arith}
use Rattle.floyd_lex.specs.declared.kinds.Punctuator.TheVariants as p
use Rattle.floyd_tree.specs.Plain.{Plain}
use Rattle.floyd_termread_scope.specs.Scopes.{env}
use Rattle.floyd_termread_marks.specs.Lists.{Listed}
use Rattle.floyd_termread_marks.proofs.ListLemmas.{SoFar, one_more, refused_there, ended}
use Rattle.floyd_termread_parts.specs.Parts as parts
use Rattle.floyd_termread_parts.proofs.Chains.{stopped}
use Rattle.floyd_termread_parts.proofs.predicates.more_arguments.Goals as goal

pub returns-in_err-term-clause-exact : goal.returns-in_err-term-clause-exact
returns-in_err-term-clause-exact c =
    stopped (λ (x : List Plain × ℕ). x) (Listed c.args.text.bytes.now c.args.text.tokens.now c.args.spot.depth p.Comma (parts.argument_behind c.args.text.bytes.now c.args.text.tokens.now c.args.spot.depth (env c.args.scope.now c.args.bound.now) c.args.pred.now) [] c.args.spot.at) c.from_residual.result c.in_err-term.field-0.0 c.from_residual.ensures.1
    (λ refusal e. refused_there c.args.text.bytes.now c.args.text.tokens.now c.args.spot.depth p.Comma (parts.argument_behind c.args.text.bytes.now c.args.text.tokens.now c.args.spot.depth (env c.args.scope.now c.args.bound.now) c.args.pred.now) c.args.spot.at c.each.terms c.each.at refusal c.each.invariant.so_far (sym c.leads_mark.ensures.value ∙ c.each-test.true) (rw (e, c.len.ensures) at c.in_err-term.ensures.exact))

pub each-preserved : goal.each-preserved
each-preserved c =
    record {
      from = omega (arith, c.in_ok-term.ensures.from);
      within = c.in_ok-term.ensures.within;
      so_far = subst (λ (xs : List Plain). SoFar c.args.text.bytes.now c.args.text.tokens.now c.args.spot.depth p.Comma (parts.argument_behind c.args.text.bytes.now c.args.text.tokens.now c.args.spot.depth (env c.args.scope.now c.args.bound.now) c.args.pred.now) c.args.spot.at xs c.in_ok-term.next) (sym c.in_ok-push.ensures.ok) (one_more c.args.text.bytes.now c.args.text.tokens.now c.args.spot.depth p.Comma (parts.argument_behind c.args.text.bytes.now c.args.text.tokens.now c.args.spot.depth (env c.args.scope.now c.args.bound.now) c.args.pred.now) c.args.spot.at c.each.terms c.each.at c.in_ok-term.term c.in_ok-term.next c.each.invariant.so_far (sym c.leads_mark.ensures.value ∙ c.each-test.true) (rw c.len.ensures at c.in_ok-term.ensures.exact));
    }

pub returns-clause-exact : goal.returns-clause-exact
returns-clause-exact c =
    ended c.args.text.bytes.now c.args.text.tokens.now c.args.spot.depth p.Comma (parts.argument_behind c.args.text.bytes.now c.args.text.tokens.now c.args.spot.depth (env c.args.scope.now c.args.bound.now) c.args.pred.now) c.args.spot.at c.each.terms c.each.at c.each.invariant.so_far (sym c.leads_mark.ensures.value ∙ c.each-test.false)
