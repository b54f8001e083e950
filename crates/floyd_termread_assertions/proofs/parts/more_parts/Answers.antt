use Rattle.std.proofs.Common.{ℕ, List, [], sym, subst, ◌∙◌, arith}
use Rattle.floyd_lex.specs.declared.kinds.Punctuator.TheVariants as p
use Rattle.floyd_assert_trees.specs.declared.sep.Sep.{Sep}
use Rattle.floyd_termread_scope.specs.Scopes.{env}
use Rattle.floyd_termread_marks.specs.Lists as lists
use Rattle.floyd_termread_marks.proofs.ListLemmas.{SoFar, one_more, refused_there, ended}
use Rattle.floyd_termread_assertions.specs.Assertions as specs
use Rattle.floyd_termread_parts.proofs.Chains.{stopped}
use Rattle.floyd_termread_assertions.proofs.parts.more_parts.Goals as goal

pub returns-in_err-part-clause-exact : goal.returns-in_err-part-clause-exact
returns-in_err-part-clause-exact c =
    stopped (λ (x : List Sep × ℕ). x) (lists.Listed c.args.text.bytes.now c.args.text.tokens.now c.args.spot.depth p.Semicolon (specs.part_behind c.args.text.bytes.now c.args.text.tokens.now c.args.spot.depth (env c.args.scope.now c.args.bound.now)) [] c.args.spot.at) c.from_residual.result c.in_err-part.field-0.0 c.from_residual.ensures.1
    (λ refusal e. refused_there c.args.text.bytes.now c.args.text.tokens.now c.args.spot.depth p.Semicolon (specs.part_behind c.args.text.bytes.now c.args.text.tokens.now c.args.spot.depth (env c.args.scope.now c.args.bound.now)) c.args.spot.at c.each.parts c.each.at refusal c.each.invariant.so_far (sym c.leads_mark.ensures.value ∙ c.each-test.true) (rw (e, c.len-number.ensures) at c.in_err-part.ensures.exact))

pub each-preserved : goal.each-preserved
each-preserved c =
    record {
      from = omega (arith, c.in_ok-part.ensures.from);
      within = c.in_ok-part.ensures.within;
      so_far = subst (λ (xs : List Sep). SoFar c.args.text.bytes.now c.args.text.tokens.now c.args.spot.depth p.Semicolon (specs.part_behind c.args.text.bytes.now c.args.text.tokens.now c.args.spot.depth (env c.args.scope.now c.args.bound.now)) c.args.spot.at xs c.in_ok-part.next) (sym c.in_ok-push.ensures.ok) (one_more c.args.text.bytes.now c.args.text.tokens.now c.args.spot.depth p.Semicolon (specs.part_behind c.args.text.bytes.now c.args.text.tokens.now c.args.spot.depth (env c.args.scope.now c.args.bound.now)) c.args.spot.at c.each.parts c.each.at c.in_ok-part.part c.in_ok-part.next c.each.invariant.so_far (sym c.leads_mark.ensures.value ∙ c.each-test.true) (rw (c.len-number.ensures) at c.in_ok-part.ensures.exact));
    }

pub returns-clause-exact : goal.returns-clause-exact
returns-clause-exact c =
    ended c.args.text.bytes.now c.args.text.tokens.now c.args.spot.depth p.Semicolon (specs.part_behind c.args.text.bytes.now c.args.text.tokens.now c.args.spot.depth (env c.args.scope.now c.args.bound.now)) c.args.spot.at c.each.parts c.each.at c.each.invariant.so_far (sym c.leads_mark.ensures.value ∙ c.each-test.false)
