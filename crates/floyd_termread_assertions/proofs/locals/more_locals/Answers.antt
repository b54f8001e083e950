use Rattle.std.proofs.Common.{ℕ, List, [], sym, subst, ◌∙◌, arith}
use Rattle.floyd_lex.specs.declared.kinds.Punctuator.TheVariants as p
use Rattle.floyd_assert_trees.specs.declared.assertion.Local.{Local}
use Rattle.floyd_termread_scope.specs.Scopes.{env}
use Rattle.floyd_termread_marks.specs.Lists as lists
use Rattle.floyd_termread_marks.proofs.ListLemmas.{SoFar, one_more, refused_there, ended}
use Rattle.floyd_termread_assertions.specs.Assertions as specs
use Rattle.floyd_termread_assertions.specs.BoundClauses.{SameNames}
use Rattle.floyd_termread_assertions.proofs.NameLemmas.{one_name_more}
use Rattle.floyd_tree_sorts.specs.declared.sorts.Sort.{Val}
use Rattle.floyd_termread_parts.proofs.Chains.{stopped}
use Rattle.floyd_termread_assertions.proofs.locals.more_locals.Goals as goal

pub returns-in_err-local-clause-exact : goal.returns-in_err-local-clause-exact
returns-in_err-local-clause-exact c =
    stopped (λ (x : List Local × ℕ). x) (lists.Listed c.args.text.bytes.now c.args.text.tokens.now c.args.spot.depth p.Semicolon (specs.local_behind c.args.text.bytes.now c.args.text.tokens.now c.args.spot.depth (env c.args.scope.now c.args.bound.now)) [] c.args.spot.at) c.from_residual.result c.in_err-local.field-0.0 c.from_residual.ensures.1
    (λ refusal e. refused_there c.args.text.bytes.now c.args.text.tokens.now c.args.spot.depth p.Semicolon (specs.local_behind c.args.text.bytes.now c.args.text.tokens.now c.args.spot.depth (env c.args.scope.now c.args.bound.now)) c.args.spot.at c.each.locals c.each.at refusal c.each.invariant.so_far (sym c.leads_mark.ensures.value ∙ c.each-test.true) (rw (e, c.as_slice.ensures) at c.in_err-local.ensures.exact))

pub each-preserved : goal.each-preserved
each-preserved c =
    record {
      from = omega (arith, c.in_ok-local.ensures.from);
      within = c.in_ok-local.ensures.within;
      same = subst (λ (xs : List Local). SameNames xs c.put_name.new.names) (sym c.in_ok-push.ensures.ok) (one_name_more c.each.locals c.in_ok-local.local Val c.each.names c.put_name.new.names c.each.invariant.same c.in_ok-put_name.ensures);
      so_far = subst (λ (xs : List Local). SoFar c.args.text.bytes.now c.args.text.tokens.now c.args.spot.depth p.Semicolon (specs.local_behind c.args.text.bytes.now c.args.text.tokens.now c.args.spot.depth (env c.args.scope.now c.args.bound.now)) c.args.spot.at xs c.in_ok-local.next) (sym c.in_ok-push.ensures.ok) (one_more c.args.text.bytes.now c.args.text.tokens.now c.args.spot.depth p.Semicolon (specs.local_behind c.args.text.bytes.now c.args.text.tokens.now c.args.spot.depth (env c.args.scope.now c.args.bound.now)) c.args.spot.at c.each.locals c.each.at c.in_ok-local.local c.in_ok-local.next c.each.invariant.so_far (sym c.leads_mark.ensures.value ∙ c.each-test.true) (rw (c.as_slice.ensures) at c.in_ok-local.ensures.exact));
    }

pub returns-clause-exact : goal.returns-clause-exact
returns-clause-exact c =
    ended c.args.text.bytes.now c.args.text.tokens.now c.args.spot.depth p.Semicolon (specs.local_behind c.args.text.bytes.now c.args.text.tokens.now c.args.spot.depth (env c.args.scope.now c.args.bound.now)) c.args.spot.at c.each.locals c.each.at c.each.invariant.so_far (sym c.leads_mark.ensures.value ∙ c.each-test.false)
