use Rattle.std.proofs.Common.{ℕ, List, [], sym, subst, ◌∙◌, arith}
use Rattle.floyd_lex.specs.declared.kinds.Punctuator.TheVariants as p
use Rattle.floyd_termread_marks.specs.Lists.{Listed}
use Rattle.floyd_termread_marks.proofs.ListLemmas.{SoFar, one_more, refused_there, ended}
use Rattle.floyd_specread_skims.specs.Skims as specs
use Rattle.floyd_termread_parts.proofs.Chains.{stopped}
use Rattle.floyd_specread_skims.proofs.parts.skim_arguments.Goals as goal

pub returns-in_err-next-clause-exact : goal.returns-in_err-next-clause-exact
returns-in_err-next-clause-exact c =
    stopped (λ (x : List (Unit {0}) × ℕ). x) (Listed c.args.text.bytes.now c.args.text.tokens.now c.args.spot.depth p.Comma (specs.argument_behind c.args.text.bytes.now c.args.text.tokens.now c.args.spot.depth) [] c.args.spot.at) c.from_residual.result c.in_err-next.field-0.0 c.from_residual.ensures.1
    (λ refusal e. refused_there c.args.text.bytes.now c.args.text.tokens.now c.args.spot.depth p.Comma (specs.argument_behind c.args.text.bytes.now c.args.text.tokens.now c.args.spot.depth) c.args.spot.at c.each.found c.each.at refusal c.each.invariant.so_far (sym c.leads_mark.ensures.value ∙ c.each-test.true) (rw (e, c.len-before.ensures) at c.in_err-next.ensures.exact))

pub each-preserved : goal.each-preserved
each-preserved c =
    record {
      from = omega (arith, c.in_ok-next.ensures.from);
      within = c.in_ok-next.ensures.within;
      so_far = subst (λ (xs : List (Unit {0})). SoFar c.args.text.bytes.now c.args.text.tokens.now c.args.spot.depth p.Comma (specs.argument_behind c.args.text.bytes.now c.args.text.tokens.now c.args.spot.depth) c.args.spot.at xs c.in_ok-next.next) (sym c.in_ok-push.ensures.ok) (one_more c.args.text.bytes.now c.args.text.tokens.now c.args.spot.depth p.Comma (specs.argument_behind c.args.text.bytes.now c.args.text.tokens.now c.args.spot.depth) c.args.spot.at c.each.found c.each.at tt c.in_ok-next.next c.each.invariant.so_far (sym c.leads_mark.ensures.value ∙ c.each-test.true) (rw c.len-before.ensures at c.in_ok-next.ensures.exact));
    }

pub returns-clause-exact : goal.returns-clause-exact
returns-clause-exact c =
    ended c.args.text.bytes.now c.args.text.tokens.now c.args.spot.depth p.Comma (specs.argument_behind c.args.text.bytes.now c.args.text.tokens.now c.args.spot.depth) c.args.spot.at c.each.found c.each.at c.each.invariant.so_far (sym c.leads_mark.ensures.value ∙ c.each-test.false)
