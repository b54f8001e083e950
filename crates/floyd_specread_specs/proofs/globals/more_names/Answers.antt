use Rattle.std.proofs.Common.{ℕ, List, [], sym, subst, ◌∙◌}
use Rattle.floyd_lex.specs.declared.kinds.Punctuator.TheVariants as p
use Rattle.floyd_termread_marks.specs.Lists.{Listed}
use Rattle.floyd_termread_marks.proofs.ListLemmas.{SoFar, one_more, refused_there, ended}
use Rattle.floyd_specread_specs.specs.Specifications as specs
use Rattle.floyd_termread_parts.proofs.Chains.{stopped}
use Rattle.floyd_specread_specs.proofs.globals.more_names.Goals as goal

pub each-preserved : goal.each-preserved
each-preserved c =
    record {
      within = c.in_ok-name.ensures.within;
      so_far = subst (λ (xs : List (List ℕ)). SoFar c.args.text.bytes.now c.args.text.tokens.now 1 p.Semicolon (specs.global_behind c.args.text.bytes.now c.args.text.tokens.now) c.args.at xs c.in_ok-name.behind) (sym c.in_ok-push.ensures.ok) (one_more c.args.text.bytes.now c.args.text.tokens.now 1 p.Semicolon (specs.global_behind c.args.text.bytes.now c.args.text.tokens.now) c.args.at c.each.names c.each.next c.in_ok-name.name c.in_ok-name.behind c.each.invariant.so_far (sym c.leads_mark.ensures.value ∙ c.each-test.true) (rw c.as_slice.ensures at c.in_ok-name.ensures.exact));
    }

pub returns-clause-exact : goal.returns-clause-exact
returns-clause-exact c =
    ended c.args.text.bytes.now c.args.text.tokens.now 1 p.Semicolon (specs.global_behind c.args.text.bytes.now c.args.text.tokens.now) c.args.at c.each.names c.each.next c.each.invariant.so_far (sym c.leads_mark.ensures.value ∙ c.each-test.false)

pub returns-in_err-name-clause-exact : goal.returns-in_err-name-clause-exact
returns-in_err-name-clause-exact c =
    stopped (λ (x : List (List ℕ) × ℕ). x) (Listed c.args.text.bytes.now c.args.text.tokens.now 1 p.Semicolon (specs.global_behind c.args.text.bytes.now c.args.text.tokens.now) [] c.args.at) c.from_residual.result c.in_err-name.field-0.0 c.from_residual.ensures.1
    (λ refusal e. refused_there c.args.text.bytes.now c.args.text.tokens.now 1 p.Semicolon (specs.global_behind c.args.text.bytes.now c.args.text.tokens.now) c.args.at c.each.names c.each.next refusal c.each.invariant.so_far (sym c.leads_mark.ensures.value ∙ c.each-test.true) (rw (e, c.as_slice.ensures) at c.in_err-name.ensures.exact))
