use Rattle.std.proofs.Common.{map, sym, ◌∙◌, ap, subst}
use Rattle.floyd_tree.specs.MadeFormulas.{formula_fits, made_formula}
use Rattle.floyd_tree.specs.Made.{Gives}
use Rattle.floyd_tree.specs.Plain.{plains}
use Rattle.floyd_truth.specs.Replace.{AllSortsAgree, replaced, replaced_formula}
use Rattle.floyd_assert_changes.specs.ChangesClauses.{changes}
use Rattle.floyd_assert_changes.specs.FittingClauses.{fit_after}
use Rattle.floyd_assert_changes.proofs.ReplacingFormulas.{formula_node_told, terms_agree, unfit_terms_after}
use Rattle.floyd_assert_changes.proofs.Stopping.{stopped}
use Rattle.floyd_assert_changes.proofs.replace_formula.formula_node.Goals as goal

pub terms_after-requires-clause-sorts : goal.terms_after-requires-clause-sorts
terms_after-requires-clause-sorts g c =
    let ch = changes c.args.changing.now in
    subst (λ ts. AllSortsAgree ch (plains ts)) (sym (c.as_slice.ensures ∙ c.formula_terms.ensures)) (terms_agree ch c.args.f.now c.requires.sorts)

pub returns-in_err-terms-clause-err : goal.returns-in_err-terms-clause-err
returns-in_err-terms-clause-err g c =
    let ch = changes c.args.changing.now in
    let f = c.args.f.now in
    let same = ap (fit_after ch) (c.as_slice.ensures ∙ c.formula_terms.ensures) in
    let told =
    stopped c.from_residual.result (replaced_formula ch f) c.in_err-terms.field-0.0 (fit_after ch c.as_slice.result.now) (formula_fits (replaced_formula ch f)) c.from_residual.ensures.1
    (λ e. unfit_terms_after ch f (sym same ∙ e)) c.in_err-terms.ensures.err in
    told.2

pub returns : goal.returns
returns g c =
    let ch = changes c.args.changing.now in
    let f = c.args.f.now in
    let told =
    formula_node_told c.make_formula.result ch f c.args.head c.in_ok-terms.terms.items c.args.kids.now c.requires.head
    (c.in_ok-terms.ensures.ok ∙ ap (λ ts. map (replaced ch) ts) (c.as_slice.ensures ∙ c.formula_terms.ensures))
    c.requires.kids c.formula_size-size.ensures.sorted c.requires.sorts
    (subst (λ ts. Gives c.make_formula.result (made_formula c.args.head ts c.args.kids.now)) c.as_slice-2.ensures.value c.make_formula.ensures.exact) in
    record { ok = told.0; fits = told.1; err = told.2 }
