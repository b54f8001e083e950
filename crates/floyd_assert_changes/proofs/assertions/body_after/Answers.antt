use Rattle.std.proofs.Common.{map, sym, ◌∙◌, ap, subst}
use Rattle.std.specs.List.{flat_map, list_all}
use Rattle.floyd_tree.specs.MadeFormulas.{formula_fits}
use Rattle.floyd_tree.specs.Plain.{plains}
use Rattle.floyd_truth.specs.Replace.{AllSortsAgree, replaced_formula}
use Rattle.floyd_assert_changes.specs.Changed.{PartsSortsAgree, assertion_fits, body_after, local_terms, part_terms}
use Rattle.floyd_assert_changes.specs.ChangesClauses.{changes}
use Rattle.floyd_assert_changes.specs.FittingClauses.{fit_after}
use Rattle.floyd_assert_changes.proofs.Existentials.{unfit_locals, unfit_parts, unfit_props, whole_fits}
use Rattle.floyd_assert_changes.proofs.Parting.{agree_append}
use Rattle.floyd_assert_changes.proofs.Stopping.{stopped}
use Rattle.floyd_assert_changes.proofs.assertions.body_after.Goals as goal

pub locals_after-requires-clause-sorts : goal.locals_after-requires-clause-sorts
locals_after-requires-clause-sorts g c =
    let ch = changes c.args.changing.now in
    let a = c.args.a.now in
    subst (λ ls. AllSortsAgree ch (plains (local_terms ls))) (sym c.as_slice-2.ensures)
    (agree_append ch (local_terms a.locals) (flat_map part_terms a.parts) c.requires.terms).0

pub parts_after-requires-clause-sorts : goal.parts_after-requires-clause-sorts
parts_after-requires-clause-sorts g c =
    let ch = changes c.args.changing.now in
    let a = c.args.a.now in
    subst (PartsSortsAgree ch) (sym c.as_slice-3.ensures) (agree_append ch (local_terms a.locals) (flat_map part_terms a.parts) c.requires.terms).1

pub returns-in_err-props : goal.returns-in_err-props
returns-in_err-props g c =
    let ch = changes c.args.changing.now in
    let a = c.args.a.now in
    let new = c.args.existentials in
    let same = ap (λ fs. list_all formula_fits (map (replaced_formula ch) fs)) c.as_slice.ensures in
    let told =
    stopped c.from_residual.result (body_after ch a new) c.in_err-props.field-0.0 (list_all formula_fits (map (replaced_formula ch) c.as_slice.result.now)) (assertion_fits (body_after ch a new))
    c.from_residual.ensures.1 (λ e. unfit_props ch a new (sym same ∙ e)) c.in_err-props.ensures.err in
    record { ok = told.0; fits = told.1; err = told.2 }

pub returns-in_err-locals : goal.returns-in_err-locals
returns-in_err-locals g c =
    let ch = changes c.args.changing.now in
    let a = c.args.a.now in
    let new = c.args.existentials in
    let same = ap (λ ls. fit_after ch (local_terms ls)) c.as_slice-2.ensures in
    let told =
    stopped c.from_residual-in_err-locals.result (body_after ch a new) c.in_err-locals.field-0.0 (fit_after ch (local_terms c.as_slice-2.result.now)) (assertion_fits (body_after ch a new))
    c.from_residual-in_err-locals.ensures.1 (λ e. unfit_locals ch a new (sym same ∙ e)) c.in_err-locals.ensures.err in
    record { ok = told.0; fits = told.1; err = told.2 }

pub returns-in_err-parts : goal.returns-in_err-parts
returns-in_err-parts g c =
    let ch = changes c.args.changing.now in
    let a = c.args.a.now in
    let new = c.args.existentials in
    let same = ap (λ ps. fit_after ch (flat_map part_terms ps)) c.as_slice-3.ensures in
    let told =
    stopped c.from_residual-in_err-parts.result (body_after ch a new) c.in_err-parts.field-0.0 (fit_after ch (flat_map part_terms c.as_slice-3.result.now)) (assertion_fits (body_after ch a new))
    c.from_residual-in_err-parts.ensures.1 (λ e. unfit_parts ch a new (sym same ∙ e)) c.in_err-parts.ensures.err in
    record { ok = told.0; fits = told.1; err = told.2 }

pub returns-clause-fits : goal.returns-clause-fits
returns-clause-fits g c =
    let ch = changes c.args.changing.now in
    let a = c.args.a.now in
    whole_fits ch a c.args.existentials
    (sym (ap (λ fs. list_all formula_fits (map (replaced_formula ch) fs)) c.as_slice.ensures) ∙ c.in_ok-props.ensures.fits)
    (sym (ap (λ ls. fit_after ch (local_terms ls)) c.as_slice-2.ensures) ∙ c.in_ok-locals.ensures.fits)
    (sym (ap (λ ps. fit_after ch (flat_map part_terms ps)) c.as_slice-3.ensures) ∙ c.in_ok-parts.ensures.fits)
