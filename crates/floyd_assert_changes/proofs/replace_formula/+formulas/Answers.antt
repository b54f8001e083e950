use Rattle.std.proofs.Common.{◌∷◌, map, sym, ◌∙◌, ap, subst, arith}
use Rattle.std.specs.Prelude.{bit_and}
use Rattle.std.specs.List.{list_all}
use Rattle.std.specs.Option.{option_copied}
use Rattle.floyd_tree.specs.Formulas.{formula_height, formula_heights, formulas}
use Rattle.floyd_tree.specs.MadeFormulas.{formula_fits}
use Rattle.floyd_truth.specs.Capture.{Called}
use Rattle.floyd_truth.specs.Replace.{FormulaSortsAgree, replaced_formula}
use Rattle.floyd_assert_changes.specs.ChangesClauses.{IsStill, bits_of, changes, name_bound}
use Rattle.floyd_assert_changes.proofs.Heights.{formula_height_at, formulas_below}
use Rattle.floyd_assert_changes.proofs.ReplacingFormulas.{binder_agree, formulas_agree_at, other_agree, unfit_binder, unfit_other}
use Rattle.floyd_assert_changes.proofs.StayingFormulas.{formula_still_is}
use Rattle.floyd_assert_changes.proofs.Stopping.{stopped}
use Rattle.floyd_assert_changes.proofs.replace_formula.+formulas.Goals as goal

pub below_binder-formulas_after-requires : goal.below_binder-formulas_after-requires
below_binder-formulas_after-requires g t c κs within =
    let ch = changes c.args.changing.now in
    let f = c.args.f.now in
    let k = c.as_slice-kids.ensures ∙ c.formula_kids.ensures in (
      omega (arith, formulas_below f, ap (λ ks. formula_heights (formulas ks)) k, c.decreases),
      (
        within,
        (binder_agree ch f c.args.x.now c.in_ok-name.name c.as_slice-kids.result.now k c.requires.binds c.in_ok-name.ensures c.requires.sorts, c.bits_with-bits.ensures ch (subst (λ m. IsStill m ch) (sym c.bits.ensures) c.requires.still)),
      ),
    )

pub below_binder-returns-in_err-kids-clause-err : goal.below_binder-returns-in_err-kids-clause-err
below_binder-returns-in_err-kids-clause-err g t c =
    let ch = changes c.args.changing.now in
    let f = c.args.f.now in
    let kids = c.as_slice-kids.result.now in
    let x = c.args.x.now in
    let name = c.in_ok-name.name in
    let told =
    stopped c.from_residual-in_err-kids.result (replaced_formula ch f) c.in_err-kids.field-0.0 (list_all formula_fits (map (replaced_formula ((x, Called name) ∷ ch)) kids)) (formula_fits (replaced_formula ch f))
    c.from_residual-in_err-kids.ensures.1
    (unfit_binder ch f x name kids (c.as_slice-kids.ensures ∙ c.formula_kids.ensures) c.requires.binds c.in_ok-name.ensures)
    c.in_err-kids.ensures.err in
    told.2

pub formula_after-same_formula-requires : goal.formula_after-same_formula-requires
formula_after-same_formula-requires g t c =
    let bits = bits_of c.args.changing.now in
    formula_still_is bits (changes c.args.changing.now) c.args.f.now c.requires.still
    (ap (λ s. bit_and s bits) (sym c.summary.ensures) ∙ ap (bit_and c.summary.result) (sym c.bits.ensures) ∙ c.if-summary-bits-eq0.true)

pub formula_after-formulas_after-requires : goal.formula_after-formulas_after-requires
formula_after-formulas_after-requires g t c κs within =
    let f = c.args.f.now in
    let k = c.as_slice.ensures ∙ c.formula_kids.ensures in
    let none = ap name_bound (sym c.formula_head.ensures) ∙ sym c.bound_name.ensures ∙ ap option_copied c.in_default.is in (
      omega (arith, formulas_below f, ap (λ ks. formula_heights (formulas ks)) k, c.decreases),
      (
        within,
        (other_agree (changes c.args.changing.now) f c.as_slice.result.now k none c.requires.sorts, c.requires.still),
      ),
    )

pub formula_after-returns-in_err-kids-clause-err : goal.formula_after-returns-in_err-kids-clause-err
formula_after-returns-in_err-kids-clause-err g t c =
    let ch = changes c.args.changing.now in
    let f = c.args.f.now in
    let kids = c.as_slice.result.now in
    let none = ap name_bound (sym c.formula_head.ensures) ∙ sym c.bound_name.ensures ∙ ap option_copied c.in_default.is in
    let told =
    stopped c.from_residual.result (replaced_formula ch f) c.in_err-kids.field-0.0 (list_all formula_fits (map (replaced_formula ch) kids)) (formula_fits (replaced_formula ch f))
    c.from_residual.ensures.1
    (unfit_other ch f kids (c.as_slice.ensures ∙ c.formula_kids.ensures) none)
    c.in_err-kids.ensures.err in
    told.2

pub formulas_after-formula_after-requires : goal.formulas_after-formula_after-requires
formulas_after-formula_after-requires g t c κs within =
    let all = c.args.all.now in
    let i = c.formulas.formula-index in
    let f = c.formula-item.result in (
      omega (arith, formula_height_at all i f c.formulas-test.true, ap formula_height c.formula-item.is, c.decreases),
      (
        within,
        (subst (FormulaSortsAgree (changes c.args.changing.now)) (sym c.formula-item.is) (formulas_agree_at (changes c.args.changing.now) all i f c.formulas-test.true c.requires.sorts), c.requires.still),
      ),
    )
