use Rattle.std.proofs.Common.{[], sym, ◌∙◌, ap, subst}
use Rattle.floyd_tree.specs.Formulas.{formulas}
use Rattle.floyd_tree.specs.Plain.{plains}
use Rattle.floyd_assert_changes.specs.ApartClauses.{named_from, whole_names}
use Rattle.floyd_assert_changes.specs.Changed.{below_existentials, terms_in}
use Rattle.floyd_assert_changes.specs.ChangesClauses.{IsStill, changes_of}
use Rattle.floyd_assert_changes.proofs.SetApart.{AreNames, are_names, existentials_are, formulas_agree, terms_agree, told_apart}
use Rattle.floyd_assert_changes.proofs.apart.apart_after.Goals as goal

pub body_after-requires-clause-props : goal.body_after-requires-clause-props
body_after-requires-clause-props g c =
    let here = ap changes_of c.as_slice-3.ensures.value ∙ c.in_ok-inside.ensures in
    formulas_agree (changes_of c.as_slice-3.result.now) (subst AreNames (sym here) (are_names c.as_slice-old.result.now c.as_slice.result.now)) (formulas c.args.a.now.props)

pub body_after-requires-clause-terms : goal.body_after-requires-clause-terms
body_after-requires-clause-terms g c =
    let here = ap changes_of c.as_slice-3.ensures.value ∙ c.in_ok-inside.ensures in
    terms_agree (changes_of c.as_slice-3.result.now) (subst AreNames (sym here) (are_names c.as_slice-old.result.now c.as_slice.result.now)) (plains (terms_in c.args.a.now))

pub body_after-requires-clause-still : goal.body_after-requires-clause-still
body_after-requires-clause-still g c =
    subst (IsStill c.existential_bits-bits.result)
    (ap (λ new. below_existentials [] c.as_slice-old.result.now new) (c.as_slice-2.ensures.value ∙ sym c.as_slice.ensures.value) ∙ sym (ap changes_of c.as_slice-3.ensures.value ∙ c.in_ok-inside.ensures))
    (c.existential_bits-bits.ensures [] (λ v e. tt))

pub returns : goal.returns
returns g c =
    let a = c.args.a.now in
    let avoid = c.args.avoid.now in
    let here =
    ap changes_of c.as_slice-3.ensures.value
    ∙ c.in_ok-inside.ensures
    ∙ ap (λ bs. below_existentials [] bs c.as_slice.result.now) c.as_slice-old.ensures
    ∙ ap (below_existentials [] a.existentials) (c.as_slice.ensures.value ∙ sym c.from_vec.ensures) in
    let new =
    c.from_vec.ensures
    ∙ c.in_ok-new.ensures.value
    ∙ ap (λ ns. named_from avoid ns c.as_slice-old.result.now) (c.in_ok-taken.ensures ∙ ap (whole_names a) c.requires)
    ∙ ap (named_from avoid (whole_names a avoid)) c.as_slice-old.ensures
    ∙ existentials_are avoid a in
    let told =
    told_apart c.body_after.result avoid a (changes_of c.as_slice-3.result.now) c.from_vec.result here new (c.body_after.ensures.ok, c.body_after.ensures.fits, c.body_after.ensures.err) in
    record { ok = told.0; fits = told.1; err = told.2 }
