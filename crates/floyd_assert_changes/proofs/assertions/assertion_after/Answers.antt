use Rattle.std.proofs.Common.{sym, ◌∙◌, ap, subst}
use Rattle.floyd_tree.specs.Formulas.{formulas}
use Rattle.floyd_tree.specs.Plain.{plains}
use Rattle.floyd_truth.specs.Replace.{AllSortsAgree, FormulasSortsAgree}
use Rattle.floyd_assert_changes.specs.Changed.{below_existentials, terms_in}
use Rattle.floyd_assert_changes.specs.ChangesClauses.{IsStill, changes_of}
use Rattle.floyd_assert_changes.proofs.Existentials.{assertion_told, inside_is}
use Rattle.floyd_assert_changes.proofs.assertions.assertion_after.Goals as goal

pub body_after-requires-clause-props : goal.body_after-requires-clause-props
body_after-requires-clause-props g c =
    let ch = changes_of c.args.by.now in
    let a = c.args.a.now in
    let here = inside_is ch (changes_of c.as_slice-3.result.now) a c.as_slice-old.result.now c.as_slice.result.now (ap changes_of c.as_slice-3.ensures.value ∙ c.in_ok-inside.ensures) c.as_slice-old.ensures (c.as_slice.ensures.value ∙ c.in_ok-new.ensures.value) in
    subst (λ d. FormulasSortsAgree d (formulas a.props)) (sym here) c.requires.sorts.0

pub body_after-requires-clause-terms : goal.body_after-requires-clause-terms
body_after-requires-clause-terms g c =
    let ch = changes_of c.args.by.now in
    let a = c.args.a.now in
    let here = inside_is ch (changes_of c.as_slice-3.result.now) a c.as_slice-old.result.now c.as_slice.result.now (ap changes_of c.as_slice-3.ensures.value ∙ c.in_ok-inside.ensures) c.as_slice-old.ensures (c.as_slice.ensures.value ∙ c.in_ok-new.ensures.value) in
    subst (λ d. AllSortsAgree d (plains (terms_in a))) (sym here) c.requires.sorts.1

pub body_after-requires-clause-still : goal.body_after-requires-clause-still
body_after-requires-clause-still g c =
    let ch = changes_of c.args.by.now in
    subst (IsStill c.existential_bits-bits.result)
    (ap (λ new. below_existentials ch c.as_slice-old.result.now new) (c.as_slice-2.ensures.value ∙ sym c.as_slice.ensures.value) ∙ sym (ap changes_of c.as_slice-3.ensures.value ∙ c.in_ok-inside.ensures))
    (c.existential_bits-bits.ensures ch c.requires.still)

pub returns : goal.returns
returns g c =
    let ch = changes_of c.args.by.now in
    let a = c.args.a.now in
    let here = inside_is ch (changes_of c.as_slice-3.result.now) a c.as_slice-old.result.now c.as_slice.result.now (ap changes_of c.as_slice-3.ensures.value ∙ c.in_ok-inside.ensures) c.as_slice-old.ensures (c.as_slice.ensures.value ∙ c.in_ok-new.ensures.value) in
    let told =
    assertion_told c.body_after.result ch (changes_of c.as_slice-3.result.now) a c.from_vec.result here (c.from_vec.ensures ∙ c.in_ok-new.ensures.value) (c.body_after.ensures.ok, c.body_after.ensures.fits, c.body_after.ensures.err) in
    record { ok = told.0; fits = told.1; err = told.2 }
