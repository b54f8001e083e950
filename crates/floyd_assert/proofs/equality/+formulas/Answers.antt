use Rattle.std.proofs.Common.{◌∙◌, ap, sym, arith}
use Rattle.floyd_tree.proofs.FormulaLemmas.{formula_height_at, formulas_below}
use Rattle.floyd_tree.specs.Formulas.{formula_height, formula_heights, formulas}
use Rattle.floyd_assert.proofs.SameParts.{formula_by_parts, formulas_as_many, formulas_next, formulas_there, forms_same, terms_same}
use Rattle.floyd_assert.proofs.equality.+formulas.Goals as goal

pub all_same-returns-then-a-b : goal.all_same-returns-then-a-b
all_same-returns-then-a-b t c = (λ w. absurd cc, λ h. absurd (c.if-a-b.true (formulas_as_many _ c.args.a.now c.args.b.now h)))

pub all_same-same_under-requires : goal.all_same-same_under-requires
all_same-same_under-requires t c =
    (omega (arith, formula_height_at c.args.a.now c.formulas.i c.index-a-i.result c.formulas-test.true, ap formula_height c.index-a-i.is, c.decreases), tt)

pub all_same-returns-then-not-same_under : goal.all_same-returns-then-not-same_under
all_same-returns-then-not-same_under t c = (
  λ w. absurd cc,
  λ h. sym c.if-not-same_under.true ∙ c.same_under.ensures.1 (formulas_there _ c.args.a.now c.args.b.now c.formulas.i _ _ c.index-a-i.is c.index-b-i.is c.formulas-test.true h),
)

pub all_same-formulas-preserved : goal.all_same-formulas-preserved
all_same-formulas-preserved t c = (
  c.formulas.invariant.0,
  formulas_next _ c.args.a.now c.args.b.now c.formulas.i _ _ c.index-a-i.is c.index-b-i.is c.formulas-test.true c.formulas.invariant.0 c.formulas.invariant.1 (c.same_under.ensures.0 c.if-not-same_under.false),
)

pub same_under-returns-then-not-same_form : goal.same_under-returns-then-not-same_form
same_under-returns-then-not-same_form t c =
    (λ w. absurd cc, λ h. sym c.if-not-same_form.true ∙ c.same_form.ensures.1 (forms_same _ c.args.a.now c.args.b.now _ _ c.formula_head-left.ensures c.formula_head-right.ensures h))

pub same_under-returns-then-not-same_terms : goal.same_under-returns-then-not-same_terms
same_under-returns-then-not-same_terms t c = (
  λ w. absurd cc,
  λ h. sym c.if-not-same_terms.true ∙ c.same_terms.ensures.1 (terms_same _ c.args.a.now c.args.b.now _ _ (c.as_slice.ensures ∙ c.formula_terms.ensures) (c.as_slice-2.ensures ∙ c.formula_terms-2.ensures) h),
)

pub same_under-all_same-requires : goal.same_under-all_same-requires
same_under-all_same-requires t c =
    (omega (arith, formulas_below c.args.a.now, ap (λ fs. formula_heights (formulas fs)) (c.as_slice-3.ensures ∙ c.formula_kids.ensures), c.decreases), tt)

pub same_under-returns : goal.same_under-returns
same_under-returns t c =
    formula_by_parts _ _ c.args.a.now c.args.b.now _ _ _ _ _ _ c.all_same.result
    c.formula_head-left.ensures c.formula_head-right.ensures
    (c.as_slice.ensures ∙ c.formula_terms.ensures) (c.as_slice-2.ensures ∙ c.formula_terms-2.ensures)
    (c.as_slice-3.ensures ∙ c.formula_kids.ensures) (c.as_slice-4.ensures ∙ c.formula_kids-2.ensures)
    c.below-around.ensures (c.same_form.ensures.0 c.if-not-same_form.false) (c.same_terms.ensures.0 c.if-not-same_terms.false) c.all_same.ensures
