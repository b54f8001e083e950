use Rattle.std.proofs.Common.{◌∙◌, ap, sym, arith}
use Rattle.floyd_tree.proofs.Heights.{height_at, heights_below}
use Rattle.floyd_tree.specs.Plain.{height, heights, plains}
use Rattle.floyd_assert.proofs.SameParts.{term_by_parts, terms_as_many, terms_next, terms_there}
use Rattle.floyd_assert.proofs.equality.+terms.Goals as goal

pub same_term-same_terms-requires : goal.same_term-same_terms-requires
same_term-same_terms-requires t c =
    (omega (arith, heights_below c.args.a.now, ap (λ ts. heights (plains ts)) (c.as_slice.ensures ∙ c.kids.ensures.value), c.decreases), tt)

pub same_term-returns-then-same_head : goal.same_term-returns-then-same_head
same_term-returns-then-same_head t c =
    term_by_parts _ c.args.a.now c.args.b.now c.head.result.now c.head-2.result.now c.as_slice.result.now c.as_slice-then-same_head.result.now c.same_terms.result
    c.head.ensures c.head-2.ensures (c.as_slice.ensures ∙ c.kids.ensures.value) (c.as_slice-then-same_head.ensures ∙ c.kids-then-same_head.ensures.value)
    (c.same_head.ensures.0 c.if-same_head.true) c.same_terms.ensures

pub same_terms-returns-then-a-b : goal.same_terms-returns-then-a-b
same_terms-returns-then-a-b t c = (λ w. absurd cc, λ h. absurd (c.if-a-b.true (terms_as_many _ c.args.a.now c.args.b.now h)))

pub same_terms-same_term-requires : goal.same_terms-same_term-requires
same_terms-same_term-requires t c =
    (omega (arith, height_at c.args.a.now c.terms.i c.index-a-i.result c.terms-test.true, ap height c.index-a-i.is, c.decreases), tt)

pub same_terms-returns-then-not-same_term : goal.same_terms-returns-then-not-same_term
same_terms-returns-then-not-same_term t c = (
  λ w. absurd cc,
  λ h. sym c.if-not-same_term.true ∙ c.same_term.ensures.1 (terms_there _ c.args.a.now c.args.b.now c.terms.i _ _ c.index-a-i.is c.index-b-i.is c.terms-test.true h),
)

pub same_terms-terms-preserved : goal.same_terms-terms-preserved
same_terms-terms-preserved t c = (
  c.terms.invariant.0,
  terms_next _ c.args.a.now c.args.b.now c.terms.i _ _ c.index-a-i.is c.index-b-i.is c.terms-test.true c.terms.invariant.0 c.terms.invariant.1 (c.same_term.ensures.0 c.if-not-same_term.false),
)
