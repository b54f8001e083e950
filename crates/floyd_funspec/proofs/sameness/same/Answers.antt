use Rattle.std.proofs.Common.{[], sym, ◌∙◌, subst}
use Rattle.floyd_funspec.specs.SameClauses.{PostsSame, PresSame, TypesSame}
use Rattle.floyd_funspec.proofs.Wholes.{from_parts, heads_of, inside_lists, posts_of, pres_of, types_of}
use Rattle.floyd_funspec.proofs.sameness.same.Goals as goal

pub returns-then-not-heads_same : goal.returns-then-not-heads_same
returns-then-not-heads_same c = (λ w. absurd cc, λ h. sym c.if-not-heads_same.true ∙ c.heads_same.ensures.1 (heads_of c.args.a.now c.args.b.now h))

pub returns-then-not-signatures_same : goal.returns-then-not-signatures_same
returns-then-not-signatures_same c =
    let s = c.args.a.now in
    let t = c.args.b.now in
    let here = inside_lists c.as_slice.result.now c.as_slice-2.result.now s.with t.with [] c.as_slice.ensures c.as_slice-2.ensures in
    (λ w. absurd cc, λ h. sym c.if-not-signatures_same.true ∙ c.signatures_same.ensures.1 (subst (λ bs. TypesSame bs s t) (sym here) (types_of s t h)))

pub returns-then-not-pres_same : goal.returns-then-not-pres_same
returns-then-not-pres_same c =
    let s = c.args.a.now in
    let t = c.args.b.now in
    let here = inside_lists c.as_slice.result.now c.as_slice-2.result.now s.with t.with [] c.as_slice.ensures c.as_slice-2.ensures in
    (λ w. absurd cc, λ h. sym c.if-not-pres_same.true ∙ c.pres_same.ensures.1 (subst (λ bs. PresSame bs s.pre t.pre) (sym here) (pres_of s t h)))

pub returns : goal.returns
returns c =
    let s = c.args.a.now in
    let t = c.args.b.now in
    let here = inside_lists c.as_slice.result.now c.as_slice-2.result.now s.with t.with [] c.as_slice.ensures c.as_slice-2.ensures in (
      λ w. from_parts s t (c.heads_same.ensures.0 c.if-not-heads_same.false)
          (subst (λ bs. TypesSame bs s t) here (c.signatures_same.ensures.0 c.if-not-signatures_same.false))
          (subst (λ bs. PresSame bs s.pre t.pre) here (c.pres_same.ensures.0 c.if-not-pres_same.false))
          (subst (λ bs. PostsSame bs s.post t.post) here (c.posts_same.ensures.0 w)),
      λ h. c.posts_same.ensures.1 (subst (λ bs. PostsSame bs s.post t.post) (sym here) (posts_of s t h)),
    )
