-- Two specifications are the same where their parts are.
use Rattle.std.proofs.Common.{◌≡◌, ◌↔◌, IsTrue, Bool, List, sym, ◌∙◌, ap, subst}
use Rattle.floyd_truth.specs.Same.{Binders}
use Rattle.floyd_assert.specs.AroundClauses.{inside}
use Rattle.floyd_assert_trees.specs.declared.binder.Binder.{Binder}
use Rattle.floyd_assert_trees.specs.declared.spec.Funspec.{Funspec}
use Rattle.floyd_assert_trees.specs.declared.spec.Postcondition.{Postcondition}
use Rattle.floyd_assert_meaning.specs.Same.{SameFunspec, with_binders, withs}
use Rattle.floyd_assert_meaning.specs.Settings.{binder_sorts}
use Rattle.floyd_funspec.specs.SameClauses.{EndsSame, HeadsSame, PostsSame, PresSame, TypesSame}
use Rattle.floyd_funspec.proofs.Pairs.{inside_is}

pub from_parts : (s t : Funspec) → HeadsSame s t → TypesSame (withs s t) s t → PresSame (withs s t) s.pre t.pre → PostsSame (withs s t) s.post t.post → SameFunspec s t
from_parts s t h ts pre post = record {
  name = h.0;
  with_sorts = h.1;
  params = ts.0;
  result = ts.1;
  pre_props = pre.0;
  pre_params = pre.1;
  pre_parts = pre.2;
  post_sorts = post.0;
  post_props = post.1.0;
  value = post.1.1;
  post_parts = post.1.2;
}

pub heads_of : (s t : Funspec) → SameFunspec s t → HeadsSame s t
heads_of s t h = (h.name, h.with_sorts)

pub types_of : (s t : Funspec) → SameFunspec s t → TypesSame (withs s t) s t
types_of s t h = (h.params, h.result)

pub pres_of : (s t : Funspec) → SameFunspec s t → PresSame (withs s t) s.pre t.pre
pres_of s t h = (h.pre_props, h.pre_params, h.pre_parts)

pub posts_of : (s t : Funspec) → SameFunspec s t → PostsSame (withs s t) s.post t.post
posts_of s t h = (h.post_sorts, (h.post_props, h.value, h.post_parts))

-- the binders around, as the program has them
pub inside_lists : (l m left right : List Binder) (around : Binders) → l ≡ left → m ≡ right → inside l m around ≡ with_binders around left right
inside_lists l m left right around e f = inside_is l m around ∙ ap (λ bs. with_binders around bs m) e ∙ ap (with_binders around left) f

-- below existentials of the same sorts
pub posts_are : (a b : Postcondition) (around : Binders) (l m : List Binder) (r s : Bool) → l ≡ a.existentials → m ≡ b.existentials → IsTrue r → (IsTrue r ↔ (binder_sorts l ≡ binder_sorts m)) → (IsTrue s ↔ EndsSame (inside l m around) a b) → (IsTrue s ↔ PostsSame around a b)
posts_are a b around l m r s e f h sorts ends =
    let here = inside_lists l m a.existentials b.existentials around e f in (
      λ w. (sym (ap binder_sorts e) ∙ sorts.0 h ∙ ap binder_sorts f, subst (λ bs. EndsSame bs a b) here (ends.0 w)),
      λ p. ends.1 (subst (λ bs. EndsSame bs a b) (sym here) p.1),
    )
