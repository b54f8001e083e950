-- Equality of assertions and of specifications up to the names that are bound: existentials and the variables of WITH.
use Rattle.std.specs.Prelude.{◌≡◌, List, [], ◌∷◌, Option, Some, None}
use Rattle.floyd_tree.specs.declared.paths.PathStep.{PathStep}
use Rattle.floyd_tree.specs.declared.paths.PathStep.TheVariants.{Field, Subscript}
use Rattle.floyd_tree.specs.Plain.{Plain}
use Rattle.floyd_tree.specs.Types.{SizedType}
use Rattle.floyd_truth.specs.Same.{Binders, SameTerm, SameUnder}
use Rattle.floyd_assert_trees.specs.declared.assertion.Assertion.{Assertion}
use Rattle.floyd_assert_trees.specs.declared.assertion.Local.{Local}
use Rattle.floyd_assert_trees.specs.declared.binder.Binder.{Binder}
use Rattle.floyd_assert_trees.specs.declared.sep.Region.{Region}
use Rattle.floyd_assert_trees.specs.declared.sep.Sep.{Sep}
use Rattle.floyd_assert_trees.specs.declared.sep.Sep.TheVariants.{FieldAt, Padding, Valid, Anything, Predicate}
use Rattle.floyd_assert_trees.specs.declared.spec.Funspec.{Funspec}
use Rattle.floyd_assert_meaning.specs.Settings.{binder_sorts}

-- two lists, one by one
abbrev pub Pairwise : {A : Type 0} → (A → A → Type 0) → List A → List A → Type 0
Pairwise R [] [] = Unit {0}
Pairwise R [] (y ∷ ys) = ⊥
Pairwise R (x ∷ xs) [] = ⊥
Pairwise R (x ∷ xs) (y ∷ ys) = R x y × Pairwise R xs ys

-- R of the terms at the same places, and all else equal
module _ (R : Plain → Plain → Type 0) where
  abbrev pub StepsAgree : PathStep → PathStep → Type 0
  StepsAgree (Field x) (Field y) = x ≡ y
  StepsAgree (Field x) (Subscript u) = ⊥
  StepsAgree (Subscript t) (Field y) = ⊥
  StepsAgree (Subscript t) (Subscript u) = R t u

  pub record TypesAgree (t u : SizedType) : Type 0 where
    pub shape : t.shape ≡ u.shape
    pub sizes : Pairwise R t.sizes u.sizes

  pub record RegionsAgree (r s : Region) : Type 0 where
    pub share : R r.share s.share
    pub type : TypesAgree r.ty s.ty
    pub path : Pairwise StepsAgree r.path s.path
    pub root : R r.root s.root

  abbrev pub PartsAgree : Sep → Sep → Type 0
  PartsAgree (FieldAt r t) (FieldAt s u) = RegionsAgree r s × R t u
  PartsAgree (Padding r) (Padding s) = RegionsAgree r s
  PartsAgree (Valid t) (Valid u) = R t u
  PartsAgree Anything Anything = Unit {0}
  PartsAgree (Predicate x ts) (Predicate y us) = (x ≡ y) × Pairwise R ts us
  PartsAgree p q = ⊥

abbrev pub SameType : Binders → SizedType → SizedType → Type 0
SameType around t u = TypesAgree (SameTerm around) t u

abbrev pub SamePart : Binders → Sep → Sep → Type 0
SamePart around p q = PartsAgree (SameTerm around) p q

abbrev pub SameLocal : Binders → Local → Local → Type 0
SameLocal around l m = (l.name ≡ m.name) × SameTerm around l.term m.term

-- binders of two lists, one by one, the last one innermost
abbrev pub with_binders : Binders → List Binder → List Binder → Binders
with_binders around [] cs = around
with_binders around (b ∷ bs) [] = around
with_binders around (b ∷ bs) (c ∷ cs) = with_binders ((b.name, c.name) ∷ around) bs cs

pub record SameAssertion (around : Binders) (a b : Assertion) : Type 0 where
  pub sorts : binder_sorts a.existentials ≡ binder_sorts b.existentials
  pub props : Pairwise (SameUnder (with_binders around a.existentials b.existentials)) a.props b.props
  pub locals : Pairwise (SameLocal (with_binders around a.existentials b.existentials)) a.locals b.locals
  pub parts : Pairwise (SamePart (with_binders around a.existentials b.existentials)) a.parts b.parts

abbrev pub SameOption : Binders → Option Plain → Option Plain → Type 0
SameOption around None None = Unit {0}
SameOption around (Some t) (Some u) = SameTerm around t u
SameOption around a b = ⊥

-- inside the variables of WITH
abbrev pub withs : Funspec → Funspec → Binders
withs s t = with_binders [] s.with t.with

-- and inside the existentials of the postcondition
abbrev pub posts : Funspec → Funspec → Binders
posts s t = with_binders (withs s t) s.post.existentials t.post.existentials

-- Both carry the name of one SPEC, or of none. GLOBALS is not compared.
pub record SameFunspec (s t : Funspec) : Type 0 where
  pub name : s.name ≡ t.name
  pub with_sorts : binder_sorts s.with ≡ binder_sorts t.with
  pub params : Pairwise (SameType (withs s t)) s.params t.params
  pub result : SameType (withs s t) s.result t.result
  pub pre_props : Pairwise (SameUnder (withs s t)) s.pre.props t.pre.props
  pub pre_params : Pairwise (SameTerm (withs s t)) s.pre.params t.pre.params
  pub pre_parts : Pairwise (SamePart (withs s t)) s.pre.parts t.pre.parts
  pub post_sorts : binder_sorts s.post.existentials ≡ binder_sorts t.post.existentials
  pub post_props : Pairwise (SameUnder (posts s t)) s.post.props t.post.props
  pub value : SameOption (posts s t) s.post.value t.post.value
  pub post_parts : Pairwise (SamePart (posts s t)) s.post.parts t.post.parts
