-- Assertions that are well formed over what a proof stands on.
use Rattle.std.specs.Prelude.{◌≡◌, ℕ, List, ◌++◌, map, Some, bytes_eq}
use Rattle.std.specs.List.{AllByRecursion}
use Rattle.std.specs.Map.{lookup}
use Rattle.floyd_tree_sorts.specs.declared.shape.Shape.{Shape, Struct}
use Rattle.floyd_tree_sorts.specs.declared.sorts.Sort.{Sort, Z, Val}
use Rattle.floyd_tree.specs.declared.paths.PathStep.{PathStep}
use Rattle.floyd_tree.specs.declared.paths.PathStep.TheVariants.{Field, Subscript}
use Rattle.floyd_tree.specs.Plain.{Plain}
use Rattle.floyd_tree.specs.Types.{SizedType}
use Rattle.floyd_tree_values.specs.Defaults.{value_sort}
use Rattle.floyd_tree_values.specs.Rules.{AreDistinct, Scope}
use Rattle.floyd_assert_trees.specs.declared.assertion.Assertion.{Assertion}
use Rattle.floyd_assert_trees.specs.declared.assertion.Local.{Local}
use Rattle.floyd_assert_trees.specs.declared.binder.Binder.{Binder}
use Rattle.floyd_assert_trees.specs.declared.items.Defs.{Defs}
use Rattle.floyd_assert_trees.specs.declared.items.Pred.{Pred}
use Rattle.floyd_assert_trees.specs.declared.sep.Region.{Region}
use Rattle.floyd_assert_trees.specs.declared.sep.Sep.{Sep}
use Rattle.floyd_assert_trees.specs.declared.sep.Sep.TheVariants.{FieldAt, Padding, Valid, Anything, Predicate}
use Rattle.floyd_assert_trees.specs.declared.spec.SpecTable.{SpecTable}
use Rattle.floyd_fieldpath.specs.Nested.{type_at}
use Rattle.floyd_goal_forms.specs.Terms.{FormulasFit, names_with, scope_with, TermFits, TermsFit, TypeFits}

-- which calls of predicates may stand in a part: by name and arguments
abbrev pub Predicates : Type 1
Predicates = List ℕ → List Plain → Type 0

abbrev pub StepFits : Defs → Scope → PathStep → Type 0
StepFits defs scope (Field x) = Unit {0}
StepFits defs scope (Subscript t) = TermFits defs scope Z t

-- a place: a share, a type with a value sort, a path that has a type in it, and a root
pub record RegionFits (defs : Defs) (scope : Scope) (r : Region) : Type 0 where
  pub share : TermFits defs scope Z r.share
  pub type : TypeFits defs scope r.ty
  pub steps : AllByRecursion (StepFits defs scope) r.path
  pub nested : SizedType
  pub at : type_at defs.structs r.ty r.path ≡ Some nested
  pub root : TermFits defs scope Val r.root

abbrev pub IsStruct : Shape → Type 0
IsStruct (Struct tag) = Unit {0}
IsStruct shape = ⊥

-- the value has the value sort of the type at the path
pub record ObjectFits (defs : Defs) (scope : Scope) (r : Region) (value : Plain) : Type 0 where
  pub region : RegionFits defs scope r
  pub sort : Sort
  pub is : value_sort defs.structs region.nested.shape ≡ Some sort
  pub term : TermFits defs scope sort value

module _ (defs : Defs) (scope : Scope) (preds : Predicates) where
  abbrev pub PartFits : Sep → Type 0
  PartFits (FieldAt r value) = ObjectFits defs scope r value
  PartFits (Padding r) = (fits : RegionFits defs scope r) × IsStruct fits.nested.shape
  PartFits (Valid address) = TermFits defs scope Val address
  PartFits Anything = Unit {0}
  PartFits (Predicate name terms) = preds name terms

  abbrev pub PartsFit : List Sep → Type 0
  PartsFit parts = AllByRecursion PartFits parts

-- a call of one of the PREDs, with terms of the sorts of its arguments
abbrev pub PredicatesOf : Defs → Scope → Predicates
PredicatesOf defs scope name terms =
    (p : Pred) × (lookup (bytes_eq name) defs.preds ≡ Some p) × TermsFit defs scope (map (λ (b : Binder). b.sort) p.arguments) terms

abbrev pub locals_of : Assertion → List (List ℕ)
locals_of a = map (λ (l : Local). l.name) a.locals

-- below the existentials, whose names are distinct
abbrev pub inner_scope : Assertion → Scope → Scope
inner_scope a scope = scope_with a.existentials ++ scope

-- The names of the existentials are distinct, and so are those of the temporaries, and each formula, term and part is well
-- formed. `preds` gives the calls of predicates that may stand in a scope.
pub record AssertionFitsBy (defs : Defs) (specs : SpecTable) (preds : Scope → Predicates) (scope : Scope) (a : Assertion) : Type 0 where
  pub existentials : AreDistinct (names_with a.existentials)
  pub props : FormulasFit defs specs (inner_scope a scope) a.props
  pub temporaries : AreDistinct (locals_of a)
  pub locals : AllByRecursion (λ (l : Local). TermFits defs (inner_scope a scope) Val l.term) a.locals
  pub parts : PartsFit defs (inner_scope a scope) (preds (inner_scope a scope)) a.parts

abbrev pub AssertionFits : Defs → SpecTable → Scope → Assertion → Type 0
AssertionFits defs specs scope a = AssertionFitsBy defs specs (PredicatesOf defs) scope a
