-- Items of specification files that are well formed: PREDs, lemmas and specifications. None speaks of a local variable of a
-- function, so that it means the same wherever it is used.
use Rattle.std.specs.Prelude.{◌≡◌, ◌⊎◌, ℕ, false, ◌||◌, Bool, List, [], ◌∷◌, ◌++◌, map, Option, Some, None, bytes_eq}
use Rattle.std.specs.List.{All, AllByRecursion, flat_map}
use Rattle.std.specs.Map.{lookup}
use Rattle.floyd_tree_sorts.specs.declared.heads.Head.TheVariants.{Variable}
use Rattle.floyd_tree_sorts.specs.declared.shape.Shape.{Shape, Void}
use Rattle.floyd_tree_sorts.specs.declared.sorts.Sort.{Sort, Val, ListOf', TreeOf', more_of-Sort, end_of-Sort}
use Rattle.floyd_tree_sorts.specs.Sorts.{list_sort, tree_sort}
use Rattle.floyd_tree.specs.Formulas.{formulas}
use Rattle.floyd_tree.specs.Locals.{have_local, formulas_have_local}
use Rattle.floyd_tree.specs.Plain.{Plain, At, Done, plains}
use Rattle.floyd_tree.specs.Types.{SizedType}
use Rattle.floyd_tree_values.specs.Rules.{AreDistinct, Constructor, IsOneOf, NamesDiffer, OfCons, OfLeaf, OfNil, OfNode, Scope, constructor_of, pattern_scope, smaller}
use Rattle.floyd_assert_trees.specs.declared.assertion.Assertion.{Assertion}
use Rattle.floyd_assert_trees.specs.declared.binder.Binder.{Binder}
use Rattle.floyd_assert_trees.specs.declared.items.Defs.{Defs}
use Rattle.floyd_assert_trees.specs.declared.items.Lemma.{Lemma}
use Rattle.floyd_assert_trees.specs.declared.items.Pred.{Pred}
use Rattle.floyd_assert_trees.specs.declared.items.PredBody.{PredBody}
use Rattle.floyd_assert_trees.specs.declared.items.PredBody.TheVariants.{Whole, Cases}
use Rattle.floyd_assert_trees.specs.declared.items.PredCase.{PredCase}
use Rattle.floyd_assert_trees.specs.declared.spec.Funspec.{Funspec}
use Rattle.floyd_assert_trees.specs.declared.spec.Postcondition.{Postcondition}
use Rattle.floyd_assert_trees.specs.declared.spec.Precondition.{Precondition}
use Rattle.floyd_assert_trees.specs.declared.spec.SpecTable.{SpecTable}
use Rattle.floyd_assert_trees.specs.Meanings.{pattern_of, value_defs}
use Rattle.floyd_assert_changes.specs.Changed.{part_terms}
use Rattle.floyd_assert_laws.specs.Bare.{assertion_has_local, post_has_local}
use Rattle.floyd_tree_values.specs.Rules as rules
use Rattle.floyd_goal_forms.specs.Assertions.{AssertionFits, AssertionFitsBy, Predicates, PredicatesOf, PartsFit}
use Rattle.floyd_goal_forms.specs.Terms.{FormulasFit, names_with, scope_with, SizesFit, TermFits, TermsFit}

-- an assertion of an item: without LOCAL, and of no local variable
pub record ItemAssertion (a : Assertion) : Type 0 where
  pub locals : a.locals ≡ []
  pub no_local : assertion_has_local a ≡ false

-- ---- PREDs

abbrev pub sorts_with : List Binder → List Sort
sorts_with binders = map (λ (b : Binder). b.sort) binders

-- a call of one of the PREDs before, with arguments of its sorts
abbrev pub CallsBefore : Defs → List (List ℕ × Pred) → Scope → Predicates
CallsBefore defs before scope name terms = (p : Pred) × (lookup (bytes_eq name) before ≡ Some p) × TermsFit defs scope (sorts_with p.arguments) terms

-- the first argument is one of these variables
abbrev pub BeginsWith : List (List ℕ) → List Plain → Type 0
BeginsWith names (At (Variable x s) Done ∷ more) = IsOneOf names x
BeginsWith names terms = ⊥

-- a call of the PRED itself on a part of its first argument
abbrev pub CallsItself : Defs → List ℕ → Pred → List (List ℕ) → Scope → Predicates
CallsItself defs own p parts scope name terms = (name ≡ own) × TermsFit defs scope (sorts_with p.arguments) terms × BeginsWith parts terms

abbrev pub CallsFrom : Defs → List (List ℕ × Pred) → List ℕ → Pred → List (List ℕ) → Scope → Predicates
CallsFrom defs before own p parts scope name terms = CallsBefore defs before scope name terms ⊎ CallsItself defs own p parts scope name terms

module _ (defs : Defs) (specs : SpecTable) (before : List (List ℕ × Pred)) (own : List ℕ) (p : Pred) where
  pub record BodyFits (parts : List (List ℕ)) (scope : Scope) (a : Assertion) : Type 0 where
    pub item : ItemAssertion a
    pub fits : AssertionFitsBy defs specs (CallsFrom defs before own p parts) scope a

  -- a case, where the first argument is of sort s with items of sort `item`
  pub record CaseFits (s item : Sort) (c : PredCase) : Type 0 where
    pub names : NamesDiffer (pattern_of c.pattern)
    pub body : BodyFits (smaller (pattern_of c.pattern)) (pattern_scope (pattern_of c.pattern) s item ++ scope_with p.arguments) c.body

  abbrev pub constructors : List PredCase → List Constructor
  constructors cases = map (λ (c : PredCase). constructor_of (pattern_of c.pattern)) cases

  -- one case for each of both constructors, in either order
  abbrev pub OneEach : Constructor → Constructor → List PredCase → Type 0
  OneEach a b cases = (constructors cases ≡ a ∷ b ∷ []) ⊎ (constructors cases ≡ b ∷ a ∷ [])

  abbrev pub CasesFit : Sort → List PredCase → Type 0
  CasesFit (ListOf' q (more_of-Sort item end_of-Sort)) cases = OneEach OfNil OfCons cases × AllByRecursion (CaseFits (list_sort item) item) cases
  CasesFit (TreeOf' q (more_of-Sort item end_of-Sort)) cases = OneEach OfLeaf OfNode cases × AllByRecursion (CaseFits (tree_sort item) item) cases
  CasesFit s cases = ⊥

  abbrev pub FirstFits : List Binder → List PredCase → Type 0
  FirstFits [] cases = ⊥
  FirstFits (b ∷ arguments) cases = CasesFit b.sort cases

  abbrev pub PredBodyFits : PredBody → Type 0
  PredBodyFits (Whole a) = BodyFits [] (scope_with p.arguments) a
  PredBodyFits (Cases cases) = FirstFits p.arguments cases

  -- its name is new, its arguments have names of their own, and its body calls the PREDs before it, and in its cases itself
  -- on a part of its first argument
  pub record PredFits : Type 0 where
    pub name : lookup (bytes_eq own) before ≡ None
    pub arguments : AreDistinct (names_with p.arguments)
    pub body : PredBodyFits p.body

abbrev pub PredsFit : Defs → SpecTable → List (List ℕ × Pred) → List (List ℕ × Pred) → Type 0
PredsFit defs specs before [] = Unit {0}
PredsFit defs specs before (p ∷ preds) = PredFits defs specs before p.0 p.1 × PredsFit defs specs (before ++ p ∷ []) preds

-- ---- lemmas

-- the variables of WITH have names of their own; the left side has no existentials
pub record LemmaFits (defs : Defs) (specs : SpecTable) (l : Lemma) : Type 0 where
  pub with : AreDistinct (names_with l.with)
  pub none : l.left.existentials ≡ []
  pub left_item : ItemAssertion l.left
  pub right_item : ItemAssertion l.right
  pub left : AssertionFits defs specs (scope_with l.with) l.left
  pub right : AssertionFits defs specs (scope_with l.with) l.right

-- ---- specifications

abbrev pub ValueFits : Defs → Scope → Shape → Option Plain → Type 0
ValueFits defs scope Void None = Unit {0}
ValueFits defs scope Void (Some t) = ⊥
ValueFits defs scope shape None = ⊥
ValueFits defs scope shape (Some t) = TermFits defs scope Val t

-- one term of PARAMS for each type
pub record PreFits (defs : Defs) (specs : SpecTable) (scope : Scope) (params : List SizedType) (pre : Precondition) : Type 0 where
  pub props : FormulasFit defs specs scope pre.props
  pub terms : TermsFit defs scope (map (λ t. Val) params) pre.params
  pub parts : PartsFit defs scope (PredicatesOf defs scope) pre.parts

abbrev pub post_scope : Postcondition → Scope → Scope
post_scope post scope = scope_with post.existentials ++ scope

-- a term of RETURN exactly where the result is not void
pub record PostFits (defs : Defs) (specs : SpecTable) (scope : Scope) (result : SizedType) (post : Postcondition) : Type 0 where
  pub existentials : AreDistinct (names_with post.existentials)
  pub props : FormulasFit defs specs (post_scope post scope) post.props
  pub value : ValueFits defs (post_scope post scope) result.shape post.value
  pub parts : PartsFit defs (post_scope post scope) (PredicatesOf defs (post_scope post scope)) post.parts

abbrev pub spec_has_local : Funspec → Bool
spec_has_local s =
    (formulas_have_local (formulas s.pre.props) || have_local (plains (s.pre.params ++ flat_map part_terms s.pre.parts))) || post_has_local s.post

pub record FunspecFits (defs : Defs) (specs : SpecTable) (s : Funspec) : Type 0 where
  pub with : AreDistinct (names_with s.with)
  pub params : AllByRecursion (SizesFit defs (scope_with s.with)) s.params
  pub result : SizesFit defs (scope_with s.with) s.result
  pub pre : PreFits defs specs (scope_with s.with) s.params s.pre
  pub post : PostFits defs specs (scope_with s.with) s.result s.post
  pub no_local : spec_has_local s ≡ false

-- ---- all items

-- each item of what a module's proofs stand on is well formed over it
pub record ItemsFit (defs : Defs) (specs : SpecTable) : Type 0 where
  pub funs : rules.DefsKeep (value_defs defs)
  pub preds : PredsFit defs specs [] defs.preds
  pub lemmas : AllByRecursion (λ l. LemmaFits defs specs l.1) defs.lemmas
  pub functions : AllByRecursion (λ s. FunspecFits defs specs s.1) specs.functions
  pub items : AllByRecursion (λ s. FunspecFits defs specs s.1) specs.items
