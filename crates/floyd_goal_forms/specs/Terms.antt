-- Terms, formulas and types that are well formed over what a proof stands on.
use Rattle.std.specs.Prelude.{◌≡◌, ℕ, true, List, [], ◌∷◌, map, length, Option, Some, is_some, bytes_eq, IsSome}
use Rattle.std.specs.List.{AllByRecursion}
use Rattle.std.specs.Map.{lookup}
use Rattle.floyd_tree_sorts.specs.declared.connectives.FormulaHead.{FormulaHead}
use Rattle.floyd_tree_sorts.specs.declared.connectives.FormulaHead.TheVariants.{Compatible, FuncPtr}
use Rattle.floyd_tree_sorts.specs.declared.heads.Head.{Head}
use Rattle.floyd_tree_sorts.specs.declared.heads.Head.TheVariants.{Gv}
use Rattle.floyd_tree_sorts.specs.declared.sorts.Sort.{Sort, Z}
use Rattle.floyd_tree_sorts.specs.Table.{arrays}
use Rattle.floyd_tree.specs.Formulas.{PlainFormula, PlainFormulas, Says, NoFormula, MoreFormulas}
use Rattle.floyd_tree.specs.Plain.{Plain, Plains, At, Done, More}
use Rattle.floyd_tree.specs.Types.{SizedType}
use Rattle.floyd_tree_values.specs.Defaults.{value_sort}
use Rattle.floyd_tree_values.specs.Rules.{CallsOf, Scope}
use Rattle.floyd_tree_values.specs.Rules as r
use Rattle.floyd_assert_trees.specs.declared.binder.Binder.{Binder}
use Rattle.floyd_assert_trees.specs.declared.items.Defs.{Defs}
use Rattle.floyd_assert_trees.specs.declared.spec.SpecTable.{SpecTable}
use Rattle.floyd_assert_trees.specs.Meanings.{value_defs}
use Rattle.floyd_goal_formulas.specs.Fits as f

-- variables with their sorts
abbrev pub scope_with : List Binder → Scope
scope_with binders = map (λ (b : Binder). (b.name, b.sort)) binders

abbrev pub names_with : List Binder → List (List ℕ)
names_with binders = map (λ (b : Binder). b.name) binders

-- each name under gv is one that may stand there
abbrev pub IsKnown : Defs → Head → Type 0
IsKnown defs (Gv x) = is_some (lookup (bytes_eq x) defs.globals) ≡ true
IsKnown defs head = Unit {0}

abbrev mutual
  pub GlobalsKnown : Defs → Plain → Type 0
  GlobalsKnown defs (At head kids) = IsKnown defs head × AllKnown defs kids

  pub AllKnown : Defs → Plains → Type 0
  AllKnown defs Done = Unit {0}
  AllKnown defs (More t ts) = GlobalsKnown defs t × AllKnown defs ts

-- A term of that sort: each variable has its sort in the scope, and each FUN is there with its sorts.
pub record TermFits (defs : Defs) (scope : Scope) (s : Sort) (t : Plain) : Type 0 where
  pub fits : r.Fits defs.structs scope (CallsOf (value_defs defs).funs) s t
  pub known : GlobalsKnown defs t

-- a term for each sort
abbrev pub TermsFit : Defs → Scope → List Sort → List Plain → Type 0
TermsFit defs scope [] [] = Unit {0}
TermsFit defs scope [] (t ∷ ts) = ⊥
TermsFit defs scope (s ∷ sorts) [] = ⊥
TermsFit defs scope (s ∷ sorts) (t ∷ ts) = TermFits defs scope s t × TermsFit defs scope sorts ts

-- a type in which something is compatible has a value sort, and a SPEC is one that may be named
abbrev pub HeadFits : Defs → SpecTable → FormulaHead → Type 0
HeadFits defs specs (Compatible shape path) = IsSome (value_sort defs.structs shape)
HeadFits defs specs (FuncPtr name) = is_some (lookup (bytes_eq name) specs.items) ≡ true
HeadFits defs specs head = Unit {0}

abbrev mutual
  pub HeadsFit : Defs → SpecTable → PlainFormula → Type 0
  HeadsFit defs specs (Says head terms kids) = HeadFits defs specs head × AllKnown defs terms × AllHeadsFit defs specs kids

  pub AllHeadsFit : Defs → SpecTable → PlainFormulas → Type 0
  AllHeadsFit defs specs NoFormula = Unit {0}
  AllHeadsFit defs specs (MoreFormulas a fs) = HeadsFit defs specs a × AllHeadsFit defs specs fs

pub record FormulaFits (defs : Defs) (specs : SpecTable) (scope : Scope) (a : PlainFormula) : Type 0 where
  pub fits : f.Fits (value_defs defs) scope a
  pub known : HeadsFit defs specs a

abbrev pub FormulasFit : Defs → SpecTable → Scope → List PlainFormula → Type 0
FormulasFit defs specs scope fs = AllByRecursion (FormulaFits defs specs scope) fs

-- the sizes of a type's arrays are numbers
pub record SizesFit (defs : Defs) (scope : Scope) (t : SizedType) : Type 0 where
  pub count : length t.sizes ≡ arrays t.shape
  pub sizes : AllByRecursion (TermFits defs scope Z) t.sizes

-- a type that has a value sort
pub record TypeFits (defs : Defs) (scope : Scope) (t : SizedType) : Type 0 where
  pub sizes : SizesFit defs scope t
  pub sort : IsSome (value_sort defs.structs t.shape)
