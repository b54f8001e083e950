-- Formulas that are well formed whatever is defined: each variable has the sort of its binder, and nothing is called.
use Rattle.std.specs.Prelude.{Bool, true, false, ◌&&◌, List, [], ◌∷◌, ◌++◌, map}
use Rattle.floyd_tree_sorts.specs.declared.connectives.FormulaHead.{FormulaHead}
use Rattle.floyd_tree_sorts.specs.declared.connectives.FormulaHead.TheVariants.{Forall, Exists}
use Rattle.floyd_tree_sorts.specs.declared.heads.Head.{Head}
use Rattle.floyd_tree_sorts.specs.declared.heads.Head.TheVariants.{Variable, Default, Fun}
use Rattle.floyd_tree.specs.Formulas.{PlainFormula, PlainFormulas, Says, NoFormula, MoreFormulas, well_sorted}
use Rattle.floyd_tree.specs.Plain.{Plain, Plains, At, Done, More}
use Rattle.floyd_tree_values.specs.Rules.{Scope}
use Rattle.floyd_assert_trees.specs.declared.binder.Binder.{Binder}
use Rattle.floyd_pure_formulas.specs.Instances.{is_sort}
use Rattle.floyd_pure_formulas.specs.VariableCases.{sort_named}

abbrev pub scope_of : List Binder → Scope
scope_of bs = map (λ (b : Binder). (b.name, b.sort)) bs

abbrev pub head_known : List Binder → Head → Bool
head_known bs (Variable x s) = is_sort s (sort_named x bs)
head_known bs (Default shape s) = false
head_known bs (Fun name arguments s) = false
head_known bs head = true

abbrev mutual
  pub term_known : List Binder → Plain → Bool
  term_known bs (At head kids) = head_known bs head && terms_known bs kids

  pub terms_known : List Binder → Plains → Bool
  terms_known bs Done = true
  terms_known bs (More t ts) = term_known bs t && terms_known bs ts

-- the variable of a quantifier
abbrev pub binders_of : FormulaHead → List Binder
binders_of (Forall x s) = record { name = x; sort = s } ∷ []
binders_of (Exists x s) = record { name = x; sort = s } ∷ []
binders_of head = []

abbrev mutual
  pub formula_known : List Binder → PlainFormula → Bool
  formula_known bs (Says head terms kids) = terms_known bs terms && formulas_known (binders_of head ++ bs) kids

  pub formulas_known : List Binder → PlainFormulas → Bool
  formulas_known bs NoFormula = true
  formulas_known bs (MoreFormulas f fs) = formula_known bs f && formulas_known bs fs

abbrev pub known : List Binder → PlainFormula → Bool
known bs f = well_sorted f && formula_known bs f

abbrev pub all_known : List Binder → List PlainFormula → Bool
all_known bs [] = true
all_known bs (f ∷ fs) = known bs f && all_known bs fs
