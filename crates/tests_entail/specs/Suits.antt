-- Variables that have the sorts of binders of their names, wherever they stand.
use Rattle.std.specs.Prelude.{ℕ, Bool, true, false, ◌&&◌, List, [], ◌∷◌, slice_get, Option, Some, None}
use Rattle.floyd_tree_sorts.specs.declared.heads.Head.{Head}
use Rattle.floyd_tree_sorts.specs.declared.heads.Head.TheVariants.{Variable}
use Rattle.floyd_tree_sorts.specs.declared.sorts.Sort.{Sort}
use Rattle.floyd_tree_sorts.specs.Sorts.{same_sort}
use Rattle.floyd_tree.specs.Formulas.{PlainFormula, PlainFormulas, Says, NoFormula, MoreFormulas, formulas}
use Rattle.floyd_tree.specs.Plain.{Plain, Plains, At, Done, More, plains}
use Rattle.floyd_tree.specs.WellSorted.{sort_of}
use Rattle.floyd_assert_changes.specs.Changed.{terms_in}
use Rattle.floyd_assert_trees.specs.declared.assertion.Assertion.{Assertion}
use Rattle.floyd_assert_trees.specs.declared.binder.Binder.{Binder}
use Rattle.floyd_goal_trees.specs.declared.goal.Goal.{Goal}
use Rattle.floyd_goal_trees.specs.declared.goal.Goal.TheVariants.{Run, Entail, Pure}
use Rattle.floyd_pure_formulas.specs.VariableCases.{sort_named}

-- a variable of that sort, where a binder of its name has this one
abbrev pub sort_suits : Sort → Option Sort → Bool
sort_suits s None = true
sort_suits s (Some r) = same_sort r s

abbrev pub head_suits : List Binder → Head → Bool
head_suits bs (Variable x s) = sort_suits s (sort_named x bs)
head_suits bs head = true

abbrev mutual
  pub term_suits : List Binder → Plain → Bool
  term_suits bs (At head kids) = head_suits bs head && terms_suit bs kids

  pub terms_suit : List Binder → Plains → Bool
  terms_suit bs Done = true
  terms_suit bs (More t ts) = term_suits bs t && terms_suit bs ts

abbrev mutual
  pub formula_suits : List Binder → PlainFormula → Bool
  formula_suits bs (Says head terms kids) = terms_suit bs terms && formulas_suit bs kids

  pub formulas_suit : List Binder → PlainFormulas → Bool
  formulas_suit bs NoFormula = true
  formulas_suit bs (MoreFormulas f fs) = formula_suits bs f && formulas_suit bs fs

abbrev pub assertion_suits : List Binder → Assertion → Bool
assertion_suits bs a = formulas_suit bs (formulas a.props) && terms_suit bs (plains (terms_in a))

-- the variables of the source, and its existentials
abbrev pub source_suits : Goal → Bool
source_suits (Run run) = assertion_suits run.source.existentials run.source
source_suits (Entail entail) = assertion_suits entail.source.existentials entail.source
source_suits (Pure pure) = true

-- the variables of an assertion, and a term in the place of one
abbrev pub put_suits : Assertion → List ℕ → Option Sort → Bool
put_suits a x None = false
put_suits a x (Some s) = assertion_suits (record { name = x; sort = s } ∷ []) a

abbrev pub first_suits : Assertion → Option Binder → Option Plain → Bool
first_suits a None t = true
first_suits a (Some b) None = true
first_suits a (Some b) (Some t) = put_suits a b.name (sort_of t)

-- the variables of the target, and the first term in the place of its first existential
abbrev pub target_suits : Goal → List Plain → Bool
target_suits (Run run) ts = true
target_suits (Entail entail) ts = first_suits entail.target (slice_get entail.target.existentials 0) (slice_get ts 0)
target_suits (Pure pure) ts = true
