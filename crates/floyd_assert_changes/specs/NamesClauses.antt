-- Names that are collected: those of the variables that occur, and those that are bound.
use Rattle.std.specs.Prelude.{ℕ, List, [], ◌∷◌, ◌++◌, Bool, is_some, if◌then◌else◌, bytes_eq}
use Rattle.std.specs.Map.{lookup}
use Rattle.floyd_tree_sorts.specs.declared.connectives.FormulaHead.{FormulaHead}
use Rattle.floyd_tree_sorts.specs.declared.connectives.FormulaHead.TheVariants.{Forall, Exists}
use Rattle.floyd_tree_sorts.specs.declared.heads.Head.{Head}
use Rattle.floyd_tree_sorts.specs.declared.heads.Head.TheVariants.{Variable}
use Rattle.floyd_tree.specs.Formulas.{PlainFormula, PlainFormulas, Says, NoFormula, MoreFormulas}
use Rattle.floyd_tree.specs.Plain.{Plain, Plains, At, Done, More}
use Rattle.floyd_truth.specs.Capture.{Becomes, Changes, Put, Called}

abbrev pub Names : Type 0
Names = List (List ℕ × Unit {0})

abbrev pub has : Names → List ℕ → Bool
has names x = is_some (lookup (bytes_eq x) names)

-- behind the others, where it is not there
abbrev pub with_name : List ℕ → Names → Names
with_name x names = if has names x then names else names ++ (x, tt) ∷ []

abbrev pub head_names : Head → Names → Names
head_names (Variable x s) names = with_name x names
head_names head names = names

abbrev mutual
  pub term_names : Plain → Names → Names
  term_names (At head kids) names = terms_names kids (head_names head names)

  pub terms_names : Plains → Names → Names
  terms_names Done names = names
  terms_names (More t ts) names = terms_names ts (term_names t names)

abbrev pub binder_names : FormulaHead → Names → Names
binder_names (Forall x s) names = with_name x names
binder_names (Exists x s) names = with_name x names
binder_names head names = names

abbrev mutual
  pub formula_names : PlainFormula → Names → Names
  formula_names (Says head terms kids) names = formulas_names kids (terms_names terms (binder_names head names))

  pub formulas_names : PlainFormulas → Names → Names
  formulas_names NoFormula names = names
  formulas_names (MoreFormulas f fs) names = formulas_names fs (formula_names f names)

abbrev pub become_names : Becomes → Names → Names
become_names (Put t) names = term_names t names
become_names (Called y) names = names

-- of the new terms
abbrev pub new_term_names : Changes → Names → Names
new_term_names [] names = names
new_term_names (c ∷ more) names = new_term_names more (become_names c.1 names)
