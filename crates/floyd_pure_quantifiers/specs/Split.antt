-- `split` makes a goal of each conjunct, and of an equation of numbers both inequalities.
use Rattle.std.specs.Prelude.{◌≡◌, List, [], ◌∷◌, ◌++◌, map, if◌then◌else◌, Option, Some, None, Ok, Err}
use Rattle.floyd_tree_sorts.specs.declared.connectives.FormulaHead.TheVariants.{And, AtMost}
use Rattle.floyd_tree_sorts.specs.declared.sorts.Sort.{Z}
use Rattle.floyd_tree.specs.Formulas.{PlainFormula, Says, NoFormula, MoreFormulas}
use Rattle.floyd_tree.specs.Plain.{Plain, Done, More}
use Rattle.floyd_tree.specs.WellSorted.{sort_of}
use Rattle.floyd_goal_trees.specs.declared.context.Context.{Context}
use Rattle.floyd_goal.specs.Goals.{pure_goal, wrong_goal}
use Rattle.floyd_goal_formulas.specs.Said.{Saying, Equation, Both, said}
use Rattle.floyd_pure_formulas.specs.Instances.{is_sort}
use Rattle.floyd_pure_formulas.specs.Rows.{Answer, Row, OfPure}

-- the conjuncts at any depth, from left to right; what is no conjunction is its own
abbrev pub conjuncts : PlainFormula → List PlainFormula
conjuncts (Says And terms (MoreFormulas a (MoreFormulas b NoFormula))) = conjuncts a ++ conjuncts b
conjuncts f = f ∷ []

abbrev pub at_most : Plain → Plain → PlainFormula
at_most a b = Says AtMost (More a (More b Done)) NoFormula

-- what is to be proved in place of the target
abbrev pub parts : PlainFormula → Saying → Option (List PlainFormula)
parts target (Both a b) = Some (conjuncts target)
parts target (Equation a b) = if is_sort Z (sort_of a) then Some (at_most a b ∷ at_most b a ∷ []) else None
parts target saying = None

abbrev pub goals_of : Context → Option (List PlainFormula) → Answer
goals_of context None = Err wrong_goal
goals_of context (Some fs) = Ok (map (pure_goal context) fs)

abbrev pub SplitRow : Row
SplitRow goal args answer = OfPure goal (λ pure a. a ≡ goals_of pure.context (parts pure.target (said pure.target))) answer
