-- `inject` makes of a hypothesis that is an equation of terms with the same constructor equations of their arguments.
use Rattle.std.specs.Prelude.{◌≡◌, Bool, true, false, if◌then◌else◌, List, [], ◌∷◌, Option, Some, None, Ok, Err}
use Rattle.floyd_tree_sorts.specs.declared.connectives.FormulaHead.TheVariants.{Equal}
use Rattle.floyd_tree_sorts.specs.declared.heads.Head.{Head}
use Rattle.floyd_tree_sorts.specs.declared.heads.Head.TheVariants.{Nil, Leaf, Operator}
use Rattle.floyd_tree_sorts.specs.declared.operators.Operator.TheVariants.{Cons, Node, Pair}
use Rattle.floyd_tree.specs.Formulas.{PlainFormula, Says, NoFormula}
use Rattle.floyd_tree.specs.Plain.{Plain, Done, More, head_of, kids_of}
use Rattle.floyd_goal_trees.specs.declared.args.Args.{Args}
use Rattle.floyd_goal_trees.specs.declared.goal.Goal.{Goal}
use Rattle.floyd_goal_formulas.specs.Said.{Saying, Equation, said}
use Rattle.floyd_pure_formulas.specs.Rows.{Answer, Row, OfHypothesis, WhenNamed, no_such, with_more}

abbrev pub equal : Plain → Plain → PlainFormula
equal a b = Says Equal (More a (More b Done)) NoFormula

-- one by one
abbrev pub equations : List Plain → List Plain → List PlainFormula
equations (t ∷ ts) (u ∷ us) = equal t u ∷ equations ts us
equations ts us = []

-- the same constructor
abbrev pub are_alike : Head → Head → Bool
are_alike (Nil s) (Nil r) = true
are_alike (Leaf s) (Leaf r) = true
are_alike (Operator Cons) (Operator Cons) = true
are_alike (Operator Node) (Operator Node) = true
are_alike (Operator Pair) (Operator Pair) = true
are_alike a b = false

-- the arguments are equal where the terms are
abbrev pub injected : Saying → Option (List PlainFormula)
injected (Equation a b) = if are_alike (head_of a) (head_of b) then Some (equations (kids_of a) (kids_of b)) else None
injected saying = None

abbrev pub goals_by : Goal → Args → Option (List PlainFormula) → Answer
goals_by goal args None = Err (no_such args)
goals_by goal args (Some fs) = Ok (with_more goal fs ∷ [])

abbrev pub InjectRow : Row
InjectRow goal args answer = WhenNamed goal (OfHypothesis goal args (λ h a. a ≡ goals_by goal args (injected (said h)))) answer
