-- `intro` takes the premise of an implication as a hypothesis, and `intro x` makes x the variable of a `forall`.
use Rattle.std.specs.Prelude.{◌≡◌, ℕ, List, [], ◌∷◌, Err, Ok, if◌then◌else◌}
use Rattle.floyd_tree_sorts.specs.declared.sorts.Sort.{Sort}
use Rattle.floyd_tree.specs.Formulas.{PlainFormula}
use Rattle.floyd_assert_trees.specs.declared.binder.Binder.{Binder}
use Rattle.floyd_assert_changes.specs.Changed.{has_name}
use Rattle.floyd_assert_changes.specs.Substituted.{formula_with}
use Rattle.floyd_goal_trees.specs.declared.context.Context.{Context}
use Rattle.floyd_goal_trees.specs.declared.goal.Goal.{Goal}
use Rattle.floyd_goal_trees.specs.declared.goal.Goal.TheVariants as g
use Rattle.floyd_goal.specs.Goals.{enriched, wrong_goal}
use Rattle.floyd_goal_formulas.specs.Said.{Saying, Implication, ForAll, said}
use Rattle.floyd_pure_formulas.specs.Instances.{goal_by}
use Rattle.floyd_pure_formulas.specs.Naming.{taken, variable}
use Rattle.floyd_pure_formulas.specs.Rows.{Answer, Row, OfPure, extended}

-- the conclusion is to be proved under the premise
abbrev pub supposing : Context → PlainFormula → PlainFormula → Goal
supposing context premise conclusion = g.Pure (record { context = enriched context (premise ∷ []); target = conclusion })

abbrev pub one_binder : List ℕ → Sort → List Binder
one_binder x s = record { name = x; sort = s } ∷ []

-- the target is to be proved where x is a variable more
abbrev pub with_variable : Context → List ℕ → Sort → PlainFormula → Goal
with_variable context x s target = g.Pure (record { context = extended context (one_binder x s); target = target })

-- x, which is not taken, for the bound name y
abbrev pub named : Context → List ℕ → List ℕ → Sort → PlainFormula → Answer
named context x y s body =
    if has_name x context.variables then Err (taken x) else goal_by (with_variable context x s) (formula_with ((y, variable x s) ∷ []) body)

-- without a name of an implication, and with one of a `forall`
abbrev pub introduced : Context → List (List ℕ) → Saying → Answer
introduced context [] (Implication premise conclusion) = Ok (supposing context premise conclusion ∷ [])
introduced context [] saying = Err wrong_goal
introduced context (x ∷ []) (ForAll y s body) = named context x y s body
introduced context (x ∷ []) saying = Err wrong_goal
introduced context (x ∷ y ∷ names) saying = Err wrong_goal

abbrev pub IntroRow : Row
IntroRow goal args answer = OfPure goal (λ pure a. a ≡ introduced pure.context args.names (said pure.target)) answer
