-- What `Exists` answers of a target in which the term stands for the first existential.
use Rattle.std.proofs.Common.{◌≡◌, ◌≤◌, List, [], ◌∷◌, length, get_or, Result, Ok, Err, subst, arith}
use Rattle.floyd_text.specs.declared.refusal.RuleStop.{RuleStop}
use Rattle.floyd_text.specs.Gives.{RuleStops}
use Rattle.floyd_tree.specs.Plain.{Plain}
use Rattle.floyd_assert_trees.specs.declared.assertion.Assertion.{Assertion}
use Rattle.floyd_assert_trees.specs.declared.binder.Binder.{Binder}
use Rattle.floyd_assert_changes.specs.Changed.{assertion_with}
use Rattle.floyd_goal_trees.specs.declared.goal.Entail.{Entail}
use Rattle.floyd_goal_trees.specs.declared.goal.Goal.{Goal}
use Rattle.floyd_goal.specs.Answers.{IsAnswer}
use Rattle.floyd_goal_parts.proofs.RowLemmas.{row_goes, row_stops}
use Rattle.floyd_entail.specs.Exists.{IsToward, Puts, PutsTerm, under}

pub put_stops : (entail : Entail) (b : Binder) (more : List Binder) (t : Plain) (target : Assertion) (stop : RuleStop) → target ≡ under entail.target more → RuleStops stop (assertion_with ((b.name, t) ∷ []) target) → IsAnswer (PutsTerm entail b more t) (Err stop)
put_stops entail b more t target stop e h =
    row_stops (assertion_with ((b.name, t) ∷ []) (under entail.target more)) (IsToward entail) stop
    (subst (λ a. RuleStops stop (assertion_with ((b.name, t) ∷ []) a)) e h)

pub put_goes : (entail : Entail) (b : Binder) (more : List Binder) (t : Plain) (target changed : Assertion) (goals : List Goal) → target ≡ under entail.target more → assertion_with ((b.name, t) ∷ []) target ≡ Ok changed → IsToward entail changed (Ok goals) → IsAnswer (PutsTerm entail b more t) (Ok goals)
put_goes entail b more t target changed goals e f h =
    row_goes (assertion_with ((b.name, t) ∷ []) (under entail.target more)) changed (IsToward entail) (Ok goals)
    (subst (λ a. assertion_with ((b.name, t) ∷ []) a ≡ Ok changed) e f) h

-- of the first of the terms
pub puts_first : (entail : Entail) (b : Binder) (more : List Binder) (terms : List Plain) (t : Plain) (x : Result (List Goal) RuleStop) → 1 ≤ length terms → t ≡ get_or terms 0 t → IsAnswer (PutsTerm entail b more t) x → IsAnswer (Puts entail b more terms) x
puts_first entail b more [] t x some e h = absurd (omega (arith, some))
puts_first entail b more (u ∷ us) t x some e h = subst (λ y. IsAnswer (PutsTerm entail b more y) x) e h
