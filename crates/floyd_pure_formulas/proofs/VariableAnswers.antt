-- What the calls for the cases of a variable answer is what the definitions say.
use Rattle.std.proofs.Common.{◌≡◌, ℕ, Bool, true, false, cond, List, [], ◌∷◌, length, Some, None, Result, Err, refl, sym, ap, subst, ◌∙◌}
use Rattle.std.specs.Prelude.{is_some, nat_eq}
use Rattle.std.proofs.lemmas.Bool.Decides.{Decides-eqb}
use Rattle.floyd_text.specs.declared.refusal.RuleStop.{RuleStop}
use Rattle.floyd_text.specs.Gives.{RuleGives}
use Rattle.floyd_tree_sorts.specs.declared.sorts.Sort.{Sort}
use Rattle.floyd_truth.specs.Replace.{puts}
use Rattle.floyd_assert_trees.specs.declared.binder.Binder.{Binder}
use Rattle.floyd_goal.specs.Sides.{context_of}
use Rattle.floyd_goal_changes.specs.Changed.{GoalSortsAgree}
use Rattle.floyd_goal_trees.specs.declared.goal.Goal.{Goal}
use Rattle.floyd_pure_formulas.specs.declared.constructors.Constructors.{Constructors}
use Rattle.floyd_pure_formulas.specs.ConstructorsClauses.{AreOf, IsBuilt, TakesIn}
use Rattle.floyd_pure_formulas.specs.HypothesisCases.{wrong_names}
use Rattle.floyd_pure_formulas.specs.Naming.{taken}
use Rattle.floyd_pure_formulas.specs.VariableCases.{binders, both_cases, built, first_taken, of_binders, of_constructors, unless_taken, zipped}

-- variables of as many names as there are arguments
record Counted (names : List (List ℕ)) (sorts : List Sort) (new : List Binder) : Type 0 where
  pub count : length names ≡ length sorts
  pub are : new ≡ zipped names sorts

counted : (names : List (List ℕ)) (sorts : List Sort) (new : List Binder) → binders names sorts ≡ Some new → Counted names sorts new
counted names sorts new e = by (nat_eq (length names) (length sorts)) refl e
  where
    by : (b : Bool) → nat_eq (length names) (length sorts) ≡ b → cond b (Some (zipped names sorts)) None ≡ Some new → Counted names sorts new
    by true i e = record { count = (Decides-eqb (length names) (length sorts)).0 i; are = cc }
    by false i e = absurd cc

pub built_agrees : (goal : Goal) (x : List ℕ) (sort : Sort) (c : Constructors) (names : List (List ℕ)) (new : List Binder) → AreOf sort c → TakesIn goal x sort → binders names c.sorts ≡ Some new → GoalSortsAgree (puts ((x, built c new) ∷ [])) goal
built_agrees goal x sort c names new own takes e =
    let p = counted names c.sorts new e in
    subst (λ ns. GoalSortsAgree (puts ((x, built c ns) ∷ [])) goal) (sym p.are) (takes (built c (zipped names c.sorts)) (own.sorted names p.count))

pub empty_agrees : (goal : Goal) (x : List ℕ) (sort : Sort) (c : Constructors) → AreOf sort c → TakesIn goal x sort → GoalSortsAgree (puts ((x, c.empty) ∷ [])) goal
empty_agrees goal x sort c own takes = takes c.empty own.empty

pub built_made : (sort : Sort) (c : Constructors) (names : List (List ℕ)) (new : List Binder) → AreOf sort c → binders names c.sorts ≡ Some new → IsBuilt (built c new)
built_made sort c names new own e =
    let p = counted names c.sorts new e in
    subst (λ ns. IsBuilt (built c ns)) (sym p.are) (record { sorted = ap is_some (own.sorted names p.count); fitting = own.fitting names p.count })

-- what is refused, and what is made
pub wrong_count : (goal : Goal) (x : List ℕ) (names : List (List ℕ)) (c : Constructors) → binders names c.sorts ≡ None → of_constructors goal x names (Some c) ≡ Err wrong_names
wrong_count goal x names c e = ap (of_binders goal x c) e

pub name_taken : (goal : Goal) (x : List ℕ) (names : List (List ℕ)) (c : Constructors) (new : List Binder) (y : List ℕ) → binders names c.sorts ≡ Some new → first_taken (context_of goal).variables [] new ≡ Some y → of_constructors goal x names (Some c) ≡ Err (taken y)
name_taken goal x names c new y e i = ap (of_binders goal x c) e ∙ ap (unless_taken goal x c new) i

pub cases_are : (goal : Goal) (x : List ℕ) (names : List (List ℕ)) (c : Constructors) (new : List Binder) (result : Result (List Goal) RuleStop) → binders names c.sorts ≡ Some new → first_taken (context_of goal).variables [] new ≡ None → RuleGives (λ gs. gs) result (both_cases goal x c new) → RuleGives (λ gs. gs) result (of_constructors goal x names (Some c))
cases_are goal x names c new result e i g =
    subst (RuleGives (λ gs. gs) result) (sym (ap (of_binders goal x c) e ∙ ap (unless_taken goal x c new) i)) g
