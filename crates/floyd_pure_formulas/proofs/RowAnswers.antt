-- What each call answers is what its row says.
use Rattle.std.proofs.Common.{◌≡◌, ℕ, true, false, List, [], ◌∷◌, Some, None, Result, Err, refl, sym, subst}
use Rattle.floyd_text.specs.declared.refusal.No.{No}
use Rattle.floyd_text.specs.declared.refusal.RuleStop.{RuleStop}
use Rattle.floyd_text.specs.Gives.{RuleGives}
use Rattle.std.specs.Prelude.{length}
use Rattle.floyd_tree_sorts.specs.declared.sorts.Sort.{Sort}
use Rattle.floyd_tree.specs.Formulas.{PlainFormula}
use Rattle.floyd_assert_changes.specs.Changed.{has_name}
use Rattle.floyd_assert_changes.specs.Substituted.{formula_with}
use Rattle.floyd_goal.specs.Answers.{IsAnswer}
use Rattle.floyd_goal.specs.Goals.{intros_first, is_pending}
use Rattle.floyd_goal.specs.Sides.{context_of}
use Rattle.floyd_goal_formulas.specs.Said.{Saying, ThereIs, said}
use Rattle.floyd_goal_trees.specs.declared.args.Args.{Args}
use Rattle.floyd_goal_trees.specs.declared.args.Target as t
use Rattle.floyd_goal_trees.specs.declared.goal.Goal.{Goal}
use Rattle.floyd_pure_formulas.specs.Destruct.{DestructRow, OfTarget}
use Rattle.floyd_pure_formulas.specs.HypothesisCases.{HypothesisCases, OfCases, OfExists, Opens, cases_of, in_cases, opened, wrong_names}
use Rattle.floyd_pure_formulas.specs.Naming.{taken, variable}
use Rattle.floyd_pure_formulas.specs.Rows.{OfFound, named_by, no_such}
use Rattle.floyd_pure_formulas.specs.VariableCases.{variable_cases}
use Rattle.floyd_pure_formulas.proofs.Answering.{given, passes, unless_stops}

-- destruct
pub destruct_pending : (goal : Goal) (args : Args) → is_pending goal ≡ true → DestructRow goal args (Err intros_first)
destruct_pending goal args e = unless_stops (is_pending goal) intros_first (OfTarget goal args args.target) e

pub destruct_by : (goal : Goal) (args : Args) (target : t.Target) (result : Result (List Goal) RuleStop) → is_pending goal ≡ false → args.target ≡ target → IsAnswer (OfTarget goal args target) result → IsAnswer (DestructRow goal args) result
destruct_by goal args target result e i h =
    passes (is_pending goal) intros_first (OfTarget goal args args.target) result e (subst (λ u. IsAnswer (OfTarget goal args u) result) (sym i) h)

pub destruct_nothing : (goal : Goal) (args : Args) (result : Result (List Goal) RuleStop) → is_pending goal ≡ false → args.target ≡ t.TheVariants.Nothing → RuleGives (λ gs. gs) result (variable_cases goal args) → IsAnswer (DestructRow goal args) result
destruct_nothing goal args result e i h = destruct_by goal args t.TheVariants.Nothing result e i (given (variable_cases goal args) result h)

pub destruct_part : (goal : Goal) (args : Args) (k : ℕ) (result : Result (List Goal) RuleStop) → is_pending goal ≡ false → args.target ≡ t.TheVariants.Part k → RuleGives (λ gs. gs) result (variable_cases goal args) → IsAnswer (DestructRow goal args) result
destruct_part goal args k result e i h = destruct_by goal args (t.TheVariants.Part k) result e i (given (variable_cases goal args) result h)

pub destruct_hypothesis : (goal : Goal) (args : Args) (k : ℕ) (result : Result (List Goal) RuleStop) → is_pending goal ≡ false → args.target ≡ t.TheVariants.Hypothesis k → IsAnswer (HypothesisCases goal args) result → IsAnswer (DestructRow goal args) result
destruct_hypothesis goal args k result e i h = destruct_by goal args (t.TheVariants.Hypothesis k) result e i h

-- the hypothesis that is named
pub none_named : (goal : Goal) (args : Args) → named_by goal args ≡ None → HypothesisCases goal args (Err (no_such args))
none_named goal args e = subst (λ o. OfFound o (no_such args) (λ h. OfCases goal (no_such args) (said h) args.names) (Err (no_such args))) (sym e) refl

pub one_named : (goal : Goal) (args : Args) (h : PlainFormula) (result : Result (List Goal) RuleStop) → named_by goal args ≡ Some h → IsAnswer (OfCases goal (no_such args) (said h) args.names) result → IsAnswer (HypothesisCases goal args) result
one_named goal args h result e a =
    subst (λ o. IsAnswer (OfFound o (no_such args) (λ h. OfCases goal (no_such args) (said h) args.names)) result) (sym e) a

-- its cases
pub cases_unnamed : (goal : Goal) (refusal : No) (s : Saying) (names : List (List ℕ)) (result : Result (List Goal) RuleStop) → names ≡ [] → RuleGives (λ gs. gs) result (in_cases goal refusal (cases_of s)) → IsAnswer (OfCases goal refusal s names) result
cases_unnamed goal refusal s names result e h =
    subst (λ ns. IsAnswer (OfCases goal refusal s ns) result) (sym e) (given (in_cases goal refusal (cases_of s)) result h)

pub cases_named : (goal : Goal) (refusal : No) (s : Saying) (names : List (List ℕ)) (result : Result (List Goal) RuleStop) → (names ≡ [] → ⊥) → IsAnswer (OfExists goal refusal names s) result → IsAnswer (OfCases goal refusal s names) result
cases_named goal refusal s [] result n h = absurd (n refl)
cases_named goal refusal s (x ∷ names) result n h = h

pub exists_other : (goal : Goal) (refusal : No) (names : List (List ℕ)) (s : Saying) → ((y : List ℕ) (q : Sort) (body : PlainFormula) → s ≡ ThereIs y q body → ⊥) → OfExists goal refusal names s (Err refusal)
exists_other goal refusal names (ThereIs y q body) n = absurd (n y q body refl)
exists_other goal refusal names s n = refl

pub exists_wrong : (goal : Goal) (refusal : No) (names : List (List ℕ)) (y : List ℕ) (q : Sort) (body : PlainFormula) (s : Saying) → s ≡ ThereIs y q body → (length names ≡ 1 → ⊥) → OfExists goal refusal names s (Err wrong_names)
exists_wrong goal refusal [] y q body s e n = subst (λ x. OfExists goal refusal [] x (Err wrong_names)) (sym e) refl
exists_wrong goal refusal (x ∷ []) y q body s e n = absurd (n refl)
exists_wrong goal refusal (x ∷ z ∷ names) y q body s e n = subst (λ o. OfExists goal refusal (x ∷ z ∷ names) o (Err wrong_names)) (sym e) refl

pub exists_taken : (goal : Goal) (refusal : No) (names : List (List ℕ)) (x y : List ℕ) (q : Sort) (body : PlainFormula) (s : Saying) → s ≡ ThereIs y q body → names ≡ x ∷ [] → has_name x (context_of goal).variables ≡ true → OfExists goal refusal names s (Err (taken x))
exists_taken goal refusal names x y q body s e i h =
    subst (λ o. OfExists goal refusal names o (Err (taken x))) (sym e)
    (subst (λ ns. Opens goal y q body ns (Err (taken x))) (sym i)
    (unless_stops (has_name x (context_of goal).variables) (taken x) (λ answer. answer ≡ opened goal (record { name = x; sort = q }) (formula_with ((y, variable x q) ∷ []) body)) h))

pub exists_opened : (goal : Goal) (refusal : No) (names : List (List ℕ)) (x y : List ℕ) (q : Sort) (body : PlainFormula) (s : Saying) (result : Result (List Goal) RuleStop) → s ≡ ThereIs y q body → names ≡ x ∷ [] → has_name x (context_of goal).variables ≡ false → RuleGives (λ gs. gs) result (opened goal (record { name = x; sort = q }) (formula_with ((y, variable x q) ∷ []) body)) → IsAnswer (OfExists goal refusal names s) result
exists_opened goal refusal names x y q body s result e i h g =
    subst (λ o. IsAnswer (OfExists goal refusal names o) result) (sym e)
    (subst (λ ns. IsAnswer (Opens goal y q body ns) result) (sym i)
    (passes (has_name x (context_of goal).variables) (taken x) (λ answer. answer ≡ opened goal (record { name = x; sort = q }) (formula_with ((y, variable x q) ∷ []) body)) result h
    (given (opened goal (record { name = x; sort = q }) (formula_with ((y, variable x q) ∷ []) body)) result g)))
