-- What each call answers is what the row says.
use Rattle.std.proofs.Common.{◌≡◌, true, false, List, Option, Some, None, Result, Ok, Err, refl, sym, ap, subst, ◌∙◌, cond}
use Rattle.floyd_text.specs.declared.refusal.No.{No}
use Rattle.floyd_text.specs.declared.refusal.RuleStop.{RuleStop}
use Rattle.floyd_text.specs.declared.refusal.RuleStop.TheVariants as r
use Rattle.floyd_text.specs.Gives.{RuleGives, RuleStops}
use Rattle.floyd_tree.specs.Formulas.{PlainFormula}
use Rattle.floyd_tree.specs.MadeFormulas.{formula_fits}
use Rattle.floyd_tree.specs.Plain.{Plain}
use Rattle.floyd_assert_trees.specs.declared.assertion.Assertion.{Assertion}
use Rattle.floyd_goal.specs.Answers.{IsAnswer}
use Rattle.floyd_goal.specs.Goals.{intros_first, is_pending}
use Rattle.floyd_goal_formulas.specs.Said.{Saying, Equation, said}
use Rattle.floyd_goal_trees.specs.declared.args.Args.{Args}
use Rattle.floyd_goal_trees.specs.declared.goal.Goal.{Goal}
use Rattle.floyd_goal_trees.specs.declared.goal.Entail.{Entail}
use Rattle.floyd_pure_formulas.specs.Rows.{OfFound, OfHypothesis, named_by, no_such}
use Rattle.floyd_pure_formulas.proofs.Answering.{answers, given, passes, unless_stops}
use Rattle.floyd_pure_rewriting.specs.Changing.{entail_by}
use Rattle.floyd_pure_rewriting.specs.Rewrite.{RewriteRow, Rewrites, by_equation, by_sides}

-- the equation
pub rewrites_back : (goal : Goal) (args : Args) (h : PlainFormula) (a b : Plain) (result : Result (List Goal) RuleStop) → said h ≡ Equation a b → args.back ≡ true → formula_fits h ≡ true → RuleGives (λ gs. gs) result (by_sides b a goal) → IsAnswer (Rewrites goal args h) result
rewrites_back goal args h a b result e k w i =
    let same : by_equation goal args (said h) ≡ by_sides b a goal = ap (by_equation goal args) e ∙ ap (λ c. cond c (by_sides b a goal) (by_sides a b goal)) k in
    answers (λ answer. answer ≡ by_sides b a goal) (Rewrites goal args h) result (λ answer q. (w, q ∙ sym same)) (given (by_sides b a goal) result i)

pub rewrites_forth : (goal : Goal) (args : Args) (h : PlainFormula) (a b : Plain) (result : Result (List Goal) RuleStop) → said h ≡ Equation a b → args.back ≡ false → formula_fits h ≡ true → RuleGives (λ gs. gs) result (by_sides a b goal) → IsAnswer (Rewrites goal args h) result
rewrites_forth goal args h a b result e k w i =
    let same : by_equation goal args (said h) ≡ by_sides a b goal = ap (by_equation goal args) e ∙ ap (λ c. cond c (by_sides b a goal) (by_sides a b goal)) k in
    answers (λ answer. answer ≡ by_sides a b goal) (Rewrites goal args h) result (λ answer q. (w, q ∙ sym same)) (given (by_sides a b goal) result i)

other_by : (goal : Goal) (args : Args) (s : Saying) → ((a b : Plain) → s ≡ Equation a b → ⊥) → by_equation goal args s ≡ Err (no_such args)
other_by goal args (Equation a b) n = absurd (n a b refl)
other_by goal args s n = refl

pub rewrites_other : (goal : Goal) (args : Args) (h : PlainFormula) → ((a b : Plain) → said h ≡ Equation a b → ⊥) → formula_fits h ≡ true → Rewrites goal args h (Err (no_such args))
rewrites_other goal args h n w = (w, sym (other_by goal args (said h) n))

-- the hypothesis that is named
pub rewrite_pending : (goal : Goal) (args : Args) → is_pending goal ≡ true → RewriteRow goal args (Err intros_first)
rewrite_pending goal args e = unless_stops (is_pending goal) intros_first (OfHypothesis goal args (Rewrites goal args)) e

pub rewrite_none : (goal : Goal) (args : Args) → is_pending goal ≡ false → named_by goal args ≡ None → RewriteRow goal args (Err (no_such args))
rewrite_none goal args e i =
    passes (is_pending goal) intros_first (OfHypothesis goal args (Rewrites goal args)) (Err (r.No (no_such args))) e
    (subst (λ o. OfFound o (no_such args) (Rewrites goal args) (Err (no_such args))) (sym i) refl)

pub rewrite_named : (goal : Goal) (args : Args) (h : PlainFormula) (result : Result (List Goal) RuleStop) → is_pending goal ≡ false → named_by goal args ≡ Some h → IsAnswer (Rewrites goal args h) result → IsAnswer (RewriteRow goal args) result
rewrite_named goal args h result e i k =
    passes (is_pending goal) intros_first (OfHypothesis goal args (Rewrites goal args)) result e
    (subst (λ o. IsAnswer (OfFound o (no_such args) (Rewrites goal args)) result) (sym i) k)

-- an entailment
pub first_stops : (entail : Entail) (source target : Result (Option Assertion) No) (stop : RuleStop) → RuleStops stop source → RuleStops stop (entail_by entail source target)
first_stops entail source target (r.No refusal) e = ap (λ s. entail_by entail s target) e
first_stops entail source target r.Memory e = tt

pub second_stops : (entail : Entail) (source target : Result (Option Assertion) No) (a : Option Assertion) (stop : RuleStop) → source ≡ Ok a → RuleStops stop target → RuleStops stop (entail_by entail source target)
second_stops entail source target a (r.No refusal) e i = ap (λ s. entail_by entail s target) e ∙ ap (entail_by entail (Ok a)) i
second_stops entail source target a r.Memory e i = tt

pub entail_is : (entail : Entail) (source target : Result (Option Assertion) No) (a b : Option Assertion) (result : Result (List Goal) RuleStop) → source ≡ Ok a → target ≡ Ok b → RuleGives (λ gs. gs) result (entail_by entail (Ok a) (Ok b)) → RuleGives (λ gs. gs) result (entail_by entail source target)
entail_is entail source target a b result e i h = subst (RuleGives (λ gs. gs) result) (sym (ap (λ s. entail_by entail s target) e ∙ ap (entail_by entail (Ok a)) i)) h
