-- What `apply` answers, step by step.
use Rattle.std.proofs.Common.{◌≡◌, ℕ, true, false, List, Result, Ok, Err, refl, sym, subst}
use Rattle.floyd_text.specs.declared.refusal.RuleStop.{RuleStop}
use Rattle.floyd_text.specs.declared.refusal.RuleStop.TheVariants as r
use Rattle.floyd_text.specs.Gives.{RuleGives, RuleStops}
use Rattle.floyd_tree.specs.Formulas.{PlainFormula}
use Rattle.floyd_tree.specs.Plain.{Plain}
use Rattle.floyd_assert.specs.Removal.{GivesDifference}
use Rattle.floyd_assert_trees.specs.declared.assertion.Assertion.{Assertion}
use Rattle.floyd_assert_trees.specs.declared.binder.Binder.{Binder}
use Rattle.floyd_assert_trees.specs.declared.items.Defs.{Defs}
use Rattle.floyd_assert_trees.specs.declared.items.Lemma.{Lemma}
use Rattle.floyd_assert_trees.specs.declared.sep.Sep.{Sep}
use Rattle.floyd_assert_changes.specs.Apart.{set_apart}
use Rattle.floyd_assert_changes.specs.Changed.{assertion_with, has_name}
use Rattle.floyd_assert_instances.specs.Instances.{taken}
use Rattle.floyd_fieldpath.specs.Written.{on_ok}
use Rattle.floyd_goal_trees.specs.declared.args.Args.{Args}
use Rattle.floyd_goal_trees.specs.declared.context.Context.{Context}
use Rattle.floyd_goal_trees.specs.declared.goal.Goal.{Goal}
use Rattle.floyd_goal.specs.declared.side_goals.Sides.{Sides}
use Rattle.floyd_goal.specs.Answers.{IsAnswer}
use Rattle.floyd_goal.specs.Goals.{intros_first, is_pending, wrong_goal}
use Rattle.floyd_goal.specs.Sides.{Side, context_of}
use Rattle.floyd_goal_parts.proofs.RowLemmas.{row_goes, row_stops}
use Rattle.floyd_pure_formulas.proofs.Answering.{passes, unless_stops}
use Rattle.floyd_entail_lemmas.specs.Hypothesis.{AppliesHypothesis}
use Rattle.floyd_entail_lemmas.specs.Hypothesis as ih
use Rattle.floyd_entail_lemmas.specs.Apply.{Applies, AppliesAt, AppliesLeft, AppliesLemma, AppliesNamed, AppliesSides, AppliesWith, Removes, Row, is_beyond, right_at, used}

pub removal_stops : (goal : Goal) (source : Assertion) (parts : List Sep) (right : Assertion) (sides : Sides) (stop : RuleStop) → GivesDifference (Err stop) source.parts parts → IsAnswer (Removes goal source parts right sides) (Err stop)
removal_stops goal source parts right sides (r.No why) d = (Err why, d, refl)
removal_stops goal source parts right sides r.Memory d = tt

pub removal_goes : (goal : Goal) (source : Assertion) (parts rest : List Sep) (right : Assertion) (sides : Sides) (goals : List Goal) → GivesDifference (Ok rest) source.parts parts → used goal source right sides (Ok rest) ≡ Ok goals → IsAnswer (Removes goal source parts right sides) (Ok goals)
removal_goes goal source parts rest right sides goals d e = (Ok rest, d, subst (λ x. x ≡ used goal source right sides (Ok rest)) e refl)

pub sides_stop : (goal : Goal) (left right : Assertion) (seen : Context) (fs : List PlainFormula) (stop : RuleStop) → seen ≡ context_of goal → fs ≡ left.props → IsAnswer (Side seen fs) (Err stop) → IsAnswer (Applies goal left right) (Err stop)
sides_stop goal left right seen fs (r.No why) e f h =
    (Err why, subst (λ x. Side x left.props (Err why)) e (subst (λ xs. Side seen xs (Err why)) f h), refl)
sides_stop goal left right seen fs r.Memory e f h = tt

pub sides_go : (goal : Goal) (left right : Assertion) (seen : Context) (fs : List PlainFormula) (sides : Sides) (x : Result (List Goal) RuleStop) → seen ≡ context_of goal → fs ≡ left.props → Side seen fs (Ok sides) → IsAnswer (AppliesSides goal left right sides) x → IsAnswer (Applies goal left right) x
sides_go goal left right seen fs sides (Ok goals) e f h told =
    (Ok sides, subst (λ y. Side y left.props (Ok sides)) e (subst (λ xs. Side seen xs (Ok sides)) f h), told)
sides_go goal left right seen fs sides (Err (r.No why)) e f h told =
    (Ok sides, subst (λ y. Side y left.props (Ok sides)) e (subst (λ xs. Side seen xs (Ok sides)) f h), told)
sides_go goal left right seen fs sides (Err r.Memory) e f h told = tt

pub right_stops : (goal : Goal) (l : Lemma) (by : List (List ℕ × Plain)) (left : Assertion) (stop : RuleStop) → assertion_with by l.left ≡ Ok left → RuleStops stop (right_at goal l by) → IsAnswer (AppliesAt goal l by) (Err stop)
right_stops goal l by left stop e h = row_goes (assertion_with by l.left) left (AppliesLeft goal l by) (Err stop) e (row_stops (right_at goal l by) (Applies goal left) stop h)

pub right_goes : (goal : Goal) (l : Lemma) (by : List (List ℕ × Plain)) (left right : Assertion) (x : Result (List Goal) RuleStop) → assertion_with by l.left ≡ Ok left → right_at goal l by ≡ Ok right → IsAnswer (Applies goal left right) x → IsAnswer (AppliesAt goal l by) x
right_goes goal l by left right x e f h = row_goes (assertion_with by l.left) left (AppliesLeft goal l by) x e (row_goes (right_at goal l by) right (Applies goal left) x f h)

pub beyond_stops : (goal : Goal) (l : Lemma) (by : List (List ℕ × Plain)) → is_beyond goal l ≡ true → AppliesWith goal l by (Err wrong_goal)
beyond_stops goal l by e = unless_stops (is_beyond goal l) wrong_goal (AppliesAt goal l by) e

pub within_goes : (goal : Goal) (l : Lemma) (by : List (List ℕ × Plain)) (x : Result (List Goal) RuleStop) → is_beyond goal l ≡ false → IsAnswer (AppliesAt goal l by) x → IsAnswer (AppliesWith goal l by) x
within_goes goal l by x e h = passes (is_beyond goal l) wrong_goal (AppliesAt goal l by) x e h

pub pending_stops : (defs : Defs) (goal : Goal) (args : Args) → is_pending goal ≡ true → Row defs goal args (Err intros_first)
pending_stops defs goal args e = unless_stops (is_pending goal) intros_first (AppliesNamed defs goal args) e

pub named_goes : (defs : Defs) (goal : Goal) (args : Args) (x : Result (List Goal) RuleStop) → is_pending goal ≡ false → IsAnswer (AppliesNamed defs goal args) x → IsAnswer (Row defs goal args) x
named_goes defs goal args x e h = passes (is_pending goal) intros_first (AppliesNamed defs goal args) x e h

-- the variables of the goal, and the terms by name, as the program has them
pub right_made : (goal : Goal) (l : Lemma) (by : List (List ℕ × Plain)) (right : Assertion) (seen : List Binder) (x : Result Assertion RuleStop) → assertion_with by l.right ≡ Ok right → seen ≡ (context_of goal).variables → RuleGives (λ (a : Assertion). a) x (set_apart (λ y. has_name y seen) right) → RuleGives (λ (a : Assertion). a) x (right_at goal l by)
right_made goal l by right seen x e f h =
    subst (λ d. RuleGives (λ (a : Assertion). a) x (on_ok d (set_apart (λ y. has_name y (context_of goal).variables)))) (sym e)
    (subst (λ vs. RuleGives (λ (a : Assertion). a) x (set_apart (λ y. has_name y vs) right)) f h)

pub by_goes : (goal : Goal) (terms : List Plain) (l : Lemma) (by seen : List (List ℕ × Plain)) (x : Result (List Goal) RuleStop) → taken l.with terms ≡ Ok by → seen ≡ by → IsAnswer (AppliesWith goal l seen) x → IsAnswer (AppliesLemma goal terms l) x
by_goes goal terms l by seen x e f h = row_goes (taken l.with terms) by (AppliesWith goal l) x e (subst (λ b. IsAnswer (AppliesWith goal l b) x) f h)

pub ih_stops : (defs : Defs) (goal : Goal) (args : Args) → is_pending goal ≡ true → ih.Row defs goal args (Err intros_first)
ih_stops defs goal args e = unless_stops (is_pending goal) intros_first (AppliesHypothesis defs goal args) e

pub ih_goes : (defs : Defs) (goal : Goal) (args : Args) (x : Result (List Goal) RuleStop) → is_pending goal ≡ false → IsAnswer (AppliesHypothesis defs goal args) x → IsAnswer (ih.Row defs goal args) x
ih_goes defs goal args x e h = passes (is_pending goal) intros_first (AppliesHypothesis defs goal args) x e h
