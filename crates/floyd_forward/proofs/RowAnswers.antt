-- Rows whose answer is computed, and rows under side formulas.
use Rattle.std.proofs.Common.{◌≡◌, ℕ, List, [], ◌∷◌, Result, Ok, Err, sym, ap, ◌∙◌, subst}
use Rattle.std.specs.Prelude.{IfOk}
use Rattle.floyd_text.specs.declared.refusal.No.{No}
use Rattle.floyd_text.specs.declared.refusal.RuleStop.{RuleStop}
use Rattle.floyd_text.specs.declared.refusal.RuleStop.TheVariants as r
use Rattle.floyd_text.specs.Gives.{RuleGives, RuleStops}
use Rattle.floyd_tree.specs.Formulas.{PlainFormula}
use Rattle.floyd_tree.specs.Plain.{Plain}
use Rattle.floyd_fieldpath.specs.Written.{on_ok}
use Rattle.floyd_goal_formulas.specs.Keeping.{Kept}
use Rattle.floyd_goal_trees.specs.declared.goal.Goal.{Goal}
use Rattle.floyd_goal_trees.specs.declared.goal.Run.{Run}
use Rattle.floyd_goal.specs.Answers.{IsAnswer}
use Rattle.floyd_goal.specs.Rows.{Answer}
use Rattle.floyd_symexpr_rows.specs.declared.needs.Needs.{Needs}
use Rattle.floyd_forward.specs.Set.{SetsTyped, SetsWith}

pub as_answer : (d : Answer) (x : Result (List Goal) RuleStop) → RuleGives (λ gs. gs) x d → IsAnswer (λ answer. answer ≡ d) x
as_answer d (Ok gs) e = sym e
as_answer d (Err (r.No why)) e = sym e
as_answer d (Err r.Memory) e = tt

-- the formulas that need a proof are hypotheses
pub typed_answers : (run : Run) (x : List ℕ) (v : Plain × Needs) (typed more : List PlainFormula) (y : Result (List Goal) RuleStop) → Kept run.context.hypotheses typed more → IsAnswer (SetsWith run x v more) y → IsAnswer (SetsTyped run x v typed) y
typed_answers run x v typed more (Ok gs) k h = (more, k, h)
typed_answers run x v typed more (Err (r.No why)) k h = (more, k, h)
typed_answers run x v typed more (Err r.Memory) k h = tt

abbrev answer_of : List Goal → Answer
answer_of gs = Ok gs

-- the one goal is the answer
pub one_is : {E : Type 0} (r : Result (List Goal) E) (goal wanted : Goal) → goal ≡ wanted → IfOk r (λ gs. gs ≡ goal ∷ []) → IfOk r (λ gs. answer_of (wanted ∷ []) ≡ Ok gs)
one_is (Ok gs) goal wanted e h = ap answer_of (sym (h ∙ ap (λ g. g ∷ []) e))
one_is (Err x) goal wanted e h = tt

-- what stops behind something that is there
pub stops_behind : {A B : Type 0} (stop : RuleStop) (d : Result A No) (f : A → Result B No) (a : A) → d ≡ Ok a → RuleStops stop (f a) → RuleStops stop (on_ok d f)
stops_behind stop d f a e h = subst (λ y. RuleStops stop (on_ok y f)) (sym e) h
