-- The cases of a hypothesis: both formulas of an `and` at once, each of an `or`, none of False, and the formula of an `exists`
-- for a new variable.
use Rattle.std.specs.Prelude.{◌≡◌, ℕ, List, [], ◌∷◌, map, Option, Some, None, Result, Ok, Err}
use Rattle.floyd_text.specs.declared.code.Code.TheVariants as c
use Rattle.floyd_text.specs.declared.refusal.No.{No}
use Rattle.floyd_tree_sorts.specs.declared.sorts.Sort.{Sort}
use Rattle.floyd_tree.specs.Formulas.{PlainFormula}
use Rattle.floyd_assert_trees.specs.declared.binder.Binder.{Binder}
use Rattle.floyd_assert_changes.specs.Changed.{has_name}
use Rattle.floyd_assert_changes.specs.Substituted.{formula_with}
use Rattle.floyd_goal_formulas.specs.Said.{Saying, Absurd, Either, Both, ThereIs, said}
use Rattle.floyd_goal_trees.specs.Contexts.{with_hypotheses}
use Rattle.floyd_goal_trees.specs.declared.args.Args.{Args}
use Rattle.floyd_goal_trees.specs.declared.goal.Goal.{Goal}
use Rattle.floyd_goal.specs.Goals.{in_context, refusal}
use Rattle.floyd_goal.specs.Sides.{context_of}
use Rattle.floyd_pure_formulas.specs.Naming.{taken, variable}
use Rattle.floyd_pure_formulas.specs.Rows.{Answer, OfHypothesis, Unless, extended, no_such, with_more}

-- another number of names than there are new variables
abbrev pub wrong_names : No
wrong_names = refusal c.WrongNames

-- what there is more in a case: formulas that are known, or a variable with a formula for it
pub data Case : Type 0 where
  Known : (formulas : List PlainFormula) → Case
  Opened : (variable : Binder) → (formula : PlainFormula) → Case

abbrev pub in_case : Goal → Case → Goal
in_case goal (Known fs) = with_more goal fs
in_case goal (Opened b f) = in_context goal (with_hypotheses (extended (context_of goal) (b ∷ [])) (f ∷ []))

-- the cases
abbrev pub cases_of : Saying → Option (List Case)
cases_of (Both a b) = Some (Known (a ∷ b ∷ []) ∷ [])
cases_of (Either a b) = Some (Known (a ∷ []) ∷ Known (b ∷ []) ∷ [])
cases_of Absurd = Some []
cases_of saying = None

-- the goal in each case
abbrev pub in_cases : Goal → No → Option (List Case) → Answer
in_cases goal refusal None = Err refusal
in_cases goal refusal (Some cases) = Ok (map (in_case goal) cases)

-- the goal with the variable and its formula more
abbrev pub opened : Goal → Binder → Result PlainFormula No → Answer
opened goal b (Err refusal) = Err refusal
opened goal b (Ok body) = Ok (in_case goal (Opened b body) ∷ [])

-- for an `exists` of y of that sort over the body there is one name, which is new
abbrev pub Opens : Goal → List ℕ → Sort → PlainFormula → List (List ℕ) → Answer → Type 0
Opens goal y s body [] answer = answer ≡ Err wrong_names
Opens goal y s body (x ∷ []) answer =
    Unless (has_name x (context_of goal).variables) (taken x)
    (λ given. given ≡ opened goal (record { name = x; sort = s }) (formula_with ((y, variable x s) ∷ []) body)) answer
Opens goal y s body (x ∷ z ∷ more) answer = answer ≡ Err wrong_names

abbrev pub OfExists : Goal → No → List (List ℕ) → Saying → Answer → Type 0
OfExists goal refusal names (ThereIs y s body) answer = Opens goal y s body names answer
OfExists goal refusal names saying answer = answer ≡ Err refusal

-- without names the hypothesis is an `and`, an `or` or False, and with names an `exists`
abbrev pub OfCases : Goal → No → Saying → List (List ℕ) → Answer → Type 0
OfCases goal refusal saying [] answer = answer ≡ in_cases goal refusal (cases_of saying)
OfCases goal refusal saying (x ∷ names) answer = OfExists goal refusal (x ∷ names) saying answer

abbrev pub HypothesisCases : Goal → Args → Answer → Type 0
HypothesisCases goal args answer = OfHypothesis goal args (λ h. OfCases goal (no_such args) (said h) args.names) answer
