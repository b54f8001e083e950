-- What a row answers of what an expression needs.
use Rattle.std.proofs.Common.{◌≡◌, List, Option, Ok, Err, refl, sym, ap, ◌∙◌, subst}
use Rattle.floyd_text.specs.declared.refusal.RuleStop.{RuleStop}
use Rattle.floyd_text.specs.declared.refusal.RuleStop.TheVariants as r
use Rattle.floyd_text.specs.Gives.{RuleStops}
use Rattle.floyd_tree.specs.Formulas.{PlainFormula}
use Rattle.floyd_tree.specs.Plain.{Plain}
use Rattle.floyd_assert_trees.specs.declared.assertion.Assertion.{Assertion}
use Rattle.floyd_fieldpath.specs.Written.{on_ok}
use Rattle.floyd_symexpr_rows.specs.declared.needs.Needs.{Needs}
use Rattle.floyd_goal_trees.specs.declared.context.Context.{Context}
use Rattle.floyd_goal_trees.specs.declared.goal.Goal.{Goal}
use Rattle.floyd_goal_trees.specs.declared.goal.Pure as p
use Rattle.floyd_goal.specs.declared.side_goals.Sides.{Sides}
use Rattle.floyd_goal.specs.Answers.{IsAnswer}
use Rattle.floyd_goal.specs.Goals.{enriched}
use Rattle.floyd_goal.specs.Rows.{Answer}
use Rattle.floyd_goal.specs.Sides.{Side}
use Rattle.floyd_goal_runs.specs.Needing.{Needing, Under, needed}

-- the side formulas cannot be said
pub under_stops : (context : Context) (fs : List PlainFormula) (stop : RuleStop) → IsAnswer (Side context fs) (Err stop) → IsAnswer (Under context fs) (Err stop)
under_stops context fs (r.No why) side = (Err why, side, refl)
under_stops context fs r.Memory side = tt

pub under_gives : (context made : Context) (fs : List PlainFormula) (sides : Sides) (goal : Option p.Pure) → Side context fs (Ok sides) → goal ≡ sides.goal → made ≡ enriched context sides.kept → IsAnswer (Under context fs) (Ok (goal, made))
under_gives context made fs sides goal side e f = (Ok sides, side, ap (λ g. Ok (g, made)) e ∙ ap (λ c. Ok (sides.goal, c)) f)

-- so the row is refused
pub needing_stops : (context : Context) (source : Assertion) (needs : Needs) (behind : Context → Answer) (fs : List PlainFormula) (stop : RuleStop) → fs ≡ needs.sides → IsAnswer (Under context fs) (Err stop) → IsAnswer (Needing context source needs behind) (Err stop)
needing_stops context source needs behind fs (r.No why) e u = (Err why, subst (λ gs. Under context gs (Err why)) e u, refl)
needing_stops context source needs behind fs r.Memory e u = tt

-- a goal behind them is refused
pub needing_fails : (context : Context) (source : Assertion) (needs : Needs) (behind : Context → Answer) (fs : List PlainFormula) (under : Option p.Pure × Context) (stop : RuleStop) → fs ≡ needs.sides → IsAnswer (Under context fs) (Ok under) → RuleStops stop (behind under.1) → IsAnswer (Needing context source needs behind) (Err stop)
needing_fails context source needs behind fs under (r.No why) e u h =
    (Ok under, subst (λ gs. Under context gs (Ok under)) e u, sym (ap (λ d. on_ok d (λ goals. Ok (needed source needs.valid under goals))) h))
needing_fails context source needs behind fs under r.Memory e u h = tt

-- the goals, and those behind them
pub needing_gives : (context : Context) (source : Assertion) (needs : Needs) (behind : Context → Answer) (fs : List PlainFormula) (under : Option p.Pure × Context) (goals all : List Goal) → fs ≡ needs.sides → IsAnswer (Under context fs) (Ok under) → behind under.1 ≡ Ok goals → all ≡ needed source needs.valid under goals → IsAnswer (Needing context source needs behind) (Ok all)
needing_gives context source needs behind fs under goals all e u h is =
    (Ok under, subst (λ gs. Under context gs (Ok under)) e u, ap Ok is ∙ sym (ap (λ d. on_ok d (λ gs. Ok (needed source needs.valid under gs))) h))

-- the same of lists that the code sees
pub needing_from : (context : Context) (source : Assertion) (needs : Needs) (behind : Context → Answer) (fs : List PlainFormula) (vs : List Plain) (side : Option p.Pure) (made : Context) (goals all : List Goal) → fs ≡ needs.sides → vs ≡ needs.valid → IsAnswer (Under context fs) (Ok (side, made)) → behind made ≡ Ok goals → all ≡ needed source vs (side, made) goals → IsAnswer (Needing context source needs behind) (Ok all)
needing_from context source needs behind fs vs side made goals all e f u h is =
    needing_gives context source needs behind fs (side, made) goals all e u h (is ∙ ap (λ ts. needed source ts (side, made) goals) f)
