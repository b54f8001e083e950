-- What the row of a command asks of the expressions that it evaluates: their side formulas are a goal, and then each of their
-- terms must be valid. The goals behind it have the formulas that were kept as hypotheses.
use Rattle.std.specs.Prelude.{◌≡◌, List, [], ◌∷◌, ◌++◌, map, Option, Result, Ok}
use Rattle.floyd_text.specs.declared.refusal.No.{No}
use Rattle.floyd_tree.specs.Formulas.{PlainFormula}
use Rattle.floyd_tree.specs.Plain.{Plain}
use Rattle.floyd_assert_trees.specs.declared.assertion.Assertion.{Assertion}
use Rattle.floyd_assert_trees.specs.declared.sep.Sep.TheVariants.{Valid, Anything}
use Rattle.floyd_fieldpath.specs.Written.{on_ok}
use Rattle.floyd_symexpr_rows.specs.declared.needs.Needs.{Needs}
use Rattle.floyd_goal_trees.specs.declared.context.Context.{Context}
use Rattle.floyd_goal_trees.specs.declared.goal.Goal.{Goal}
use Rattle.floyd_goal_trees.specs.declared.goal.Goal.TheVariants.{Entail}
use Rattle.floyd_goal_trees.specs.declared.goal.Pure as p
use Rattle.floyd_goal.specs.declared.side_goals.Sides.{Sides}
use Rattle.floyd_goal.specs.Goals.{enriched}
use Rattle.floyd_goal.specs.Rows.{Answer, after_side}
use Rattle.floyd_goal.specs.Sides.{Side}

-- SEP (valid(v); TT)
abbrev pub valid_at : Plain → Assertion
valid_at v = record { existentials = []; props = []; locals = []; parts = Valid v ∷ Anything ∷ [] }

-- the address is valid where the source holds
abbrev pub valid_goal : Context → Assertion → Plain → Goal
valid_goal context source v = Entail (record { context = context; source = source; target = valid_at v })

-- the goal of side formulas, and the context of the goals behind it
abbrev pub Under : Context → List PlainFormula → Result (Option p.Pure × Context) No → Type 0
Under context fs answer =
    (sides : Result Sides No) × Side context fs sides × (answer ≡ on_ok sides (λ s. Ok (s.goal, enriched context s.kept)))

-- the goal of the side formulas, then one for each term that must be valid, in order, and then these
abbrev pub needed : Assertion → List Plain → Option p.Pure × Context → List Goal → List Goal
needed source valid under goals = after_side under.0 (map (valid_goal under.1 source) valid ++ goals)

-- the goals behind them are those of that context; one of them may be refused
abbrev pub needed_by : Assertion → List Plain → (Context → Answer) → Option p.Pure × Context → Answer
needed_by source valid behind under = on_ok (behind under.1) (λ goals. Ok (needed source valid under goals))

abbrev pub Needing : Context → Assertion → Needs → (Context → Answer) → Answer → Type 0
Needing context source needs behind answer =
    (under : Result (Option p.Pure × Context) No) × Under context needs.sides under × (answer ≡ on_ok under (needed_by source needs.valid behind))
