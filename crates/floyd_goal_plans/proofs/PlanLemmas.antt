-- The first of the terms, and side formulas with parts.
use Rattle.std.proofs.Common.{◌≡◌, List, [], ◌∷◌, Option, Some, None, Result, Ok, Err, refl, sym, subst}
use Rattle.std.specs.Prelude.{slice_get}
use Rattle.floyd_text.specs.declared.refusal.No.{No}
use Rattle.floyd_text.specs.declared.refusal.RuleStop.{RuleStop}
use Rattle.floyd_text.specs.declared.refusal.RuleStop.TheVariants as r
use Rattle.floyd_text.specs.Gives.{RuleStops}
use Rattle.floyd_tree.specs.Formulas.{PlainFormula}
use Rattle.floyd_tree.specs.Plain.{Plain}
use Rattle.floyd_assert_trees.specs.declared.sep.Sep.{Sep}
use Rattle.floyd_goal.specs.Goals.{wrong_goal}
use Rattle.floyd_goal_parts.specs.declared.placing.Plan.{Plan}
use Rattle.floyd_goal_plans.specs.Plans.{first_term, planned}

-- the first of the terms
pub one_term : (terms : List Plain) (t : Plain) → Some t ≡ slice_get terms 0 → first_term terms ≡ Ok t
one_term [] t e = absurd cc
one_term (u ∷ terms) t e = cc

pub no_term : (terms : List Plain) → None ≡ slice_get terms 0 → first_term terms ≡ Err wrong_goal
no_term [] e = refl
no_term (u ∷ terms) e = absurd cc

-- side formulas and parts
pub plan_stops_first : (stop : RuleStop) (sides : Result (List PlainFormula) No) (new : Result (List Sep) No) → RuleStops stop sides → RuleStops stop (planned sides new)
plan_stops_first (r.No why) sides new e = subst (λ (d : Result (List PlainFormula) No). planned d new ≡ Err why) (sym e) refl
plan_stops_first r.Memory sides new e = tt

pub plan_stops_second : (stop : RuleStop) (sides : Result (List PlainFormula) No) (new : Result (List Sep) No) (fs : List PlainFormula) → sides ≡ Ok fs → RuleStops stop new → RuleStops stop (planned sides new)
plan_stops_second (r.No why) sides new fs e h =
    subst (λ (d : Result (List PlainFormula) No). planned d new ≡ Err why) (sym e) (subst (λ (d : Result (List Sep) No). planned (Ok fs) d ≡ Err why) (sym h) refl)
plan_stops_second r.Memory sides new fs e h = tt

pub plan_goes : (sides : Result (List PlainFormula) No) (new : Result (List Sep) No) (fs : List PlainFormula) (ps : List Sep) → sides ≡ Ok fs → new ≡ Ok ps → planned sides new ≡ Ok (record { sides = fs; new = ps })
plan_goes sides new fs ps e h =
    subst (λ (d : Result (List PlainFormula) No). planned d new ≡ Ok (record { sides = fs; new = ps })) (sym e)
    (subst (λ (d : Result (List Sep) No). planned (Ok fs) d ≡ Ok (record { sides = fs; new = ps })) (sym h) refl)
