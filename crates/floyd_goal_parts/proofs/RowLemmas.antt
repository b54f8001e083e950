-- What a row answers, step by step.
use Rattle.std.proofs.Common.{◌≡◌, ℕ, List, Result, Ok, Err, refl, sym, ap, subst}
use Rattle.floyd_text.specs.declared.refusal.No.{No}
use Rattle.floyd_text.specs.declared.refusal.RuleStop.{RuleStop}
use Rattle.floyd_text.specs.declared.refusal.RuleStop.TheVariants as r
use Rattle.floyd_text.specs.Gives.{RuleStops}
use Rattle.floyd_assert_trees.specs.declared.assertion.Assertion.{Assertion}
use Rattle.floyd_assert_trees.specs.declared.sep.Sep.{Sep}
use Rattle.floyd_tree.specs.Formulas.{PlainFormula}
use Rattle.floyd_goal_trees.specs.declared.context.Context.{Context}
use Rattle.floyd_goal_trees.specs.declared.goal.Goal.{Goal}
use Rattle.floyd_goal.specs.declared.side_goals.Sides.{Sides}
use Rattle.floyd_goal.specs.Sides.{Side}
use Rattle.floyd_goal.specs.Answers.{IsAnswer}
use Rattle.floyd_goal_parts.specs.declared.placing.Plan.{Plan}
use Rattle.floyd_goal_parts.specs.Rows.{Answer, InPlace, InPlaceUnder, IsPut, IsPutUnder, OfResult, Puts, PutsUnder, Sided, after_side}
use Rattle.floyd_goal_parts.specs.Sources.{part_of}

-- a refusal is the answer
pub row_stops : {A : Type 0} (d : Result A No) (Next : A → Answer → Type 0) (stop : RuleStop) → RuleStops stop d → IsAnswer (OfResult d Next) (Err stop)
row_stops d Next (r.No why) e = subst (λ y. OfResult y Next (Err why)) (sym e) refl
row_stops d Next r.Memory e = tt

-- what was found goes on
pub row_goes : {A : Type 0} (d : Result A No) (a : A) (Next : A → Answer → Type 0) (x : Result (List Goal) RuleStop) → d ≡ Ok a → IsAnswer (Next a) x → IsAnswer (OfResult d Next) x
row_goes d a Next x e h = subst (λ y. IsAnswer (OfResult y Next) x) (sym e) h

-- of a command that puts parts in place of one
pub place_stops : (goal : Goal) (k : ℕ) (changed : Sep → Result (List Sep) No) (source : Assertion) (part : Sep) (stop : RuleStop) → part_of goal k ≡ Ok (source, part) → RuleStops stop (changed part) → IsAnswer (InPlace goal k changed) (Err stop)
place_stops goal k changed source part stop e h =
    row_goes (part_of goal k) (source, part) (Puts goal k changed) (Err stop) e (row_stops (changed part) (IsPut goal k source) stop h)

pub place_goes : (goal : Goal) (k : ℕ) (changed : Sep → Result (List Sep) No) (source : Assertion) (part : Sep) (new : List Sep) (goals : List Goal) → part_of goal k ≡ Ok (source, part) → changed part ≡ Ok new → IsPut goal k source new (Ok goals) → IsAnswer (InPlace goal k changed) (Ok goals)
place_goes goal k changed source part new goals e f h =
    row_goes (part_of goal k) (source, part) (Puts goal k changed) (Ok goals) e (row_goes (changed part) new (IsPut goal k source) (Ok goals) f h)

-- of one that does so where side formulas are true
pub under_stops : (goal : Goal) (k : ℕ) (planned : Sep → Result Plan No) (source : Assertion) (part : Sep) (stop : RuleStop) → part_of goal k ≡ Ok (source, part) → RuleStops stop (planned part) → IsAnswer (InPlaceUnder goal k planned) (Err stop)
under_stops goal k planned source part stop e h =
    row_goes (part_of goal k) (source, part) (PutsUnder goal k planned) (Err stop) e (row_stops (planned part) (IsPutUnder goal k source) stop h)

pub under_goes : (goal : Goal) (k : ℕ) (planned : Sep → Result Plan No) (source : Assertion) (part : Sep) (plan : Plan) (x : Result (List Goal) RuleStop) → part_of goal k ≡ Ok (source, part) → planned part ≡ Ok plan → IsAnswer (IsPutUnder goal k source plan) x → IsAnswer (InPlaceUnder goal k planned) x
under_goes goal k planned source part plan x e f h =
    row_goes (part_of goal k) (source, part) (PutsUnder goal k planned) x e (row_goes (planned part) plan (IsPutUnder goal k source) x f h)

-- of side formulas, which are judged in a context, as lists that the code sees
pub sided_stops : (context seen : Context) (fs gs : List PlainFormula) (behind : List PlainFormula → List Goal) (stop : RuleStop) → seen ≡ context → gs ≡ fs → IsAnswer (Side seen gs) (Err stop) → IsAnswer (Sided context fs behind) (Err stop)
sided_stops context seen fs gs behind (r.No why) e f h =
    (Err why, subst (λ x. Side x fs (Err why)) e (subst (λ xs. Side seen xs (Err why)) f h), refl)
sided_stops context seen fs gs behind r.Memory e f h = tt

pub sided_gives : (context seen : Context) (fs gs : List PlainFormula) (behind : List PlainFormula → List Goal) (sides : Sides) (goals : List Goal) → seen ≡ context → gs ≡ fs → Side seen gs (Ok sides) → goals ≡ after_side sides.goal (behind sides.kept) → IsAnswer (Sided context fs behind) (Ok goals)
sided_gives context seen fs gs behind sides goals e f h is =
    (Ok sides, subst (λ x. Side x fs (Ok sides)) e (subst (λ xs. Side seen xs (Ok sides)) f h), ap Ok is)
