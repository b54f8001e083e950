-- What a conjunction beyond the limits refuses.
use Rattle.std.proofs.Common.{◌≡◌, Bool, true, false, cond, List, Option, Some, None, Result, Ok, Err, ap, sym, subst}
use Rattle.floyd_text.specs.declared.refusal.No.{No}
use Rattle.floyd_text.specs.declared.refusal.RuleStop.{RuleStop}
use Rattle.floyd_text.specs.declared.refusal.RuleStop.TheVariants as r
use Rattle.floyd_text.specs.Gives.{RuleStops}
use Rattle.floyd_tree.specs.Formulas.{PlainFormula}
use Rattle.floyd_tree.specs.MadeFormulas.{formula_fits}
use Rattle.floyd_goal_formulas.specs.Keeping.{Kept, conjunction, too_large}
use Rattle.floyd_goal_formulas.specs.KeepingClauses.{optional, conjoined}
use Rattle.floyd_goal_trees.specs.declared.context.Context.{Context}
use Rattle.floyd_goal.specs.declared.side_goals.Sides.{Sides}
use Rattle.floyd_goal.specs.Answers.{IsAnswer}
use Rattle.floyd_goal.specs.Sides.{Side, side_goal}

abbrev none_made : {X : Type 0} → No → Result X No
none_made why = Err why

refused_if : (b : Bool) (target : PlainFormula) (sides : Sides) (why : No) → cond b (Ok (Some target)) (Err too_large) ≡ none_made why → none_made why ≡ cond b (Ok sides) (Err too_large)
refused_if true target sides why e = absurd cc
refused_if false target sides why e = let same : too_large ≡ why = cc in ap none_made (sym same)

refused : (context : Context) (kept : List PlainFormula) (o : Option PlainFormula) (why : No) → optional o ≡ Err why → Err why ≡ side_goal context kept o
refused context kept None why e = absurd cc
refused context kept (Some target) why e = refused_if (formula_fits target) target _ why e

refuses : (context : Context) (fs kept : List PlainFormula) (stop : RuleStop) → Kept context.hypotheses fs kept → RuleStops stop (conjoined kept) → IsAnswer (Side context fs) (Err stop)
refuses context fs kept (r.No why) k e = (kept, k, refused context kept (conjunction kept) why e)
refuses context fs kept r.Memory k e = tt

-- the same of lists that the code sees
pub stops_side : (context : Context) (fs hs kept ks : List PlainFormula) (stop : RuleStop) → hs ≡ context.hypotheses → ks ≡ kept → Kept hs fs kept → RuleStops stop (conjoined ks) → IsAnswer (Side context fs) (Err stop)
stops_side context fs hs kept ks stop h same k e =
    refuses context fs kept stop (subst (λ xs. Kept xs fs kept) h k) (subst (λ xs. RuleStops stop (conjoined xs)) same e)
