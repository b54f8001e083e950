-- What `fold` answers, where parts are taken out under side formulas.
use Rattle.std.proofs.Common.{◌≡◌, ℕ, List, Result, Ok, Err, refl, subst}
use Rattle.floyd_text.specs.declared.refusal.RuleStop.{RuleStop}
use Rattle.floyd_text.specs.declared.refusal.RuleStop.TheVariants as r
use Rattle.floyd_tree.specs.Formulas.{PlainFormula}
use Rattle.floyd_assert.specs.Removal.{GivesDifference}
use Rattle.floyd_assert_trees.specs.declared.assertion.Assertion.{Assertion}
use Rattle.floyd_assert_trees.specs.declared.sep.Sep.{Sep}
use Rattle.floyd_goal_trees.specs.declared.args.Args.{Args}
use Rattle.floyd_goal_trees.specs.declared.context.Context.{Context}
use Rattle.floyd_goal_trees.specs.declared.goal.Goal.{Goal}
use Rattle.floyd_goal.specs.declared.side_goals.Sides.{Sides}
use Rattle.floyd_goal.specs.Answers.{IsAnswer}
use Rattle.floyd_goal.specs.Sides.{Side, context_of}
use Rattle.floyd_text.specs.Gives.{RuleStops}
use Rattle.floyd_tree.specs.Plain.{Plain}
use Rattle.floyd_assert_changes.specs.Changed.{assertion_with}
use Rattle.floyd_assert_instances.specs.Instances.{taken}
use Rattle.floyd_goal_parts.proofs.RowLemmas.{row_goes, row_stops}
use Rattle.floyd_entail_predicates.specs.Fold.{Folds, FoldsClause, FoldsWith, Removes, below, folded}

pub removal_stops : (goal : Goal) (args : Args) (source : Assertion) (parts : List Sep) (sides : Sides) (stop : RuleStop) → GivesDifference (Err stop) source.parts parts → IsAnswer (Removes goal args source parts sides) (Err stop)
removal_stops goal args source parts sides (r.No why) d = (Err why, d, refl)
removal_stops goal args source parts sides r.Memory d = tt

pub removal_goes : (goal : Goal) (args : Args) (source : Assertion) (parts rest : List Sep) (sides : Sides) (goals : List Goal) → GivesDifference (Ok rest) source.parts parts → folded goal args source sides (Ok rest) ≡ Ok goals → IsAnswer (Removes goal args source parts sides) (Ok goals)
removal_goes goal args source parts rest sides goals d e = (Ok rest, d, subst (λ x. x ≡ folded goal args source sides (Ok rest)) e refl)

pub sides_stop : (goal : Goal) (args : Args) (source clause : Assertion) (seen : Context) (fs : List PlainFormula) (stop : RuleStop) → seen ≡ context_of goal → fs ≡ clause.props → IsAnswer (Side seen fs) (Err stop) → IsAnswer (Folds goal args source clause) (Err stop)
sides_stop goal args source clause seen fs (r.No why) e f h =
    (Err why, subst (λ x. Side x clause.props (Err why)) e (subst (λ xs. Side seen xs (Err why)) f h), refl)
sides_stop goal args source clause seen fs r.Memory e f h = tt

-- what is answered behind the side formulas
pub sides_go : (goal : Goal) (args : Args) (source clause : Assertion) (seen : Context) (fs : List PlainFormula) (sides : Sides) (x : Result (List Goal) RuleStop) → seen ≡ context_of goal → fs ≡ clause.props → Side seen fs (Ok sides) → IsAnswer (Removes goal args source clause.parts sides) x → IsAnswer (Folds goal args source clause) x
sides_go goal args source clause seen fs sides (Ok goals) e f h told =
    (Ok sides, subst (λ y. Side y clause.props (Ok sides)) e (subst (λ xs. Side seen xs (Ok sides)) f h), told)
sides_go goal args source clause seen fs sides (Err (r.No why)) e f h told =
    (Ok sides, subst (λ y. Side y clause.props (Ok sides)) e (subst (λ xs. Side seen xs (Ok sides)) f h), told)
sides_go goal args source clause seen fs sides (Err r.Memory) e f h told = tt

-- the terms for the clause's existentials, as the program has them
pub instance_stops : (goal : Goal) (args : Args) (source clause : Assertion) (by seen : List (List ℕ × Plain)) (stop : RuleStop) → taken clause.existentials args.more ≡ Ok by → seen ≡ by → RuleStops stop (assertion_with seen (below clause)) → IsAnswer (FoldsClause goal args source clause) (Err stop)
instance_stops goal args source clause by seen stop e f h =
    row_goes (taken clause.existentials args.more) by (FoldsWith goal args source clause) (Err stop) e
    (row_stops (assertion_with by (below clause)) (Folds goal args source) stop (subst (λ b. RuleStops stop (assertion_with b (below clause))) f h))

pub instance_goes : (goal : Goal) (args : Args) (source clause instance : Assertion) (by seen : List (List ℕ × Plain)) (x : Result (List Goal) RuleStop) → taken clause.existentials args.more ≡ Ok by → seen ≡ by → assertion_with seen (below clause) ≡ Ok instance → IsAnswer (Folds goal args source instance) x → IsAnswer (FoldsClause goal args source clause) x
instance_goes goal args source clause instance by seen x e f h told =
    row_goes (taken clause.existentials args.more) by (FoldsWith goal args source clause) x e
    (row_goes (assertion_with by (below clause)) instance (Folds goal args source) x (subst (λ b. assertion_with b (below clause) ≡ Ok instance) f h) told)
