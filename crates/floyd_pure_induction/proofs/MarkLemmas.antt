-- What induction answers, by what `destruct` answers, and places of variables.
use Rattle.std.proofs.Common.{◌≡◌, ℕ, List, Ok, Err, refl, sym, ◌∙◌, ap}
use Rattle.floyd_text.specs.declared.refusal.RuleStop.{RuleStop}
use Rattle.floyd_text.specs.declared.refusal.RuleStop.TheVariants as r
use Rattle.floyd_goal_trees.specs.declared.args.Args.{Args}
use Rattle.floyd_goal_trees.specs.declared.goal.Goal.{Goal}
use Rattle.floyd_goal.specs.Answers.{IsAnswer}
use Rattle.floyd_goal.specs.Sides.{context_of}
use Rattle.floyd_pure_formulas.specs.Destruct.{DestructRow}
use Rattle.floyd_pure_induction.specs.Induction.{OfLemma, marked, parts_among, place_of}

pub cases_stop : (goal : Goal) (args : Args) (lemma : List ℕ) (stop : RuleStop) → IsAnswer (DestructRow goal args) (Err stop) → IsAnswer (OfLemma goal args lemma) (Err stop)
cases_stop goal args lemma (r.No why) d = (Err why, d, refl)
cases_stop goal args lemma r.Memory d = tt

pub cases_go : (goal : Goal) (args : Args) (lemma : List ℕ) (made goals : List Goal) (place : ℕ) (parts : List (List ℕ)) → IsAnswer (DestructRow goal args) (Ok made) → place ≡ place_of args.name (context_of goal).variables → parts ≡ parts_among args.names → marked lemma place parts (Ok made) ≡ Ok goals → IsAnswer (OfLemma goal args lemma) (Ok goals)
cases_go goal args lemma made goals place parts d e f h =
    (Ok made, d, sym h ∙ ap (λ k. marked lemma k parts (Ok made)) e ∙ ap (λ ps. marked lemma (place_of args.name (context_of goal).variables) ps (Ok made)) f)
