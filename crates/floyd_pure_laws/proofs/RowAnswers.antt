-- What each call answers is what its row says.
use Rattle.std.proofs.Common.{◌≡◌, true, false, not, List, [], Result, Ok, Err, refl, sym, ap, subst}
use Rattle.floyd_text.specs.declared.refusal.No.{No}
use Rattle.floyd_text.specs.declared.refusal.RuleStop.{RuleStop}
use Rattle.floyd_text.specs.declared.refusal.RuleStop.TheVariants as r
use Rattle.floyd_text.specs.Gives.{RuleStops}
use Rattle.floyd_tree.specs.declared.weights.Weight.{Weight}
use Rattle.floyd_arith.specs.Certificates.{certified}
use Rattle.floyd_listlaw.specs.declared.instance.Law.{Law}
use Rattle.floyd_listlaw.specs.Instances.{instance}
use Rattle.floyd_goal.specs.Answers.{IsAnswer}
use Rattle.floyd_goal.specs.Goals.{intros_first, is_pending, wrong_goal}
use Rattle.floyd_goal_formulas.specs.Said.{said}
use Rattle.floyd_goal_trees.specs.declared.args.Args.{Args}
use Rattle.floyd_goal_trees.specs.declared.goal.Goal.{Goal}
use Rattle.floyd_goal_trees.specs.declared.goal.Pure.{Pure}
use Rattle.floyd_pure_formulas.proofs.Answering.{passes, unless_passes, unless_stops}
use Rattle.floyd_pure_laws.specs.ByLaw.{ByLaw, LawRow}
use Rattle.floyd_pure_laws.specs.Lia.{Certifies, closed, may_be_certified}

-- `lia`
pub not_certified : (weights : List Weight) (pure : Pure) → may_be_certified (said pure.target) ≡ false → Certifies weights pure (Err wrong_goal)
not_certified weights pure e = unless_stops (not (may_be_certified (said pure.target))) wrong_goal (λ answer. answer ≡ closed (certified pure.context.hypotheses pure.target weights)) (ap not e)

pub certifies : (weights : List Weight) (pure : Pure) → may_be_certified (said pure.target) ≡ true → certified pure.context.hypotheses pure.target weights ≡ Ok tt → Certifies weights pure (Ok [])
certifies weights pure e h =
    unless_passes (not (may_be_certified (said pure.target))) wrong_goal (λ answer. answer ≡ closed (certified pure.context.hypotheses pure.target weights)) (Ok []) (ap not e) (sym (ap closed h))

closed_stops : (wanted : Result (Unit {0}) No) (stop : RuleStop) → RuleStops stop wanted → IsAnswer (λ answer. answer ≡ closed wanted) (Err stop)
closed_stops wanted (r.No refusal) h = sym (ap closed h)
closed_stops wanted r.Memory h = tt

pub certifies_not : (weights : List Weight) (pure : Pure) (stop : RuleStop) → may_be_certified (said pure.target) ≡ true → RuleStops stop (certified pure.context.hypotheses pure.target weights) → IsAnswer (Certifies weights pure) (Err stop)
certifies_not weights pure stop e h =
    passes (not (may_be_certified (said pure.target))) wrong_goal (λ answer. answer ≡ closed (certified pure.context.hypotheses pure.target weights)) (Err stop) (ap not e) (closed_stops (certified pure.context.hypotheses pure.target weights) stop h)

-- `law`
pub law_pending : (goal : Goal) (args : Args) → is_pending goal ≡ true → LawRow goal args (Err intros_first)
law_pending goal args e = unless_stops (is_pending goal) intros_first (ByLaw goal (instance args.name args.terms)) e

pub law_used : (goal : Goal) (args : Args) (law : Law) (result : Result (List Goal) RuleStop) → is_pending goal ≡ false → instance args.name args.terms ≡ Ok law → IsAnswer (ByLaw goal (Ok law)) result → IsAnswer (LawRow goal args) result
law_used goal args law result e i h =
    passes (is_pending goal) intros_first (ByLaw goal (instance args.name args.terms)) result e (subst (λ made. IsAnswer (ByLaw goal made) result) (sym i) h)

law_stops : (goal : Goal) (made : Result Law No) (stop : RuleStop) → RuleStops stop made → IsAnswer (ByLaw goal made) (Err stop)
law_stops goal made (r.No refusal) h = subst (λ m. ByLaw goal m (Err refusal)) (sym h) refl
law_stops goal made r.Memory h = tt

pub law_refused : (goal : Goal) (args : Args) (stop : RuleStop) → is_pending goal ≡ false → RuleStops stop (instance args.name args.terms) → IsAnswer (LawRow goal args) (Err stop)
law_refused goal args stop e h =
    passes (is_pending goal) intros_first (ByLaw goal (instance args.name args.terms)) (Err stop) e (law_stops goal (instance args.name args.terms) stop h)
