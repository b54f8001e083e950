-- What becomes of two parts that may differ in their shares.
use Rattle.std.proofs.Common.{◌≡◌, true, false, Result, Ok, Err, sym, ap, inl, inr}
use Rattle.floyd_text.specs.declared.refusal.No.{No}
use Rattle.floyd_text.specs.declared.refusal.RuleStop.{RuleStop}
use Rattle.floyd_text.specs.declared.refusal.RuleStop.TheVariants as r
use Rattle.floyd_text.specs.Gives.{RuleGives}
use Rattle.floyd_tree.specs.Plain.{Plain}
use Rattle.floyd_assert_trees.specs.declared.sep.Sep.{Sep}
use Rattle.floyd_goal.specs.Answers.{IsAnswer}
use Rattle.floyd_goal.specs.Goals.{wrong_goal}
use Rattle.floyd_goal_parts.specs.declared.placing.Plan.{Plan}
use Rattle.floyd_shares.specs.JoinShare.{OfShares, summed}
use Rattle.floyd_shares.specs.Shares.{with_share}

pub false_is_true : false ≡ true → ⊥
false_is_true e = absurd cc

pub shares_same : (p q : Sep) (a b : Plain) (x : Result Plan RuleStop) → with_share q a ≡ p → RuleGives (λ plan. plan) x (summed p a b) → IsAnswer (OfShares p q a b) x
shares_same p q a b (Ok plan) e h = inl (e, sym h)
shares_same p q a b (Err (r.No why)) e h = inl (e, sym h)
shares_same p q a b (Err r.Memory) e h = tt

pub shares_differ : (p q : Sep) (a b : Plain) (why : No) → why ≡ wrong_goal → (with_share q a ≡ p → ⊥) → IsAnswer (OfShares p q a b) (Err (r.No why))
shares_differ p q a b why e n = inr (n, ap (λ (w : No). Err w) e)
