-- What calls answer, passed on to what a row says of it.
use Rattle.std.proofs.Common.{◌≡◌, Bool, true, false, List, Ok, Err, Result, refl, sym}
use Rattle.floyd_text.specs.declared.refusal.No.{No}
use Rattle.floyd_text.specs.declared.refusal.RuleStop.{RuleStop}
use Rattle.floyd_text.specs.declared.refusal.RuleStop.TheVariants as r
use Rattle.floyd_text.specs.Gives.{RuleGives}
use Rattle.floyd_goal.specs.Answers.{IsAnswer}
use Rattle.floyd_goal_trees.specs.declared.goal.Goal.{Goal}
use Rattle.floyd_pure_formulas.specs.Rows.{Answer, Unless}

pub unless_stops : (b : Bool) (refusal : No) (Next : Answer → Type 0) → b ≡ true → Unless b refusal Next (Err refusal)
unless_stops true refusal Next e = refl
unless_stops false refusal Next e = absurd cc

pub unless_passes : (b : Bool) (refusal : No) (Next : Answer → Type 0) (answer : Answer) → b ≡ false → Next answer → Unless b refusal Next answer
unless_passes true refusal Next answer e h = absurd cc
unless_passes false refusal Next answer e h = h

pub answers : (P Q : Answer → Type 0) (result : Result (List Goal) RuleStop) → ((answer : Answer) → P answer → Q answer) → IsAnswer P result → IsAnswer Q result
answers P Q (Ok goals) f h = f (Ok goals) h
answers P Q (Err (r.No refusal)) f h = f (Err refusal) h
answers P Q (Err r.Memory) f h = tt

pub passes : (b : Bool) (refusal : No) (Next : Answer → Type 0) (result : Result (List Goal) RuleStop) → b ≡ false → IsAnswer Next result → IsAnswer (Unless b refusal Next) result
passes b refusal Next result e h = answers Next (Unless b refusal Next) result (λ answer n. unless_passes b refusal Next answer e n) h

pub given : (wanted : Answer) (result : Result (List Goal) RuleStop) → RuleGives (λ gs. gs) result wanted → IsAnswer (λ answer. answer ≡ wanted) result
given wanted (Ok goals) h = sym h
given wanted (Err (r.No refusal)) h = sym h
given wanted (Err r.Memory) h = tt
