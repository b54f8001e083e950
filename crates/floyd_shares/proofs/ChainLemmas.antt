-- What a row answers, step by step.
use Rattle.std.proofs.Common.{◌≡◌, Bool, true, false, Result, Ok, Err, refl, sym, ap, subst}
use Rattle.floyd_text.specs.declared.refusal.No.{No}
use Rattle.floyd_text.specs.declared.refusal.RuleStop.{RuleStop}
use Rattle.floyd_text.specs.declared.refusal.RuleStop.TheVariants as r
use Rattle.floyd_text.specs.Gives.{RuleGives, RuleStops}
use Rattle.floyd_goal.specs.Answers.{IsAnswer}
use Rattle.floyd_goal.specs.Goals.{wrong_goal}
use Rattle.floyd_shares.specs.Chains.{After, Then, When}

-- a step that is refused, and one that is not
pub then_stops : {A B : Type 0} (d : Result A No) (Next : A → Result B No → Type 0) (stop : RuleStop) → RuleStops stop d → IsAnswer (Then d Next) (Err stop)
then_stops d Next (r.No why) e = subst (λ y. Then y Next (Err why)) (sym e) refl
then_stops d Next r.Memory e = tt

pub then_goes : {A B : Type 0} (d : Result A No) (a : A) (Next : A → Result B No → Type 0) (x : Result B RuleStop) → d ≡ Ok a → IsAnswer (Next a) x → IsAnswer (Then d Next) x
then_goes d a Next x e h = subst (λ y. IsAnswer (Then y Next) x) (sym e) h

-- the same of a step of which a relation says what it answers
pub after_stops : {A B : Type 0} (Right : Result A No → Type 0) (Next : A → Result B No → Type 0) (stop : RuleStop) → IsAnswer Right (Err stop) → IsAnswer (After Right Next) (Err stop)
after_stops Right Next (r.No why) h = (Err why, h, refl)
after_stops Right Next r.Memory h = tt

pub after_goes : {A B : Type 0} (Right : Result A No → Type 0) (a : A) (Next : A → Result B No → Type 0) (x : Result B RuleStop) → Right (Ok a) → IsAnswer (Next a) x → IsAnswer (After Right Next) x
after_goes Right a Next (Ok b) h is = (Ok a, h, is)
after_goes Right a Next (Err (r.No why)) h is = (Ok a, h, is)
after_goes Right a Next (Err r.Memory) h is = tt

-- where something is so, and where it is not
pub when_so : {B : Type 0} (b : Bool) (Next : Result B No → Type 0) (x : Result B RuleStop) → b ≡ true → IsAnswer Next x → IsAnswer (When b Next) x
when_so true Next x e h = h
when_so false Next x e h = absurd cc

pub when_not : {B : Type 0} (b : Bool) (Next : Result B No → Type 0) (why : No) → b ≡ false → why ≡ wrong_goal → IsAnswer (When b Next) (Err (r.No why))
when_not true Next why e is = absurd cc
when_not false Next why e is = ap (λ (w : No). Err w) is

-- what a definition gives is the answer
pub given : {A : Type 0} (d : Result A No) (x : Result A RuleStop) → RuleGives (λ a. a) x d → IsAnswer (λ y. y ≡ d) x
given d (Ok a) e = sym e
given d (Err (r.No why)) e = sym e
given d (Err r.Memory) e = tt
