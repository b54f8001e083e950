-- Laws of what the commands share.
use Rattle.std.proofs.Common.{◌≡◌, ℕ, List, [], ◌∷◌, ◌++◌, Option, Some, None, Result, Ok, Err, refl}
use Rattle.floyd_text.specs.declared.refusal.No.{No}
use Rattle.floyd_clight.specs.declared.syntax.Stmt.{Stmt}
use Rattle.floyd_stub_machine.specs.Machine.{Act}
use Rattle.floyd_stub_assert.specs.declared.formula.Formula.{Formula}
use Rattle.floyd_stub_assert.specs.declared.assertion.Assertion.{Assertion}
use Rattle.floyd_stub_assert.specs.Heaplet.{Heaplet}
use Rattle.floyd_stub_assert.specs.Data.{Env}
use Rattle.floyd_stub_assert.specs.Truth.{AllTrue}
use Rattle.floyd_stub_goal.specs.declared.goal.Context.{Context}
use Rattle.floyd_stub_goal.specs.declared.goal.Exits.{Exits}
use Rattle.floyd_stub_goal.specs.declared.goal.Goal.{Goal}
use Rattle.floyd_stub_runs.specs.World.{World}
use Rattle.floyd_stub_runs.specs.Safe.{KeepsBelow, SafeAll}
use Rattle.floyd_stub_goal.specs.GoalHolds.{Stands, Leaves, GoalHolds}
use Rattle.floyd_stub_goal.specs.Sides.{and_then, kept, conjunction, side_goals, run_goal}
use Rattle.floyd_stub_goal.proofs.Truths.{TruthOf, conjunction_true}

abbrev pub AllHold : World → ℕ → List Goal → Type 0
AllHold W n [] = Unit {0}
AllHold W n (g ∷ gs) = GoalHolds W n g × AllHold W n gs

pub all_hold_front : (W : World) (n : ℕ) (gs hs : List Goal) → AllHold W n (gs ++ hs) → AllHold W n gs × AllHold W n hs
all_hold_front W n [] hs p = (tt, p)
all_hold_front W n (g ∷ gs) hs p =
    let q = all_hold_front W n gs hs p.1 in
    ((p.0, q.0), q.1)

side_true_of : (W : World) (n : ℕ) (context : Context) (o : Option Formula) → AllHold W n (side_goals context o) → (x : Env) → AllTrue x context.hypotheses → TruthOf x o
side_true_of W n context None p x h = tt
side_true_of W n context (Some f) p x h = p.0 x h

-- the side formulas are true where their goal holds
pub side_true : (W : World) (n : ℕ) (context : Context) (fs : List Formula) → AllHold W n (side_goals context (conjunction (kept fs))) → (x : Env) → AllTrue x context.hypotheses → AllTrue x (kept fs)
side_true W n context fs p x h = conjunction_true x (kept fs) (side_true_of W n context (conjunction (kept fs)) p x h)

-- what is left to run is safe where its goal holds
pub run_safe : (W : World) (n : ℕ) (context : Context) (source : Assertion) (ss : List Stmt) (exits : Exits) → GoalHolds W n (run_goal context source ss exits) → (x : Env) → AllTrue x context.hypotheses → KeepsBelow W n → (act : Act) (h : Heaplet) → Stands x exits.ret.result source act h → SafeAll W n ss (Leaves x exits) act h
run_safe W n context source [] exits p x hs keeps act h s = record { typed = s.typed; blocks = s.blocks; holds = p x hs act.temps h s.holds }
run_safe W n context source (t ∷ ss) exits p x hs keeps act h s = p x hs keeps act h s

-- what and_then gives
pub record Steps {A B : Type 0} (r : Result A No) (f : A → Result B No) (b : B) : Type 0 where
  pub first : A
  pub is : r ≡ Ok first
  pub gives : f first ≡ Ok b

pub steps_of : {A B : Type 0} (r : Result A No) (f : A → Result B No) (b : B) → and_then r f ≡ Ok b → Steps r f b
steps_of (Err e) f b p = cc
steps_of (Ok a) f b p = record { first = a; is = refl; gives = p }

abbrev pub ok : {A : Type 0} → A → Result A No
ok a = Ok a

abbrev pub err : {A : Type 0} → No → Result A No
err e = Err e

pub ok_is : {A : Type 0} {a b : A} → ok a ≡ ok b → a ≡ b
ok_is e = cc

-- a refusal is no answer
pub refused : {A : Type 0} {no : No} {a : A} → err no ≡ ok a → ⊥
refused e = cc
