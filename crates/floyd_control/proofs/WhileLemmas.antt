-- Answers of the row of loops with a test.
use Rattle.std.proofs.Common.{◌≡◌, ◌<◌, ◌≤◌, Bool, true, false, List, [], ◌∷◌, length, get_or, Option, Some, None, Result, Ok, Err, refl, sym, ap, ◌∙◌, subst, arith}
use Rattle.std.specs.Prelude.{IfOk, if◌then◌else◌}
use denote.Hole.Carrier.{hidden}
use Rattle.floyd_text.specs.declared.refusal.RuleStop.{RuleStop}
use Rattle.floyd_text.specs.declared.refusal.RuleStop.TheVariants as r
use Rattle.floyd_text.specs.Gives.{RuleStops}
use Rattle.floyd_ctypes.specs.Structs.{Structs}
use Rattle.floyd_clight.specs.declared.syntax.Expr.{Expr}
use Rattle.floyd_clight.specs.declared.syntax.Stmt.{Stmt, If, Loop}
use Rattle.floyd_clight.specs.declared.syntax.Stmt.TheBlock.{hidden-the_row-Stmt-1, shape-the_row-Stmt-1}
use Rattle.floyd_clight.specs.Flat.{flat}
use Rattle.floyd_assert_trees.specs.declared.assertion.Assertion.{Assertion}
use Rattle.floyd_conditions.specs.declared.branches.Condition.{Condition}
use Rattle.floyd_goal_trees.specs.Contexts.{after_command}
use Rattle.floyd_goal_trees.specs.declared.goal.Goal.{Goal}
use Rattle.floyd_goal_trees.specs.declared.goal.Run.{Run}
use Rattle.floyd_goal.specs.Answers.{IsAnswer}
use Rattle.floyd_control.specs.ForwardLoop.{entered}
use Rattle.floyd_control.specs.ForwardIf.{is_followed}
use Rattle.floyd_control.specs.ForwardWhile.{Inside, OfLoop, Turns, TurnsBy, TurnsFrom, inside, memory_of, passes, test_of, tested, turned, while_of}
use Rattle.floyd_control.specs.Parts.{Named}
use Rattle.floyd_conditions.specs.Conditions.{condition}
use Rattle.floyd_goal_parts.proofs.RowLemmas.{row_goes, row_stops}
use Rattle.floyd_goal_runs.specs.Needing.{Needing}
use Rattle.floyd_goal_trees.specs.declared.context.Context.{Context}

pub inside_stops : (run : Run) (invariant a : Assertion) (body : List Stmt) (c : Condition) (stop : RuleStop) → IsAnswer (Inside run invariant a body c) (Err stop) → IsAnswer (TurnsBy run invariant a body c) (Err stop)
inside_stops run invariant a body c (r.No why) h = (Err why, h, refl)
inside_stops run invariant a body c r.Memory h = tt

pub inside_gives : (run : Run) (invariant a : Assertion) (body : List Stmt) (c : Condition) (goals all : List Goal) → IsAnswer (Inside run invariant a body c) (Ok goals) → all ≡ entered run (after_command run.context) invariant ∷ goals → IsAnswer (TurnsBy run invariant a body c) (Ok all)
inside_gives run invariant a body c goals all h is = (Ok goals, h, ap Ok is)

-- from the memory of an assertion
pub inside_is : (run : Run) (invariant a source : Assertion) (body : List Stmt) (c : Condition) (context : Context) (x : Result (List Goal) RuleStop) → source ≡ memory_of a → context ≡ inside run.context a → IsAnswer (Needing context source c.needs (turned run invariant source c body)) x → IsAnswer (Inside run invariant a body c) x
inside_is run invariant a source body c context x e f h =
    subst (λ (s : Assertion). IsAnswer (Needing (inside run.context a) s c.needs (turned run invariant s c body)) x) e
    (subst (λ (k : Context). IsAnswer (Needing k source c.needs (turned run invariant source c body)) x) f h)

pub from_stops : (structs : Structs) (run : Run) (invariant : Assertion) (e : Expr) (body : List Stmt) (a source : Assertion) (stop : RuleStop) → source ≡ memory_of a → RuleStops stop (condition source structs e) → IsAnswer (TurnsFrom structs run invariant e body a) (Err stop)
from_stops structs run invariant e body a source stop f h =
    row_stops (condition (memory_of a) structs e) (TurnsBy run invariant a body) stop (subst (λ (s : Assertion). RuleStops stop (condition s structs e)) f h)

pub from_gives : (structs : Structs) (run : Run) (invariant : Assertion) (e : Expr) (body : List Stmt) (a source : Assertion) (c : Condition) (x : Result (List Goal) RuleStop) → source ≡ memory_of a → condition source structs e ≡ Ok c → IsAnswer (TurnsBy run invariant a body c) x → IsAnswer (TurnsFrom structs run invariant e body a) x
from_gives structs run invariant e body a source c x f h is =
    row_goes (condition (memory_of a) structs e) c (TurnsBy run invariant a body) x (subst (λ (s : Assertion). condition s structs e ≡ Ok c) f h) is

-- the statements that begin a loop
of_if : (e : Expr) (s t : Stmt) → test_of (If e s t) ≡ (if passes s t then Some e else None)
unfolding hidden-the_row-Stmt-1 shape-the_row-Stmt-1 hidden
of_if e s t = refl

pub test_is : (d : Stmt) (e : Expr) (s t x y : Stmt) → d ≡ If e s t → x ≡ s → y ≡ t → test_of d ≡ (if passes x y then Some e else None)
test_is d e s t x y is f g =
    ap test_of is ∙ of_if e s t ∙ ap (λ z. if passes z t then Some e else None) (sym f) ∙ ap (λ z. if passes x z then Some e else None) (sym g)

pub test_there : (d : Stmt) (e copy : Expr) (s t x y : Stmt) (p : Bool) → d ≡ If e s t → x ≡ s → y ≡ t → p ≡ passes x y → p ≡ true → copy ≡ e → Some copy ≡ test_of d
test_there d e copy s t x y p is f g h yes_ same = ap Some same ∙ sym (test_is d e s t x y is f g ∙ ap (λ b. if b then Some e else None) (sym h ∙ yes_))

pub test_absent : (d : Stmt) (e : Expr) (s t x y : Stmt) (p : Bool) → d ≡ If e s t → x ≡ s → y ≡ t → p ≡ passes x y → p ≡ false → None ≡ test_of d
test_absent d e s t x y p is f g h no_ = sym (test_is d e s t x y is f g ∙ ap (λ b. if b then Some e else None) (sym h ∙ no_))

of_loop : (s t : Stmt) → while_of (Loop s t) ≡ (if is_followed (flat t) then None else tested (flat s))
unfolding hidden-the_row-Stmt-1 shape-the_row-Stmt-1 hidden
of_loop s t = refl

pub while_is : (d s t x y : Stmt) → d ≡ Loop s t → x ≡ s → y ≡ t → while_of d ≡ (if is_followed (flat y) then None else tested (flat x))
while_is d s t x y is f g =
    ap while_of is ∙ of_loop s t ∙ ap (λ z. if is_followed (flat t) then None else tested (flat z)) (sym f) ∙ ap (λ z. if is_followed (flat z) then None else tested (flat x)) (sym g)

-- one assertion is given
pub one_loop : (structs : Structs) (run : Run) (given : List Assertion) (a : Assertion) (loop : Expr × List Stmt) (x : Result (List Goal) RuleStop) → 1 ≤ length given → length given < 2 → a ≡ get_or given 0 a → IsAnswer (Named run (Turns structs run a loop)) x → IsAnswer (OfLoop structs run given (Some loop)) x
one_loop structs run [] a loop x low high is h = absurd (omega arith)
one_loop structs run (b ∷ []) a loop x low high is h = subst (λ (d : Assertion). IsAnswer (Named run (Turns structs run d loop)) x) is h
one_loop structs run (b ∷ c ∷ given) a loop x low high is h = absurd (omega arith)

pub while_absent : (d s t y : Stmt) (p : Bool) → d ≡ Loop s t → y ≡ t → p ≡ is_followed (flat y) → p ≡ true → None ≡ while_of d
while_absent d s t y p is g h full = sym (while_is d s t s y is refl g ∙ ap (λ b. if b then None else tested (flat s)) (sym h ∙ full))

pub while_there : {E : Type 0} (r : Result (Option (Expr × List Stmt)) E) (d s t x y : Stmt) (p : Bool) (rest : List Stmt) → d ≡ Loop s t → x ≡ s → y ≡ t → p ≡ is_followed (flat y) → p ≡ false → rest ≡ flat x → IfOk r (λ o. o ≡ tested rest) → IfOk r (λ o. o ≡ while_of d)
while_there r d s t x y p rest is f g h empty same told =
    subst (λ z. IfOk r (λ o. o ≡ z)) (ap tested same ∙ sym (while_is d s t x y is f g ∙ ap (λ b. if b then None else tested (flat x)) (sym h ∙ empty))) told
