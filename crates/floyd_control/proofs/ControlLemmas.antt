-- Goals from assertions, and the statements that commands take apart.
use Rattle.std.proofs.Common.{◌≡◌, ◌<◌, ◌≤◌, Bool, false, List, [], ◌∷◌, length, get_or, Some, None, Result, sym, subst, arith}
use Rattle.std.specs.Prelude.{IfOk}
use denote.Hole.Carrier.{hidden}
use Rattle.floyd_text.specs.declared.refusal.RuleStop.{RuleStop}
use Rattle.floyd_ctypes.specs.Structs.{Structs}
use Rattle.floyd_clight.specs.declared.syntax.Expr.{Expr}
use Rattle.floyd_clight.specs.declared.syntax.Stmt.{Stmt, If, Loop}
use Rattle.floyd_clight.specs.declared.syntax.Stmt.TheBlock.{hidden-the_row-Stmt-1, shape-the_row-Stmt-1}
use Rattle.floyd_assert_trees.specs.declared.assertion.Assertion.{Assertion}
use Rattle.floyd_goal_forms.specs.Starts.{run_goal}
use Rattle.floyd_goal_trees.specs.declared.context.Context.{Context}
use Rattle.floyd_goal_trees.specs.declared.exits.Exits.{Exits}
use Rattle.floyd_goal_trees.specs.declared.goal.Goal.{Goal}
use Rattle.floyd_goal_trees.specs.declared.goal.Run.{Run}
use Rattle.floyd_goal.specs.Answers.{IsAnswer}
use Rattle.floyd_goal.specs.Goals.{some_left, wrong_goal}
use Rattle.floyd_goal_parts.specs.Rows.{Unless}
use Rattle.floyd_control.specs.ForwardIf as i
use Rattle.floyd_control.specs.ForwardIf.{Divides, Ifs, is_followed}
use Rattle.floyd_control.specs.ForwardLoop as l
use Rattle.floyd_control.specs.ForwardLoop.{LoopsWith}
use Rattle.floyd_control.specs.Parts.{Named, behind, context_from, runs_from, source_from}

pub from_is : {E : Type 0} (r : Result Goal E) (context made : Context) (a source : Assertion) (ss : List Stmt) (exits : Exits) (p : Bool) → p ≡ some_left a.existentials → made ≡ context_from p context a → source ≡ source_from p a → IfOk r (λ g. g ≡ run_goal (record { context = made; source = source; rest = ss; exits = exits })) → IfOk r (λ g. g ≡ runs_from context a ss exits)
from_is r context made a source ss exits p e f h is =
    subst (λ b. IfOk r (λ g. g ≡ run_goal (record { context = context_from b context a; source = source_from b a; rest = ss; exits = exits }))) e
    (subst (λ (s : Assertion). IfOk r (λ g. g ≡ run_goal (record { context = context_from p context a; source = s; rest = ss; exits = exits }))) h
    (subst (λ (c : Context). IfOk r (λ g. g ≡ run_goal (record { context = c; source = source; rest = ss; exits = exits }))) f is))

-- no assertion is given, and no statement follows
pub none_given : (structs : Structs) (run : Run) (given : List Assertion) (e : Expr) (s t : Stmt) (r : Result (List Goal) RuleStop) → length given < 1 → is_followed (behind run) ≡ false → IsAnswer (Named run (Divides structs run None e s t)) r → IsAnswer (Ifs structs run given e s t) r
none_given structs run [] e s t r low f h = subst (λ b. IsAnswer (Unless b wrong_goal (Named run (Divides structs run None e s t))) r) (sym f) h
none_given structs run (a ∷ given) e s t r low f h = absurd (omega arith)

-- one is given
pub one_given : (structs : Structs) (run : Run) (given : List Assertion) (a : Assertion) (e : Expr) (s t : Stmt) (r : Result (List Goal) RuleStop) → 1 ≤ length given → length given < 2 → a ≡ get_or given 0 a → IsAnswer (Named run (Divides structs run (Some a) e s t)) r → IsAnswer (Ifs structs run given e s t) r
one_given structs run [] a e s t r low high is h = absurd (omega arith)
one_given structs run (b ∷ []) a e s t r low high is h = subst (λ (d : Assertion). IsAnswer (Named run (Divides structs run (Some d) e s t)) r) is h
one_given structs run (b ∷ c ∷ given) a e s t r low high is h = absurd (omega arith)

-- branches and loops
of_if : (structs : Structs) (run : Run) (given : List Assertion) (e : Expr) (s t : Stmt) (r : Result (List Goal) RuleStop) → IsAnswer (Ifs structs run given e s t) r → IsAnswer (i.OfStatement structs run given (If e s t)) r
unfolding hidden-the_row-Stmt-1 shape-the_row-Stmt-1 hidden
of_if structs run given e s t r h = h

pub if_answers : (structs : Structs) (run : Run) (given : List Assertion) (d : Stmt) (e : Expr) (s t x y : Stmt) (r : Result (List Goal) RuleStop) → d ≡ If e s t → x ≡ s → y ≡ t → IsAnswer (Ifs structs run given e x y) r → IsAnswer (i.OfStatement structs run given d) r
if_answers structs run given d e s t x y r is f g h =
    subst (λ (z : Stmt). IsAnswer (i.OfStatement structs run given z) r) (sym is)
    (of_if structs run given e s t r
    (subst (λ (z : Stmt). IsAnswer (Ifs structs run given e s z) r) g (subst (λ (z : Stmt). IsAnswer (Ifs structs run given e z y) r) f h)))

of_loop : (run : Run) (given : List Assertion) (s t : Stmt) (r : Result (List Goal) RuleStop) → IsAnswer (LoopsWith run given s t) r → IsAnswer (l.OfStatement run given (Loop s t)) r
unfolding hidden-the_row-Stmt-1 shape-the_row-Stmt-1 hidden
of_loop run given s t r h = h

pub loop_is : (run : Run) (given : List Assertion) (d s t x y : Stmt) (r : Result (List Goal) RuleStop) → d ≡ Loop s t → x ≡ s → y ≡ t → IsAnswer (LoopsWith run given x y) r → IsAnswer (l.OfStatement run given d) r
loop_is run given d s t x y r is f g h =
    subst (λ (z : Stmt). IsAnswer (l.OfStatement run given z) r) (sym is)
    (of_loop run given s t r (subst (λ (z : Stmt). IsAnswer (LoopsWith run given s z) r) g (subst (λ (z : Stmt). IsAnswer (LoopsWith run given z y) r) f h)))
