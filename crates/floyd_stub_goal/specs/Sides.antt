-- What the commands share: refusals, side formulas, and what is left to run.
use Rattle.std.specs.Prelude.{Bool, true, false, not, ◌&&◌, List, [], ◌∷◌, ◌++◌, filter, Option, Some, None, Result, Ok, Err}
use Rattle.floyd_text.specs.declared.code.Code.TheVariants.{WrongGoal}
use Rattle.floyd_text.specs.declared.refusal.No.{No}
use Rattle.floyd_text.specs.declared.refusal.Shown.TheVariants.{Nothing}
use Rattle.floyd_int.specs.declared.kinds.IntKind.TheVariants.{I32, U32}
use Rattle.floyd_ctypes.specs.declared.ctype.CType.{CType, Int}
use Rattle.floyd_clight.specs.declared.syntax.Stmt.{Stmt}
use Rattle.floyd_stub_assert.specs.declared.term.Term.{Term, Number, Vint' as Vint_term, more_of-Term, end_of-Term}
use Rattle.floyd_stub_assert.specs.Terms.{same_term}
use Rattle.floyd_stub_assert.specs.declared.formula.Formula.{Formula, Equal, Hasty, And}
use Rattle.floyd_stub_assert.specs.declared.assertion.Assertion.{Assertion}
use Rattle.floyd_stub_goal.specs.declared.goal.Context.{Context}
use Rattle.floyd_stub_goal.specs.declared.goal.Exits.{Exits}
use Rattle.floyd_stub_goal.specs.declared.goal.Run.{Run as RunGoal}
use Rattle.floyd_stub_goal.specs.declared.goal.Entail.{Entail as EntailGoal}
use Rattle.floyd_stub_goal.specs.declared.goal.Goal.{Goal}
use Rattle.floyd_stub_goal.specs.declared.goal.Goal.TheVariants.{Run, Entail, Pure}

-- the goal is of another kind, or the next statement of another form
abbrev pub wrong_goal : No
wrong_goal = record { code = WrongGoal; shown = Nothing }

-- the run that a goal is of
abbrev pub run_of : Goal → Option RunGoal
run_of (Run r) = Some r
run_of goal = None

-- the entailment that a goal is
abbrev pub entail_of : Goal → Option EntailGoal
entail_of (Entail e) = Some e
entail_of goal = None

abbrev pub and_then : {A B : Type 0} → Result A No → (A → Result B No) → Result B No
and_then (Err e) f = Err e
and_then (Ok a) f = f a

abbrev pub or_refused : No → Option Term → Result Term No
or_refused e None = Err e
or_refused e (Some t) = Ok t

-- an int or an unsigned int
abbrev pub is_word : CType → Bool
is_word (Int I32) = true
is_word (Int U32) = true
is_word t = false

abbrev pub is_vint : Term → Bool
is_vint (Number n) = false
is_vint (Vint_term p (more_of-Term a end_of-Term)) = true

-- true at once: an equation of the same terms, or that a Vint is one of a type of 32 bits
abbrev pub is_dropped : Formula → Bool
is_dropped (Equal a b) = same_term a b
is_dropped (Hasty t a) = is_word t && is_vint a
is_dropped f = false

abbrev pub kept : List Formula → List Formula
kept fs = filter (λ f. not (is_dropped f)) fs

-- with another one behind it, if any
abbrev pub joined : Formula → Option Formula → Formula
joined f None = f
joined f (Some g) = And f g

-- all of them in one formula, nested to the right
abbrev pub conjunction : List Formula → Option Formula
conjunction [] = None
conjunction (f ∷ fs) = Some (joined f (conjunction fs))

-- the goal of a formula, if any
abbrev pub side_goals : Context → Option Formula → List Goal
side_goals context None = []
side_goals context (Some f) = Pure (record { context = context; target = f }) ∷ []

abbrev pub with_hypotheses : Context → List Formula → Context
with_hypotheses context fs = record { hypotheses = context.hypotheses ++ fs }

-- the goal of what is left to run; where nothing is left, that the normal exit holds
abbrev pub run_goal : Context → Assertion → List Stmt → Exits → Goal
run_goal context source [] exits = Entail (record { context = context; source = source; target = exits.normal })
run_goal context source (s ∷ ss) exits = Run (record { context = context; source = source; rest = s ∷ ss; exits = exits })
