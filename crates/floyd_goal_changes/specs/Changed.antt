-- Goals with terms in place of variables: in hypotheses, in what holds before and behind, and in what must hold where
-- statements are left. The variables of the context stay.
use Rattle.std.specs.Prelude.{ℕ, List, [], ◌∷◌, drop, Option, Some, None, Result, Ok, Err}
use Rattle.floyd_text.specs.declared.refusal.No.{No}
use Rattle.floyd_tree.specs.Formulas.{formulas}
use Rattle.floyd_tree.specs.Plain.{Plain}
use Rattle.floyd_truth.specs.Capture.{Changes}
use Rattle.floyd_truth.specs.Replace.{FormulaSortsAgree, FormulasSortsAgree}
use Rattle.floyd_assert_trees.specs.declared.assertion.Assertion.{Assertion}
use Rattle.floyd_assert_trees.specs.declared.sep.Sep.{Sep}
use Rattle.floyd_assert_trees.specs.declared.sep.Sep.TheVariants.{Valid}
use Rattle.floyd_assert_changes.specs.Changed.{AssertionSortsAgree, assertion_with}
use Rattle.floyd_assert_changes.specs.Substituted.{formula_with, formulas_with}
use Rattle.floyd_goal_trees.specs.Contexts.{after_command}
use Rattle.floyd_goal_trees.specs.declared.context.Context.{Context}
use Rattle.floyd_goal_trees.specs.declared.exits.Exit.{Exit}
use Rattle.floyd_goal_trees.specs.declared.exits.Exit.TheVariants as e
use Rattle.floyd_goal_trees.specs.declared.exits.Exits.{Exits}
use Rattle.floyd_goal_trees.specs.declared.exits.Return.{Return}
use Rattle.floyd_goal_trees.specs.declared.goal.Entail.{Entail}
use Rattle.floyd_goal_trees.specs.declared.goal.Goal.{Goal}
use Rattle.floyd_goal_trees.specs.declared.goal.Goal.TheVariants as g
use Rattle.floyd_goal_trees.specs.declared.goal.Pure.{Pure}
use Rattle.floyd_goal_trees.specs.declared.goal.Run.{Run}

-- what is made of what was made of one part, of two or of three, unless one is refused; the first refusal counts
abbrev pub of_one : {A B : Type 0} → (A → B) → Result A No → Result B No
of_one f (Ok a) = Ok (f a)
of_one f (Err refusal) = Err refusal

abbrev pub of_two : {A B C : Type 0} → (A → B → C) → Result A No → Result B No → Result C No
of_two f (Ok a) b = of_one (f a) b
of_two f (Err refusal) b = Err refusal

abbrev pub of_three : {A B C D : Type 0} → (A → B → C → D) → Result A No → Result B No → Result C No → Result D No
of_three f (Ok a) b c = of_two (f a) b c
of_three f (Err refusal) b c = Err refusal

module _ (by : List (List ℕ × Plain)) where
  -- behind a command
  abbrev pub context_with : Context → Result Context No
  context_with context = of_one (λ hypotheses. record (after_command context) { hypotheses = hypotheses }) (formulas_with by context.hypotheses)

  abbrev pub exit_with : Exit → Result Exit No
  exit_with e.None = Ok e.None
  exit_with (e.To a) = of_one e.To (assertion_with by a)
  exit_with e.End = Ok e.End

-- RETURN's term stands below the existentials of the postcondition: it is changed as one part more, the first one, would be.
abbrev pub covering : Assertion → Option Plain → Assertion
covering post None = post
covering post (Some t) = record post { parts = Valid t ∷ post.parts }

abbrev pub first_term : List Sep → Option Plain
first_term (Valid t ∷ parts) = Some t
first_term parts = None

abbrev pub uncovered : Return → Option Plain → Assertion → Return
uncovered ret None a = record ret { post = a }
uncovered ret (Some t) a = record ret { post = record a { parts = drop 1 a.parts }; value = first_term a.parts }

module _ (by : List (List ℕ × Plain)) where
  abbrev pub return_with : Return → Result Return No
  return_with ret = of_one (uncovered ret ret.value) (assertion_with by (covering ret.post ret.value))

  -- the three other ways in which statements are left
  abbrev pub ways_with : Exits → Return → Result Exits No
  ways_with exits ret =
      of_three (λ normal brk cont. record { normal = normal; brk = brk; cont = cont; ret = ret }) (exit_with by exits.normal) (exit_with by exits.brk) (exit_with by exits.cont)

  abbrev pub exits_behind : Exits → Result Return No → Result Exits No
  exits_behind exits (Ok ret) = ways_with exits ret
  exits_behind exits (Err refusal) = Err refusal

  abbrev pub exits_with : Exits → Result Exits No
  exits_with exits = exits_behind exits (return_with exits.ret)

  abbrev pub run_with : Run → Result Run No
  run_with run =
      of_three (λ context source exits. record { context = context; source = source; rest = run.rest; exits = exits }) (context_with by run.context) (assertion_with by run.source) (exits_with run.exits)

  abbrev pub entail_with : Entail → Result Entail No
  entail_with entail =
      of_three (λ context source target. record { context = context; source = source; target = target }) (context_with by entail.context) (assertion_with by entail.source) (assertion_with by entail.target)

  abbrev pub pure_with : Pure → Result Pure No
  pure_with pure =
      of_two (λ context target. record { context = context; target = target }) (context_with by pure.context) (formula_with by pure.target)

  -- the goal behind a command, with these terms in place of these variables; the one refusal is that a term or formula is too large
  abbrev pub goal_with : Goal → Result Goal No
  goal_with (g.Run run) = of_one g.Run (run_with run)
  goal_with (g.Entail entail) = of_one g.Entail (entail_with entail)
  goal_with (g.Pure pure) = of_one g.Pure (pure_with pure)

-- each free occurrence of a variable that is replaced has the sort of its term
module _ (changes : Changes) where
  abbrev pub ContextSortsAgree : Context → Type 0
  ContextSortsAgree context = FormulasSortsAgree changes (formulas context.hypotheses)

  abbrev pub ExitSortsAgree : Exit → Type 0
  ExitSortsAgree e.None = Unit {0}
  ExitSortsAgree (e.To a) = AssertionSortsAgree changes a
  ExitSortsAgree e.End = Unit {0}

  pub record ExitsSortsAgree (exits : Exits) : Type 0 where
    pub normal : ExitSortsAgree exits.normal
    pub brk : ExitSortsAgree exits.brk
    pub cont : ExitSortsAgree exits.cont
    pub ret : AssertionSortsAgree changes (covering exits.ret.post exits.ret.value)

  pub record RunSortsAgree (run : Run) : Type 0 where
    pub context : ContextSortsAgree run.context
    pub source : AssertionSortsAgree changes run.source
    pub exits : ExitsSortsAgree run.exits

  pub record EntailSortsAgree (entail : Entail) : Type 0 where
    pub context : ContextSortsAgree entail.context
    pub source : AssertionSortsAgree changes entail.source
    pub target : AssertionSortsAgree changes entail.target

  pub record PureSortsAgree (pure : Pure) : Type 0 where
    pub context : ContextSortsAgree pure.context
    pub target : FormulaSortsAgree changes pure.target

  abbrev pub GoalSortsAgree : Goal → Type 0
  GoalSortsAgree (g.Run run) = RunSortsAgree run
  GoalSortsAgree (g.Entail entail) = EntailSortsAgree entail
  GoalSortsAgree (g.Pure pure) = PureSortsAgree pure
