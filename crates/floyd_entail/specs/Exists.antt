-- `Exists t` puts a term in the place of the first existential of an Entail goal's target.
use Rattle.std.specs.Prelude.{◌≡◌, List, [], ◌∷◌, Ok, Err}
use Rattle.floyd_tree.specs.Plain.{Plain}
use Rattle.floyd_truth.specs.Replace.{puts}
use Rattle.floyd_assert_trees.specs.declared.assertion.Assertion.{Assertion}
use Rattle.floyd_assert_trees.specs.declared.binder.Binder.{Binder}
use Rattle.floyd_assert_changes.specs.Changed.{AssertionSortsAgree, assertion_with}
use Rattle.floyd_goal_trees.specs.Contexts.{after_command}
use Rattle.floyd_goal_trees.specs.declared.args.Args.{Args}
use Rattle.floyd_goal_trees.specs.declared.goal.Entail as e
use Rattle.floyd_goal_trees.specs.declared.goal.Goal.{Goal}
use Rattle.floyd_goal_trees.specs.declared.goal.Goal.TheVariants.{Run, Entail, Pure}
use Rattle.floyd_goal.specs.Goals.{intros_first, some_left, wrong_goal}
use Rattle.floyd_goal_parts.specs.Rows.{Answer, OfResult, Unless}

-- the goal behind the command, to that target
abbrev pub toward : e.Entail → Assertion → Goal
toward entail target = Entail (record { context = after_command entail.context; source = entail.source; target = target })

abbrev pub IsToward : e.Entail → Assertion → Answer → Type 0
IsToward entail target answer = answer ≡ Ok (toward entail target ∷ [])

abbrev pub under : Assertion → List Binder → Assertion
under target more = record target { existentials = more }

-- the term in the place of b, where these existentials stand behind it
abbrev pub PutsTerm : e.Entail → Binder → List Binder → Plain → Answer → Type 0
PutsTerm entail b more t = OfResult (assertion_with ((b.name, t) ∷ []) (under entail.target more)) (IsToward entail)

-- the command always has a term
abbrev pub Puts : e.Entail → Binder → List Binder → List Plain → Answer → Type 0
Puts entail b more [] answer = answer ≡ Err wrong_goal
Puts entail b more (t ∷ ts) answer = PutsTerm entail b more t answer

abbrev pub ForFirst : e.Entail → List Binder → List Plain → Answer → Type 0
ForFirst entail [] terms answer = answer ≡ Err wrong_goal
ForFirst entail (b ∷ more) terms answer =
    Unless (some_left entail.source.existentials) intros_first (Puts entail b more terms) answer

abbrev pub Row : Goal → Args → Answer → Type 0
Row (Run run) args answer = answer ≡ Err wrong_goal
Row (Entail entail) args answer = ForFirst entail entail.target.existentials args.terms answer
Row (Pure pure) args answer = answer ≡ Err wrong_goal

-- each free occurrence of the existential has the sort of the term
abbrev pub TermSortAgrees : Assertion → Binder → List Binder → Plain → Type 0
TermSortAgrees target b more t = AssertionSortsAgree (puts ((b.name, t) ∷ [])) (under target more)

abbrev pub HeadSortAgrees : Assertion → Binder → List Binder → List Plain → Type 0
HeadSortAgrees target b more [] = Unit {0}
HeadSortAgrees target b more (t ∷ ts) = TermSortAgrees target b more t

abbrev pub FirstSortsAgree : Assertion → List Binder → List Plain → Type 0
FirstSortsAgree target [] terms = Unit {0}
FirstSortsAgree target (b ∷ more) terms = HeadSortAgrees target b more terms

abbrev pub SortsAgree : Goal → List Plain → Type 0
SortsAgree (Run run) terms = Unit {0}
SortsAgree (Entail entail) terms = FirstSortsAgree entail.target entail.target.existentials terms
SortsAgree (Pure pure) terms = Unit {0}
