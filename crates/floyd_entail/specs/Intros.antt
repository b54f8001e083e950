-- `Intros` gives names to the existentials of a goal's source, and takes its PROP among the hypotheses.
use Rattle.std.specs.Prelude.{◌≡◌, ℕ, Bool, not, ◌||◌, List, [], ◌∷◌, ◌++◌, length, nat_eq, bytes_eq, if◌then◌else◌, Option, Some, None, Ok, Err}
use Rattle.std.specs.List.{list_any}
use Rattle.floyd_text.specs.declared.code.Code.TheVariants as c
use Rattle.floyd_text.specs.declared.refusal.No.{No}
use Rattle.floyd_text.specs.declared.refusal.Shown.TheVariants.{Name}
use Rattle.floyd_tree_sorts.specs.declared.heads.Head.TheVariants.{Variable}
use Rattle.floyd_tree.specs.Formulas.{PlainFormula, formulas}
use Rattle.floyd_tree.specs.Plain.{Plain, At, Done}
use Rattle.floyd_truth.specs.Replace.{FormulasSortsAgree, puts}
use Rattle.floyd_assert_trees.specs.declared.assertion.Assertion.{Assertion}
use Rattle.floyd_assert_trees.specs.declared.binder.Binder.{Binder}
use Rattle.floyd_assert_changes.specs.Changed.{AssertionSortsAgree, assertion_with, has_name}
use Rattle.floyd_assert_changes.specs.Substituted.{formulas_with}
use Rattle.floyd_goal_trees.specs.Contexts.{after_command}
use Rattle.floyd_goal_trees.specs.declared.args.Args.{Args}
use Rattle.floyd_goal_trees.specs.declared.context.Context.{Context}
use Rattle.floyd_goal_trees.specs.declared.goal.Goal.{Goal}
use Rattle.floyd_goal_trees.specs.declared.goal.Goal.TheVariants.{Run, Entail, Pure}
use Rattle.floyd_goal.specs.Goals.{refusal, wrong_goal}
use Rattle.floyd_goal.specs.Sides.{context_of}
use Rattle.floyd_goal_parts.specs.Rows.{Answer, OfResult, Unless}
use Rattle.floyd_goal_parts.specs.Sources.{from_source}

-- the names are not as many as the existentials
abbrev pub wrong_names : No
wrong_names = refusal c.WrongNames

abbrev pub name_taken : List ℕ → No
name_taken x = record { code = c.NameTaken; shown = Name x }

abbrev pub is_taken : List Binder → List (List ℕ) → List ℕ → Bool
is_taken variables before x = has_name x variables || list_any (bytes_eq x) before

-- the first of the names that is that of a variable, or stands before it already
abbrev pub first_taken : List Binder → List (List ℕ) → List (List ℕ) → Option (List ℕ)
first_taken variables before [] = None
first_taken variables before (x ∷ names) =
    if is_taken variables before x then Some x else first_taken variables (before ++ x ∷ []) names

-- each existential is the variable of its name
abbrev pub by_names : List Binder → List (List ℕ) → List (List ℕ × Plain)
by_names [] names = []
by_names (b ∷ bs) [] = []
by_names (b ∷ bs) (x ∷ names) = (b.name, At (Variable x b.sort) Done) ∷ by_names bs names

-- these variables
abbrev pub new_variables : List Binder → List (List ℕ) → List Binder
new_variables [] names = []
new_variables (b ∷ bs) [] = []
new_variables (b ∷ bs) (x ∷ names) = record { name = x; sort = b.sort } ∷ new_variables bs names

-- LOCAL and SEP alone
abbrev pub bare : Assertion → Assertion
bare source = record { existentials = []; props = []; locals = source.locals; parts = source.parts }

-- behind a command, with these variables and hypotheses more
abbrev pub opened_context : Context → List Binder → List PlainFormula → Context
opened_context context more props =
    record (after_command context) { variables = context.variables ++ more; hypotheses = context.hypotheses ++ props }

abbrev pub IsOpened : Goal → Assertion → List (List ℕ) → List PlainFormula → Assertion → Answer → Type 0
IsOpened goal source names props memory answer =
    answer ≡ Ok (from_source goal (opened_context (context_of goal) (new_variables source.existentials names) props) memory ∷ [])

abbrev pub WithMemory : Goal → Assertion → List (List ℕ) → List (List ℕ × Plain) → List PlainFormula → Answer → Type 0
WithMemory goal source names pairs props = OfResult (assertion_with pairs (bare source)) (IsOpened goal source names props)

-- PROP, and then LOCAL and SEP, with the terms of these pairs
abbrev pub OpensWith : Goal → Assertion → List (List ℕ) → List (List ℕ × Plain) → Answer → Type 0
OpensWith goal source names pairs = OfResult (formulas_with pairs source.props) (WithMemory goal source names pairs)

-- the same with the names
abbrev pub Opens : Goal → Assertion → List (List ℕ) → Answer → Type 0
Opens goal source names = OpensWith goal source names (by_names source.existentials names)

abbrev pub UnlessTaken : Option (List ℕ) → (Answer → Type 0) → Answer → Type 0
UnlessTaken None Next answer = Next answer
UnlessTaken (Some x) Next answer = answer ≡ Err (name_taken x)

-- names for all existentials, none of them taken
abbrev pub ByNames : Goal → Assertion → List (List ℕ) → Answer → Type 0
ByNames goal source names answer =
    Unless (not (nat_eq (length names) (length source.existentials))) wrong_names
    (UnlessTaken (first_taken (context_of goal).variables [] names) (Opens goal source names)) answer

abbrev pub Row : Goal → Args → Answer → Type 0
Row (Run run) args answer = ByNames (Run run) run.source args.names answer
Row (Entail entail) args answer = ByNames (Entail entail) entail.source args.names answer
Row (Pure pure) args answer = answer ≡ Err wrong_goal

-- each free occurrence of a variable of these pairs has the sort of its term
abbrev pub PairsSortsAgree : Assertion → List (List ℕ × Plain) → Type 0
PairsSortsAgree source pairs = FormulasSortsAgree (puts pairs) (formulas source.props) × AssertionSortsAgree (puts pairs) (bare source)

-- each free occurrence of an existential's name has its sort
abbrev pub SourceSortsAgree : Assertion → List (List ℕ) → Type 0
SourceSortsAgree source names = PairsSortsAgree source (by_names source.existentials names)

abbrev pub SortsAgree : Goal → List (List ℕ) → Type 0
SortsAgree (Run run) names = SourceSortsAgree run.source names
SortsAgree (Entail entail) names = SourceSortsAgree entail.source names
SortsAgree (Pure pure) names = Unit {0}
