-- `forward_switch A`: the bodies from each case on run to A where the value is its label, or, of the default, no label; without
-- a default the source gives A where it is no label; and what follows runs from A.
use Rattle.std.specs.Prelude.{◌≡◌, ℕ, Bool, true, false, List, [], ◌∷◌, ◌++◌, flat_map, map, Option, Some, None, Result, Ok, Err, slice_get}
use Rattle.floyd_text.specs.declared.refusal.No.{No}
use Rattle.floyd_int.specs.Kind.{value_of}
use Rattle.floyd_ctypes.specs.declared.ctype.CType.{CType, Int}
use Rattle.floyd_ctypes.specs.Structs.{Structs}
use Rattle.floyd_clight.specs.declared.syntax.Case.{Case}
use Rattle.floyd_clight.specs.declared.syntax.Expr.{Expr}
use Rattle.floyd_clight.specs.declared.syntax.Stmt.{Stmt, Switch', items-the_row-Case}
use Rattle.floyd_clight.specs.Flat.{flat}
use Rattle.floyd_clight.specs.Types.{type_of}
use Rattle.floyd_tree.specs.Formulas.{PlainFormula}
use Rattle.floyd_tree.specs.Plain.{Plain}
use Rattle.floyd_assert_trees.specs.declared.assertion.Assertion.{Assertion}
use Rattle.floyd_fieldpath.specs.Nested.{literal}
use Rattle.floyd_fieldpath.specs.Written.{on_ok}
use Rattle.floyd_symexpr_rows.specs.declared.needs.Needs.{Needs}
use Rattle.floyd_symexpr_rows.specs.declared.needs.Number.{Number}
use Rattle.floyd_symexpr_rows.specs.Formulas.{different, equal, saying}
use Rattle.floyd_symexpr_rows.specs.Rows.{not_number, number, range}
use Rattle.floyd_symexpr.specs.declared.evaluation.Evaluated.{Evaluated}
use Rattle.floyd_symexpr.specs.Expressions.{evaluate}
use Rattle.floyd_goal_forms.specs.Starts.{run_goal}
use Rattle.floyd_goal_trees.specs.Contexts.{with_hypotheses}
use Rattle.floyd_goal_trees.specs.declared.args.Args.{Args}
use Rattle.floyd_goal_trees.specs.declared.context.Context.{Context}
use Rattle.floyd_goal_trees.specs.declared.exits.Exit.TheVariants as x
use Rattle.floyd_goal_trees.specs.declared.exits.Exits.{Exits}
use Rattle.floyd_goal_trees.specs.declared.goal.Goal.{Goal}
use Rattle.floyd_goal_trees.specs.declared.goal.Goal.TheVariants as g
use Rattle.floyd_goal_trees.specs.declared.goal.Run.{Run}
use Rattle.floyd_goal.specs.Goals.{wrong_goal}
use Rattle.floyd_goal_parts.specs.Rows.{Answer, OfResult}
use Rattle.floyd_goal_runs.specs.Needing.{Needing}
use Rattle.floyd_control.specs.ForwardLoop.{entered}
use Rattle.floyd_control.specs.Parts.{Named, behind, runs_from}

-- ---- the value

-- the number of a term of the expression's type
abbrev pub number_of : CType → Plain → Result Number No
number_of (Int k) t = number k t
number_of t u = Err not_number

-- what the expression needs, and that its number is one of its kind
abbrev pub choice_needs : Evaluated → Number → Result (Number × Needs) No
choice_needs v a = on_ok (saying v.sides (range a.kind a.term)) (λ sides. Ok (a, record { sides = sides; valid = v.valid }))

abbrev pub choice : Assertion → Structs → Expr → Result (Number × Needs) No
choice source structs e = on_ok (evaluate source structs e) (λ v. on_ok (number_of (type_of e) v.term) (choice_needs v))

-- ---- the cases

abbrev pub labels_of : List Case → List (Option ℕ)
labels_of cases = map (λ (c : Case). c.label) cases

-- the statements from the first of the cases to the end of the switch
abbrev pub bodies_of : List Case → List Stmt
bodies_of cases = flat_map (λ (c : Case). flat c.body) cases

-- the value of a label's bits
abbrev pub label_term : Number → ℕ → Plain
label_term a bits = literal (value_of a.kind bits)

-- the value is none of these labels; the default is no label
abbrev pub no_labels : Number → List (Option ℕ) → List PlainFormula
no_labels a [] = []
no_labels a (None ∷ more) = no_labels a more
no_labels a (Some bits ∷ more) = different a.term (label_term a bits) ∷ no_labels a more

-- what holds where a switch goes on at a case
abbrev pub case_formulas : Number → List (Option ℕ) → Option ℕ → List PlainFormula
case_formulas a all (Some bits) = equal a.term (label_term a bits) ∷ []
case_formulas a all None = no_labels a all

-- a case goes on to A, also by break
abbrev pub case_exits : Exits → Assertion → Exits
case_exits exits to = record exits { normal = x.To to; brk = x.To to }

abbrev pub case_goal : Run → Exits → List Stmt → Context → Goal
case_goal run exits ss context = run_goal (record { context = context; source = run.source; rest = ss; exits = exits })

-- a goal under formulas more, unless one is beyond the limits
abbrev pub under_more : Context → List PlainFormula → (Context → Goal) → Result Goal No
under_more context fs goal = on_ok (saying [] fs) (λ more. Ok (goal (with_hypotheses context more)))

abbrev pub has_default : List (Option ℕ) → Bool
has_default [] = false
has_default (None ∷ more) = true
has_default (Some bits ∷ more) = has_default more

module _ (run : Run) (a : Number) (all : List (Option ℕ)) (context : Context) where
  -- for each case its body and those behind it
  abbrev pub case_goals : Exits → List Case → Answer
  case_goals exits [] = Ok []
  case_goals exits (c ∷ cases) =
      on_ok (under_more context (case_formulas a all c.label) (case_goal run exits (bodies_of (c ∷ cases)))) (λ goal.
      on_ok (case_goals exits cases) (λ goals. Ok (goal ∷ goals)))

  -- without a default
  abbrev pub otherwise : Assertion → Bool → Answer
  otherwise to true = Ok []
  otherwise to false = on_ok (under_more context (no_labels a all) (λ inner. entered run inner to)) (λ goal. Ok (goal ∷ []))

-- the goals behind Side
abbrev pub switched : Run → Assertion → List Case → Number → Context → Answer
switched run to cases a context =
    on_ok (case_goals run a (labels_of cases) context (case_exits run.exits to) cases) (λ goals.
    on_ok (otherwise run a (labels_of cases) context to (has_default (labels_of cases))) (λ more.
    Ok (goals ++ more ++ runs_from context to (behind run) run.exits ∷ [])))

-- ---- the row

abbrev pub SwitchesBy : Run → Assertion → List Case → Number × Needs → Answer → Type 0
SwitchesBy run to cases c = Needing run.context run.source c.1 (switched run to cases c.0)

abbrev pub Switches : Structs → Run → Assertion → Expr → List Case → Answer → Type 0
Switches structs run to e cases = OfResult (choice run.source structs e) (SwitchesBy run to cases)

abbrev pub SwitchesWith : Structs → Run → List Assertion → Expr → List Case → Answer → Type 0
SwitchesWith structs run (a ∷ []) e cases answer = Named run (Switches structs run a e cases) answer
SwitchesWith structs run given e cases answer = answer ≡ Err wrong_goal

abbrev pub OfStatement : Structs → Run → List Assertion → Stmt → Answer → Type 0
OfStatement structs run given (Switch' e shape cases) answer = SwitchesWith structs run given e (items-the_row-Case _ cases) answer
OfStatement structs run given s answer = answer ≡ Err wrong_goal

abbrev pub OfNext : Structs → Run → List Assertion → Option Stmt → Answer → Type 0
OfNext structs run given None answer = answer ≡ Err wrong_goal
OfNext structs run given (Some s) answer = OfStatement structs run given s answer

abbrev pub Row : Structs → Goal → Args → Answer → Type 0
Row structs (g.Run run) args answer = OfNext structs run args.assertions (slice_get run.rest 0) answer
Row structs (g.Entail entail) args answer = answer ≡ Err wrong_goal
Row structs (g.Pure pure) args answer = answer ≡ Err wrong_goal
