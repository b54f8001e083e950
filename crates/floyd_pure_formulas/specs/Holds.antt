-- What a command is given, and rows that add formulas or close a goal. That a row keeps truth stands in Keeps.
use Rattle.std.specs.Prelude.{◌≡◌, ℕ, Bool, true, List, [], ◌∷◌, ◌++◌, map, All, Option, Some, None, Ok}
use Rattle.floyd_int.specs.declared.kinds.Value.{Value}
use Rattle.floyd_tree.specs.Formulas.{PlainFormula}
use Rattle.floyd_tree.specs.Made.{fits}
use Rattle.floyd_tree.specs.Plain.{Plain}
use Rattle.floyd_tree_values.specs.Means.{Defs}
use Rattle.floyd_tree_values.specs.Rules.{DefsKeep}
use Rattle.floyd_truth.specs.Truth.{AllTrue}
use Rattle.floyd_tree_sorts.specs.declared.sorts.Sort.{Sort}
use Rattle.floyd_tree_values.specs.Rules.{CallsOf}
use Rattle.floyd_tree_values.specs.Rules as ru
use Rattle.floyd_goal_trees.specs.declared.args.Args.{Args}
use Rattle.floyd_goal_trees.specs.declared.context.Context.{Context}
use Rattle.floyd_goal_trees.specs.declared.goal.Goal.{Goal}
use Rattle.floyd_goal.specs.Goals.{pure_goal}
use Rattle.floyd_goal.specs.Sides.{context_of}
use Rattle.floyd_goal_formulas.specs.Fits.{Fits}
use Rattle.floyd_goal_truth.specs.Scopes.{AllFit, scope_of}
use Rattle.floyd_goal_truth.specs.Truths.{Under}
use Rattle.floyd_pure_formulas.specs.Rows.{Row, with_more}

-- `specs` tells which values are functions that were declared with the SPEC of a name
abbrev pub Specs : Type 0
Specs = List ℕ → Value → Bool

-- a term that a command is given is well formed, and within the limits
abbrev pub TermFits : Defs → Context → Plain → Type 0
TermFits defs context t = ((s : Sort) × ru.Fits defs.structs (scope_of context) (CallsOf defs.funs) s t) × (fits t ≡ true)

abbrev pub FormulaFits : Defs → Context → Option PlainFormula → Type 0
FormulaFits defs context None = Unit {0}
FormulaFits defs context (Some f) = Fits defs (scope_of context) f

-- what a command is given is well formed in the goal's context
pub record ArgsFit (defs : Defs) (context : Context) (args : Args) : Type 0 where
  pub terms : All (TermFits defs context) args.terms
  pub formula : FormulaFits defs context args.formula

-- The goals ask for a proof of formulas and, behind them, there is the goal with formulas more. Under all data under which
-- the hypotheses of the goal are true, those that are added are so where those that are asked for are.
pub record Adds (defs : Defs) (specs : Specs) (goal : Goal) (goals : List Goal) : Type 0 where
  pub asked : List PlainFormula
  pub added : List PlainFormula
  pub made : goals ≡ map (pure_goal (context_of goal)) asked ++ with_more goal added ∷ []
  pub hold : Under defs specs (context_of goal) (λ env. AllTrue defs specs env asked → AllTrue defs specs env added)

-- The row only adds formulas that are true where the hypotheses are, to a goal of any kind.
abbrev pub AddsTrue : Row → Type 0
AddsTrue Row =
    (defs : Defs) (specs : Specs) (goal : Goal) (args : Args) (goals : List Goal) → DefsKeep defs → AllFit defs (context_of goal) (context_of goal).hypotheses → ArgsFit defs (context_of goal) args → Row goal args (Ok goals) → Adds defs specs goal goals

-- The row closes a goal of any kind, and only where no data make its hypotheses true.
abbrev pub Refutes : Row → Type 0
Refutes Row =
    (defs : Defs) (specs : Specs) (goal : Goal) (args : Args) (goals : List Goal) → Row goal args (Ok goals) → (goals ≡ []) × Under defs specs (context_of goal) (λ env. ⊥)
