-- When the row of a command keeps goals well formed.
use Rattle.std.specs.Prelude.{◌≡◌, true, List, Option, Some, None, Ok}
use Rattle.std.specs.List.{AllByRecursion}
use Rattle.floyd_tree_sorts.specs.declared.sorts.Sort.{Sort}
use Rattle.floyd_tree.specs.Formulas.{PlainFormula}
use Rattle.floyd_tree.specs.Made.{fits}
use Rattle.floyd_tree.specs.Plain.{Plain}
use Rattle.floyd_tree_values.specs.Rules.{Scope}
use Rattle.floyd_assert_trees.specs.declared.items.Defs.{Defs}
use Rattle.floyd_assert_trees.specs.declared.spec.SpecTable.{SpecTable}
use Rattle.floyd_goal_trees.specs.Contexts.{context_of, scope_of}
use Rattle.floyd_goal_trees.specs.declared.args.Args.{Args}
use Rattle.floyd_goal_trees.specs.declared.context.Context.{Context}
use Rattle.floyd_goal_trees.specs.declared.goal.Goal.{Goal}
use Rattle.floyd_goal_forms.specs.Goals.{IsWellFormed}
use Rattle.floyd_goal_forms.specs.Terms.{FormulaFits, TermFits}
use Rattle.floyd_pure_formulas.specs.Rows.{Row}

-- a term that a command is given is well formed, and within the limits
abbrev pub GivenTerm : Defs → Scope → Plain → Type 0
GivenTerm defs scope t = ((s : Sort) × TermFits defs scope s t) × (fits t ≡ true)

-- so is the formula, where there is one
abbrev pub GivenFormula : Defs → SpecTable → Scope → Option PlainFormula → Type 0
GivenFormula defs specs scope None = Unit {0}
GivenFormula defs specs scope (Some f) = FormulaFits defs specs scope f

-- what a command is given is well formed in the goal's context
pub record IsGiven (defs : Defs) (specs : SpecTable) (context : Context) (args : Args) : Type 0 where
  pub terms : AllByRecursion (GivenTerm defs (scope_of context)) args.terms
  pub formula : GivenFormula defs specs (scope_of context) args.formula

abbrev pub AreWellFormed : Defs → SpecTable → List Goal → Type 0
AreWellFormed defs specs goals = AllByRecursion (IsWellFormed defs specs) goals

-- Each goal is well formed that the row makes of a well-formed goal, where what the command is given is well formed.
abbrev pub KeepsForms : Row → Type 0
KeepsForms Row =
    (defs : Defs) (specs : SpecTable) (goal : Goal) (args : Args) (goals : List Goal) →
    IsWellFormed defs specs goal → IsGiven defs specs (context_of goal) args → Row goal args (Ok goals) → AreWellFormed defs specs goals
