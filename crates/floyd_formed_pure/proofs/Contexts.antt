-- Well-formed goals stay so in contexts with more.
use Rattle.std.proofs.Common.{◌≡◌, ℕ, zero, suc, List, [], ◌∷◌, ◌++◌, Some, subst}
use Rattle.std.specs.Prelude.{bytes_eq, slice_get}
use Rattle.std.specs.List.{AllByRecursion}
use Rattle.std.specs.Map.{lookup}
use Rattle.floyd_tree_sorts.specs.declared.sorts.Sort.{Sort}
use Rattle.floyd_tree.specs.Formulas.{PlainFormula}
use Rattle.floyd_tree_values.specs.Rules.{Scope}
use Rattle.floyd_assert_trees.specs.declared.items.Defs.{Defs}
use Rattle.floyd_assert_trees.specs.declared.spec.SpecTable.{SpecTable}
use Rattle.floyd_goal.specs.Goals.{enriched, hypothesis_at, pure_goal}
use Rattle.floyd_goal_trees.specs.Contexts.{after_command, context_of, scope_of, unmarked}
use Rattle.floyd_goal_trees.specs.declared.context.Context.{Context}
use Rattle.floyd_goal_trees.specs.declared.context.Mark.{Mark}
use Rattle.floyd_goal_trees.specs.declared.context.Mark.TheVariants as m
use Rattle.floyd_goal_trees.specs.declared.goal.Goal.{Goal}
use Rattle.floyd_goal_trees.specs.declared.goal.Goal.TheVariants as g
use Rattle.floyd_goal_forms.specs.Goals.{ContextFits, IsVariableOf, IsWellFormed, MarkFits}
use Rattle.floyd_goal_forms.specs.Terms.{FormulaFits, FormulasFit}
use Rattle.floyd_pure_formulas.specs.Rows.{with_more}

pub both_all : {A : Type 0} (P : A → Type 0) (xs ys : List A) → AllByRecursion P xs → AllByRecursion P ys → AllByRecursion P (xs ++ ys)
both_all P [] ys h k = k
both_all P (x ∷ xs) ys h k = (h.0, both_all P xs ys h.1 k)

-- each variable of the one scope is one of the other, of the same sort
abbrev pub AreIn : Scope → Scope → Type 0
AreIn small large = (x : List ℕ) (s : Sort) → lookup (bytes_eq x) small ≡ Some s → lookup (bytes_eq x) large ≡ Some s

module _ (defs : Defs) (old new : Context) (k : AreIn (scope_of old) (scope_of new)) where
  still_variables : (s : Sort) (names : List (List ℕ)) → AllByRecursion (IsVariableOf old s) names → AllByRecursion (IsVariableOf new s) names
  still_variables s [] h = tt
  still_variables s (x ∷ names) h = (k x s h.0, still_variables s names h.1)

  -- behind a command
  pub mark_after : (before after : Goal) (mark : Mark) → MarkFits defs before old mark → MarkFits defs after new (unmarked mark)
  mark_after before after m.Plain h = tt
  mark_after before after (m.Start name) h = tt
  mark_after before after (m.Induction name place names) h =
      record { lemma = h.lemma; is = h.is; variable = h.variable; at = h.at; parts = h.parts; smaller = still_variables h.variable.sort names h.smaller }

module _ (defs : Defs) (specs : SpecTable) where
  pub context_formed : (goal : Goal) → IsWellFormed defs specs goal → ContextFits defs specs goal (context_of goal)
  context_formed (g.Run run) h = h.context
  context_formed (g.Entail entail) h = h.context
  context_formed (g.Pure pure) h = h.context

  pub enriched_formed : (before after : Goal) (context : Context) (fs : List PlainFormula) → ContextFits defs specs before context → FormulasFit defs specs (scope_of context) fs → ContextFits defs specs after (enriched context fs)
  enriched_formed before after context fs h k = record {
    variables = h.variables;
    hypotheses = both_all (FormulaFits defs specs (scope_of context)) context.hypotheses fs h.hypotheses k;
    mark = mark_after defs context (enriched context fs) (λ x s e. e) before after context.mark h.mark;
  }

  pub after_formed : (before after : Goal) (context : Context) → ContextFits defs specs before context → ContextFits defs specs after (after_command context)
  after_formed before after context h =
      record { variables = h.variables; hypotheses = h.hypotheses; mark = mark_after defs context (after_command context) (λ x s e. e) before after context.mark h.mark }

  -- the goal with hypotheses more
  pub with_more_formed : (goal : Goal) (fs : List PlainFormula) → IsWellFormed defs specs goal → FormulasFit defs specs (scope_of (context_of goal)) fs → IsWellFormed defs specs (with_more goal fs)
  with_more_formed (g.Run run) fs h k =
      record { context = enriched_formed (g.Run run) (with_more (g.Run run) fs) run.context fs h.context k; source = h.source; statements = h.statements; exits = h.exits }
  with_more_formed (g.Entail entail) fs h k =
      record { context = enriched_formed (g.Entail entail) (with_more (g.Entail entail) fs) entail.context fs h.context k; source = h.source; target = h.target }
  with_more_formed (g.Pure pure) fs h k =
      record { context = enriched_formed (g.Pure pure) (with_more (g.Pure pure) fs) pure.context fs h.context k; target = h.target }

  -- a formula as a goal
  pub pure_formed : (goal : Goal) (f : PlainFormula) → IsWellFormed defs specs goal → FormulaFits defs specs (scope_of (context_of goal)) f → IsWellFormed defs specs (pure_goal (context_of goal) f)
  pure_formed goal f h k = record { context = after_formed goal (pure_goal (context_of goal) f) (context_of goal) (context_formed goal h); target = k }

  formed_at : (scope : Scope) (hs : List PlainFormula) (n : ℕ) (h : PlainFormula) → slice_get hs n ≡ Some h → FormulasFit defs specs scope hs → FormulaFits defs specs scope h
  formed_at scope [] n h e k = absurd cc
  formed_at scope (a ∷ hs) zero h e k = let same : a ≡ h = cc in subst (FormulaFits defs specs scope) same k.0
  formed_at scope (a ∷ hs) (suc n) h e k = formed_at scope hs n h e k.1

  pub hypothesis_formed : (scope : Scope) (hs : List PlainFormula) (n : ℕ) (h : PlainFormula) → hypothesis_at hs n ≡ Some h → FormulasFit defs specs scope hs → FormulaFits defs specs scope h
  hypothesis_formed scope hs zero h e k = absurd cc
  hypothesis_formed scope hs (suc n) h e k = formed_at scope hs n h e k
