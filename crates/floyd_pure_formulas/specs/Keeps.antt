-- That a row keeps truth under each environment: a Pure goal is true there where the goals that its row makes are true under
-- all environments that go on from it.
use Rattle.std.specs.Prelude.{◌≡◌, ℕ, List, [], ◌∷◌, Some, Ok, bytes_eq}
use Rattle.std.specs.Map.{lookup}
use Rattle.floyd_tree_sorts.specs.declared.sorts.Sort.{Sort}
use Rattle.floyd_tree_values.specs.BuiltIns.{Env}
use Rattle.floyd_tree_values.specs.Means.{Defs}
use Rattle.floyd_tree_values.specs.Rules.{DefsKeep, IsOneOf}
use Rattle.floyd_truth.specs.Truth.{Truth}
use Rattle.floyd_goal_trees.specs.declared.args.Args.{Args}
use Rattle.floyd_goal_trees.specs.declared.context.Context.{Context}
use Rattle.floyd_goal_trees.specs.declared.context.Mark.{Mark}
use Rattle.floyd_goal_trees.specs.declared.context.Mark.TheVariants as m
use Rattle.floyd_goal_trees.specs.declared.goal.Goal.{Goal}
use Rattle.floyd_goal_trees.specs.declared.goal.Goal.TheVariants as g
use Rattle.floyd_goal_trees.specs.declared.goal.Pure.{Pure}
use Rattle.floyd_goal_formulas.specs.Fits.{Fits}
use Rattle.floyd_goal_truth.specs.Scopes.{AllFit, scope_of}
use Rattle.floyd_goal_truth.specs.Truths.{Under}
use Rattle.floyd_pure_formulas.specs.Holds.{ArgsFit, Specs}
use Rattle.floyd_pure_formulas.specs.Rows.{Row}

-- the mark is that of this induction, with no name more
abbrev pub IsOfInduction : Mark → List ℕ → ℕ → List (List ℕ) → Type 0
IsOfInduction m.Plain name place names = ⊥
IsOfInduction (m.Start lemma) name place names = ⊥
IsOfInduction (m.Induction lemma at before) name place names = (lemma ≡ name) × (at ≡ place) × ((x : List ℕ) → IsOneOf names x → IsOneOf before x)

-- what a mark promises another one did before
abbrev pub MarkStays : Mark → Mark → Type 0
MarkStays before m.Plain = Unit {0}
MarkStays before (m.Start name) = Unit {0}
MarkStays before (m.Induction name place names) = IsOfInduction before name place names

-- An environment that goes on from another: its blocks are the same, and so are the data of what is a variable of the
-- context. It is meant for a goal with this mark.
pub record GoesOn (context : Context) (mark : Mark) (env other : Env) : Type 0 where
  pub global : other.global ≡ env.global
  pub local : other.local ≡ env.local
  pub variables : (x : List ℕ) (s : Sort) → lookup (bytes_eq x) (scope_of context) ≡ Some s → other.variables x ≡ env.variables x
  pub promise : MarkStays context.mark mark

module _ (defs : Defs) (specs : Specs) (context : Context) (env : Env) where
  -- A Pure goal is true under each environment that goes on from this one, where its hypotheses are. Of goals of another kind
  -- nothing is asked.
  abbrev pub IsTrueFrom : Goal → Type 0
  IsTrueFrom (g.Run run) = Unit {0}
  IsTrueFrom (g.Entail entail) = Unit {0}
  IsTrueFrom (g.Pure pure) = Under defs specs pure.context (λ other. GoesOn context pure.context.mark env other → Truth defs specs other pure.target)

  abbrev pub AreTrueFrom : List Goal → Type 0
  AreTrueFrom [] = Unit {0}
  AreTrueFrom (goal ∷ goals) = IsTrueFrom goal × AreTrueFrom goals

-- Where the FUNs keep the rules, and the goal and what the command is given are well formed, the goal is true under each
-- environment from which all goals that the row makes are true.
abbrev pub KeepsTruth : Row → Type 0
KeepsTruth Row =
    (defs : Defs) (specs : Specs) (pure : Pure) (args : Args) (goals : List Goal) → DefsKeep defs → AllFit defs pure.context pure.context.hypotheses → Fits defs (scope_of pure.context) pure.target → ArgsFit defs pure.context args → Row (g.Pure pure) args (Ok goals) →
    Under defs specs pure.context (λ env. AreTrueFrom defs specs pure.context env goals → Truth defs specs env pure.target)
