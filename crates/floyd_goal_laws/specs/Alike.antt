-- Goals that say the same, term by term, each with its own data for variables.
use Rattle.std.specs.Prelude.{◌≡◌, ℕ, List}
use Rattle.floyd_tree_values.specs.BuiltIns.{Env}
use Rattle.floyd_tree_values.specs.Data.{Datum}
use Rattle.floyd_assert_trees.specs.declared.items.Defs.{Defs}
use Rattle.floyd_assert_trees.specs.declared.spec.SpecTable.{SpecTable}
use Rattle.floyd_assert_meaning.specs.Laws.{with_variables}
use Rattle.floyd_assert_meaning.specs.Settings.{Setting}
use Rattle.floyd_assert_meaning.specs.Alike.{Alike, PostsAlike, SayAlike}
use Rattle.floyd_goal_trees.specs.Contexts.{context_of}
use Rattle.floyd_goal_trees.specs.declared.exits.Exit as e
use Rattle.floyd_goal_trees.specs.declared.exits.Exit.TheVariants as x
use Rattle.floyd_goal_trees.specs.declared.exits.Exits as g
use Rattle.floyd_goal_trees.specs.declared.exits.Return as r
use Rattle.floyd_goal_trees.specs.declared.goal.Goal.{Goal}
use Rattle.floyd_goal_trees.specs.declared.goal.Goal.TheVariants.{Run, Entail, Pure}
use Rattle.floyd_goal_meaning.specs.GoalHolds.{Given, HoldsFor, postcondition}
use Rattle.floyd_goal_laws.specs.Following.{Follows, Throughout}

module _ (S : Setting) (env : Env) (f : List ℕ → Datum) where
  abbrev pub ExitsAlike : e.Exit → e.Exit → Type 0
  ExitsAlike x.None x.None = Unit {0}
  ExitsAlike (x.To a) (x.To b) = Alike S env env.variables f a b
  ExitsAlike x.End x.End = Unit {0}
  ExitsAlike a b = ⊥

  pub record ReturnsAlike (a b : r.Return) : Type 0 where
    pub result : a.result ≡ b.result
    pub blocks : a.blocks ≡ b.blocks
    pub post : PostsAlike S env env.variables f (postcondition a) (postcondition b)

  pub record WaysAlike (a b : g.Exits) : Type 0 where
    pub normal : ExitsAlike a.normal b.normal
    pub brk : ExitsAlike a.brk b.brk
    pub cont : ExitsAlike a.cont b.cont
    pub ret : ReturnsAlike a.ret b.ret

  -- Beside their contexts two goals say the same, the one of the environment and the other with the data f for its
  -- variables.
  abbrev pub GoalsAlike : Goal → Goal → Type 0
  GoalsAlike (Run a) (Run b) = (a.rest ≡ b.rest) × Alike S env env.variables f a.source b.source × WaysAlike a.exits b.exits
  GoalsAlike (Entail a) (Entail b) = Alike S env env.variables f a.source b.source × Alike S env env.variables f a.target b.target
  GoalsAlike (Pure a) (Pure b) = SayAlike S env env.variables f a.target b.target
  GoalsAlike a b = ⊥

-- Then the one follows from the other.
abbrev pub AlikeFollow : Type 0
AlikeFollow = (S : Setting) (env : Env) (f : List ℕ → Datum) (goal made : Goal) → GoalsAlike S env f goal made → Follows S env (with_variables env f) goal made

-- A goal holds where another does that says the same of each environment, and whose context that environment is given for
-- too.
abbrev pub AlikeHold : Type 0
AlikeHold =
    (defs : Defs) (specs : SpecTable) (n : ℕ) (goal made : Goal) →
    Throughout defs specs (context_of goal) (λ S env. Given S defs (context_of made) env × GoalsAlike S env env.variables goal made) →
    HoldsFor defs specs n made → HoldsFor defs specs n goal
