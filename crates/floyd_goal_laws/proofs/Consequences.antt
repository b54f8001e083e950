-- What a goal says follows from what another says.
use Rattle.std.proofs.Common.{◌≡◌, ◌⊎◌, inl, inr, ℕ, List, [], ◌∷◌, sym, subst}
use Rattle.std.specs.List.{AllByRecursion}
use Rattle.floyd_clight.specs.declared.syntax.Stmt.{Stmt}
use Rattle.floyd_clight_heap.specs.Heaplet.{Heaplet}
use Rattle.floyd_clight_machine.specs.Exits.{Exit, Normal, Broke, Continued, Returned, Part}
use Rattle.floyd_clight_machine.specs.Machine.{Act, Run as Running}
use Rattle.floyd_clight_runs.specs.Calls.{SafeAll, with_normal}
use Rattle.floyd_clight_runs.specs.Safe.{Exits}
use Rattle.floyd_clight_runs.specs.World.{World}
use Rattle.floyd_clight_runs.proofs.Safety.{conseq}
use Rattle.floyd_tree_values.specs.BuiltIns.{Env}
use Rattle.floyd_assert_trees.specs.declared.items.Defs.{Defs}
use Rattle.floyd_assert_trees.specs.declared.spec.SpecTable.{SpecTable}
use Rattle.floyd_goal_trees.specs.declared.goal.Goal.{Goal}
use Rattle.floyd_goal_trees.specs.declared.goal.Goal.TheVariants.{Run, Entail, Pure}
use Rattle.floyd_goal_meaning.specs.declared.linked.Linked.{Linked}
use Rattle.floyd_goal_meaning.specs.GoalHolds.{goal_exits, HoldsFor, HoldsIn, HoldsUnder, LemmasAreTrue}
use Rattle.floyd_goal_meaning.specs.Links.{Has, AreApart}
use Rattle.floyd_goal_meaning.specs.Programs.{Further, Places, setting}
use Rattle.floyd_goal_meaning.specs.Worlds.{world}
use Rattle.floyd_goal_laws.specs.Following.{Follows, FollowsFrom}

normal_follows : (E F : Exits) (A B : Act → Heaplet → Type 0) → ((x : Exit) (h : Heaplet) → E x h → F x h) → ((act : Act) (h : Heaplet) → A act h → B act h) → (x : Exit) (h : Heaplet) → with_normal A E x h → with_normal B F x h
normal_follows E F A B f k (Normal act) h p = k act h p
normal_follows E F A B f k (Broke act) h p = f (Broke act) h p
normal_follows E F A B f k (Continued act) h p = f (Continued act) h p
normal_follows E F A B f k (Returned v) h p = f (Returned v) h p

-- consequence
pub safe_all_follows : (W : World) (n : ℕ) (ss : List Stmt) (E F : Exits) → ((x : Exit) (h : Heaplet) → E x h → F x h) → (act : Act) (h : Heaplet) → SafeAll W n ss E act h → SafeAll W n ss F act h
safe_all_follows W n [] E F f act h s = f (Normal act) h s
safe_all_follows W n (s ∷ ss) E F f act h p =
    conseq W Part n (Running s [] act) h (with_normal (SafeAll W n ss E) E) (with_normal (SafeAll W n ss F) F)
    (normal_follows E F (SafeAll W n ss E) (SafeAll W n ss F) f (safe_all_follows W n ss E F f)) p

module _ (L : Linked) (more : List Further) (place : Places) (defs : Defs) (specs : SpecTable) (n : ℕ) where
  pub follows_under : (env other : Env) (goal made : Goal) → Follows (setting L more place) env other goal made → HoldsUnder L more place specs n other made → HoldsUnder L more place specs n env goal
  follows_under env other (Run run) (Run made) f p = λ keeps act h s.
      let S = setting L more place in
      let W = world L more place in
      safe_all_follows W n run.rest (goal_exits S other made.exits) (goal_exits S env run.exits) f.exits act h
      (subst (λ ss. SafeAll W n ss (goal_exits S other made.exits) act h) (sym f.rest) (p keeps act h (f.source act h s)))
  follows_under env other (Entail entail) (Entail made) f p = λ temps h s. f.target temps h (p temps h (f.source temps h s))
  follows_under env other (Pure pure) (Pure made) f p = f p
  follows_under env other goal made f p = absurd f

  pub from_one : (env : Env) (goal : Goal) (goals : List Goal) → FollowsFrom (setting L more place) defs env goal goals → AllByRecursion (HoldsIn L more place defs specs n) goals → HoldsUnder L more place specs n env goal
  from_one env goal [] f h = absurd f
  from_one env goal (made ∷ goals) (inl f) h = follows_under env f.0 goal made f.2 (h.0 f.0 f.1)
  from_one env goal (made ∷ goals) (inr f) h = from_one env goal goals f h.1

  pub all_in : (goals : List Goal) → Has L defs specs → AreApart L more place → LemmasAreTrue (setting L more place) defs → AllByRecursion (HoldsFor defs specs n) goals → AllByRecursion (HoldsIn L more place defs specs n) goals
  all_in [] k a l h = tt
  all_in (goal ∷ goals) k a l h = (h.0.in_each L more place k a l, all_in goals k a l h.1)
