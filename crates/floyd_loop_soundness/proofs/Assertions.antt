-- Statements that run from an assertion which a command is given.
use Rattle.std.proofs.Common.{◌≡◌, ℕ, Bool, true, false, List, [], ◌∷◌, refl, ap, subst}
use Rattle.floyd_clight.specs.declared.syntax.Stmt.{Stmt}
use Rattle.floyd_clight_heap.specs.Heaplet.{Heaplet}
use Rattle.floyd_clight_machine.specs.Machine.{Act}
use Rattle.floyd_clight_runs.specs.Calls.{KeepsBelow, SafeAll}
use Rattle.floyd_tree.specs.Formulas.{PlainFormula}
use Rattle.floyd_tree_values.specs.BuiltIns.{Env}
use Rattle.floyd_truth.specs.Truth.{AllTrue}
use Rattle.floyd_assert_trees.specs.declared.assertion.Assertion.{Assertion}
use Rattle.floyd_assert_trees.specs.declared.items.Defs.{Defs}
use Rattle.floyd_assert_trees.specs.declared.spec.SpecTable.{SpecTable}
use Rattle.floyd_assert_meaning.specs.Settings.{Setting, with_data}
use Rattle.floyd_goal.specs.Goals.{some_left}
use Rattle.floyd_goal_truth.proofs.Uses.{all_true}
use Rattle.floyd_goal_trees.specs.Contexts.{context_of, with_hypotheses}
use Rattle.floyd_goal_trees.specs.declared.context.Context.{Context}
use Rattle.floyd_goal_trees.specs.declared.exits.Exit as e
use Rattle.floyd_goal_trees.specs.declared.exits.Exit.TheVariants as x
use Rattle.floyd_goal_trees.specs.declared.exits.Exits as g
use Rattle.floyd_goal_trees.specs.declared.exits.Return as t
use Rattle.floyd_goal_trees.specs.declared.goal.Run as r
use Rattle.floyd_goal_forms.specs.Starts.{by_rest, run_goal}
use Rattle.floyd_goal_meaning.specs.declared.linked.Linked.{Linked}
use Rattle.floyd_goal_meaning.specs.GoalHolds.{Given, HoldsFor, LemmasAreTrue, Stands, goal_exits}
use Rattle.floyd_goal_meaning.specs.Links.{AreApart, Has}
use Rattle.floyd_goal_meaning.specs.Programs.{Further, Places, setting}
use Rattle.floyd_goal_meaning.specs.Worlds.{sight, world}
use Rattle.floyd_forward_soundness.proofs.Setting.{no_more, runs_safe}
use Rattle.floyd_control.specs.Parts.{context_from, part_goal, runs_from, source_from}

goal_context : (run : r.Run) (ss : List Stmt) (exit : e.Exit) → run.context ≡ context_of (by_rest run ss exit)
goal_context run [] x.None = refl
goal_context run [] (x.To a) = refl
goal_context run [] x.End = refl
goal_context run (s ∷ ss) exit = refl

module _ (S : Setting) (defs : Defs) (env : Env) where
  -- with hypotheses that are true
  pub given_with : (context : Context) (fs : List PlainFormula) → Given S defs context env → AllTrue S.defs S.has_spec env fs → Given S defs (with_hypotheses context fs) env
  given_with context fs g t = record { suits = g.suits; global = g.global; hypotheses = all_true S.defs S.has_spec env context.hypotheses fs g.hypotheses t; mark = g.mark }

  -- where there are no existentials, PROP may be left out
  pub without_props : (ret : t.Return) (a : Assertion) (act : Act) (h : Heaplet) → Stands S env ret a act h → Stands S env ret (record a { props = [] }) act h
  without_props ret a act h stands = record {
    result = stands.result;
    blocks = stands.blocks;
    distinct = stands.distinct;
    places = stands.places;
    holds = record {
      witnesses = stands.holds.witnesses;
      sorted = stands.holds.sorted;
      props = tt;
      locals = stands.holds.locals;
      parts = stands.holds.parts;
    };
  }

module _ (defs : Defs) (specs : SpecTable) (n : ℕ) (L : Linked) (more : List Further) (place : Places) (has : Has L defs specs) (apart : AreApart L more place) (lemmas : LemmasAreTrue (setting L more place) defs) (env : Env) (keeps : KeepsBelow (world L more place) (sight L more place specs) n) where
  abbrev S : Setting
  S = setting L more place

  -- where the goal of statements holds, they are safe
  pub goal_safe : (run : r.Run) → HoldsFor defs specs n (run_goal run) → Given S defs run.context env → (act : Act) (h : Heaplet) → Stands S env run.exits.ret run.source act h → SafeAll (world L more place) n run.rest (goal_exits S env run.exits) act h
  goal_safe run one given act h stands =
      runs_safe L more place specs n env run (one.in_each L more place has apart lemmas env (subst (λ c. Given S defs c env) (goal_context run run.rest run.exits.normal) given)) keeps act h stands

  -- and so where that of a part holds and its formula is true
  pub part_safe : (context : Context) (source : Assertion) (exits : g.Exits) (f : PlainFormula) (ss : List Stmt) → HoldsFor defs specs n (part_goal context source exits f ss) → Given S defs context env → AllTrue S.defs S.has_spec env (f ∷ []) → (act : Act) (h : Heaplet) →
      Stands S env exits.ret source act h → SafeAll (world L more place) n ss (goal_exits S env exits) act h
  part_safe context source exits f ss one given true' act h stands =
      goal_safe (record { context = with_hypotheses context (f ∷ []); source = source; rest = ss; exits = exits }) one (given_with S defs env context (f ∷ []) given true') act h stands

  -- from an assertion
  pub from_safe : (context : Context) (a : Assertion) (ss : List Stmt) (exits : g.Exits) → HoldsFor defs specs n (runs_from context a ss exits) → Given S defs context env → (act : Act) (h : Heaplet) → Stands S env exits.ret a act h → SafeAll (world L more place) n ss (goal_exits S env exits) act h
  from_safe context a ss exits one given act h stands = by (some_left a.existentials) refl one
    where
      by : (b : Bool) → some_left a.existentials ≡ b → HoldsFor defs specs n (run_goal (record { context = context_from b context a; source = source_from b a; rest = ss; exits = exits })) → SafeAll (world L more place) n ss (goal_exits S env exits) act h
      by true e held = goal_safe (record { context = context; source = a; rest = ss; exits = exits }) held given act h stands
      by false e held =
          let bare = no_more a.existentials e in
          let same : with_data env a.existentials stands.holds.witnesses ≡ env = ap (λ bs. with_data env bs stands.holds.witnesses) bare in
          goal_safe (record { context = with_hypotheses context a.props; source = record a { props = [] }; rest = ss; exits = exits }) held
          (given_with S defs env context a.props given (subst (λ o. AllTrue S.defs S.has_spec o a.props) same stands.holds.props)) act h (without_props S defs env exits.ret a act h stands)
