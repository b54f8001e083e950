-- `forward` on break and continue is sound.
use Rattle.std.proofs.Common.{◌≡◌, ℕ, List, [], ◌∷◌, Ok, sym, subst, slice_get}
use Rattle.std.specs.List.{AllByRecursion}
use Rattle.floyd_clight.specs.declared.syntax.Stmt.{Stmt, Break, Continue}
use Rattle.floyd_clight_heap.specs.Heaplet.{Heaplet}
use Rattle.floyd_clight_machine.specs.Machine as m
use Rattle.floyd_clight_runs.specs.Calls.{SafeAll, with_normal}
use Rattle.floyd_clight_runs.proofs.Safety.{broke, continued}
use Rattle.floyd_tree_values.specs.BuiltIns.{Env}
use Rattle.floyd_assert_trees.specs.declared.items.Defs.{Defs}
use Rattle.floyd_assert_trees.specs.declared.spec.SpecTable.{SpecTable}
use Rattle.floyd_goal.specs.Goals.{intros_first, some_left}
use Rattle.floyd_goal_trees.specs.declared.exits.Exit as e
use Rattle.floyd_goal_trees.specs.declared.exits.Exit.TheVariants as x
use Rattle.floyd_goal_trees.specs.Contexts.{after_command}
use Rattle.floyd_goal_trees.specs.declared.goal.Goal.{Goal}
use Rattle.floyd_goal_trees.specs.declared.goal.Goal.TheVariants.{Entail, Run}
use Rattle.floyd_goal_trees.specs.declared.goal.Run as r
use Rattle.floyd_goal_meaning.specs.declared.linked.Linked.{Linked}
use Rattle.floyd_goal_meaning.specs.GoalHolds.{Given, HoldsFor, Leaves, LemmasAreTrue, Stands, goal_exits}
use Rattle.floyd_goal_meaning.specs.Links.{AreApart, Has}
use Rattle.floyd_goal_meaning.specs.Programs.{Further, Places, setting}
use Rattle.floyd_goal_meaning.specs.Worlds.{world}
use Rattle.floyd_goal_laws.proofs.Givens.{given_after}
use Rattle.floyd_forward.specs.Forward.{OfNext, Row}
use Rattle.floyd_forward.specs.Leave as leave
use Rattle.floyd_forward_soundness.specs.Laws.{IsLeave, IsSoundOn}
use Rattle.floyd_forward_soundness.proofs.Setting.{passed, same_goals}

module _ (defs : Defs) (specs : SpecTable) (n : ℕ) (run : r.Run) where
  -- an exit that the source leads to is met
  exit_met : (exit : e.Exit) (goals : List Goal) → leave.Leaves run exit (Ok goals) → AllByRecursion (HoldsFor defs specs n) goals →
      (L : Linked) (more : List Further) (place : Places) → Has L defs specs → AreApart L more place → LemmasAreTrue (setting L more place) defs → (env : Env) → Given (setting L more place) defs run.context env →
      (act : m.Act) (h : Heaplet) → Stands (setting L more place) env run.exits.ret run.source act h → Leaves (setting L more place) env run.exits.ret exit act h
  exit_met (x.To target) goals row hold L more place has apart lemmas env given act h stands =
      let goal : Goal = Entail (record { context = after_command run.context; source = run.source; target = target }) in
      let one : HoldsFor defs specs n goal = (subst (AllByRecursion (HoldsFor defs specs n)) (same_goals goals (goal ∷ []) row) hold).0 in
      record {
        result = stands.result;
        blocks = stands.blocks;
        distinct = stands.distinct;
        places = stands.places;
        holds = one.in_each L more place has apart lemmas env (given_after (setting L more place) defs env run.context given) act.temps h stands.holds;
      }
  exit_met x.None goals row hold L more place has apart lemmas env given act h stands = absurd cc
  exit_met x.End goals row hold L more place has apart lemmas env given act h stands = absurd cc

  named : (s : Stmt) (rest : List Stmt) (exit : e.Exit) (goals : List Goal) → run.rest ≡ s ∷ rest → Row defs.structs (Run run) (Ok goals) → OfNext defs.structs run (slice_get (s ∷ rest) 0) (Ok goals)
  named s rest exit goals next row = subst (λ ss. OfNext defs.structs run (slice_get ss 0) (Ok goals)) next row

  pub break_sound : (rest : List Stmt) (goals : List Goal) → run.rest ≡ Break ∷ rest → Row defs.structs (Run run) (Ok goals) → AllByRecursion (HoldsFor defs specs n) goals → HoldsFor defs specs n (Run run)
  break_sound rest goals next row hold =
      let left = passed (some_left run.source.existentials) intros_first (leave.Leaves run run.exits.brk) goals (named Break rest run.exits.brk goals next row) in
      record {
        in_each = λ L more place has apart lemmas env given keeps act h stands.
            let E = goal_exits (setting L more place) env run.exits in
            subst (λ ss. SafeAll (world L more place) n ss E act h) (sym next)
            (broke (world L more place) n act h (with_normal (SafeAll (world L more place) n rest E) E) (exit_met run.exits.brk goals left.1 hold L more place has apart lemmas env given act h stands));
      }

  pub continue_sound : (rest : List Stmt) (goals : List Goal) → run.rest ≡ Continue ∷ rest → Row defs.structs (Run run) (Ok goals) → AllByRecursion (HoldsFor defs specs n) goals → HoldsFor defs specs n (Run run)
  continue_sound rest goals next row hold =
      let left = passed (some_left run.source.existentials) intros_first (leave.Leaves run run.exits.cont) goals (named Continue rest run.exits.cont goals next row) in
      record {
        in_each = λ L more place has apart lemmas env given keeps act h stands.
            let E = goal_exits (setting L more place) env run.exits in
            subst (λ ss. SafeAll (world L more place) n ss E act h) (sym next)
            (continued (world L more place) n act h (with_normal (SafeAll (world L more place) n rest E) E) (exit_met run.exits.cont goals left.1 hold L more place has apart lemmas env given act h stands));
      }

pub of_leave : IsSoundOn IsLeave
of_leave defs specs n run Break rest goals laid fits next is row hold = break_sound defs specs n run rest goals next row hold
of_leave defs specs n run Continue rest goals laid fits next is row hold = continue_sound defs specs n run rest goals next row hold
of_leave defs specs n run s rest goals laid fits next is row hold = absurd is
