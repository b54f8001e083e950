-- Goals that say the same follow from each other.
use Rattle.std.proofs.Common.{◌≡◌, ℕ, true, List, [], ◌∷◌, sym, subst, ◌∙◌}
use Rattle.floyd_int.specs.declared.kinds.Value.{Value}
use Rattle.floyd_int.specs.declared.kinds.Value.TheVariants.{Vundef}
use Rattle.floyd_ctypes.specs.Has.{has}
use Rattle.floyd_clight_heap.specs.Heaplet.{Heaplet}
use Rattle.floyd_clight_machine.specs.Exits.{Exit, Normal, Broke, Continued, Returned}
use Rattle.floyd_clight_machine.specs.Machine.{Act, LocalBlock}
use Rattle.floyd_clight_runs.specs.Calls.{AreBlocksOf, ReturnOf}
use Rattle.floyd_tree_values.specs.BuiltIns.{Env}
use Rattle.floyd_tree_values.specs.Data.{Datum}
use Rattle.floyd_truth.proofs.OneTruth.{giving}
use Rattle.floyd_assert_trees.specs.declared.assertion.Assertion.{Assertion}
use Rattle.floyd_assert_meaning.specs.Settings.{Setting}
use Rattle.floyd_assert_meaning.specs.Alike.{Alike}
use Rattle.floyd_assert_meaning.proofs.AlikeLaws.{alike_holds, alike_posts}
use Rattle.floyd_goal_trees.specs.declared.exits.Exit as e
use Rattle.floyd_goal_trees.specs.declared.exits.Exit.TheVariants as x
use Rattle.floyd_goal_trees.specs.declared.exits.Exits as g
use Rattle.floyd_goal_trees.specs.declared.exits.Return as r
use Rattle.floyd_goal_trees.specs.declared.goal.Goal.{Goal}
use Rattle.floyd_goal_trees.specs.declared.goal.Goal.TheVariants.{Run, Entail, Pure}
use Rattle.floyd_goal_meaning.specs.GoalHolds.{goal_exits, Leaves, MayReturn, postcondition, return_exits, StandAt, Stands}
use Rattle.floyd_goal_laws.specs.Alike.{ExitsAlike, ReturnsAlike, WaysAlike, GoalsAlike}
use Rattle.floyd_goal_laws.specs.Following.{Follows}

module _ (S : Setting) (env : Env) (f : List ℕ → Datum) where
  abbrev other : Env
  other = giving env f

  stand_there : (blocks : List LocalBlock) → StandAt env blocks → StandAt other blocks
  stand_there [] s = tt
  stand_there (b ∷ blocks) s = (s.0, stand_there blocks s.1)

  stand_here : (blocks : List LocalBlock) → StandAt other blocks → StandAt env blocks
  stand_here [] s = tt
  stand_here (b ∷ blocks) s = (s.0, stand_here blocks s.1)

  module _ (p q : r.Return) (same : ReturnsAlike S env f p q) where
    stands_there : (a b : Assertion) (act : Act) (h : Heaplet) → Alike S env env.variables f a b → Stands S env p a act h → Stands S other q b act h
    stands_there a b act h alike s = record {
      result = s.result ∙ same.result;
      blocks = subst (λ blocks. AreBlocksOf S.defs.structs blocks act.blocks) same.blocks s.blocks;
      distinct = s.distinct;
      places = stand_there act.blocks s.places;
      holds = (alike_holds S env env.variables f a b alike act.temps h).0 s.holds;
    }

    stands_here : (a b : Assertion) (act : Act) (h : Heaplet) → Alike S env env.variables f a b → Stands S other q b act h → Stands S env p a act h
    stands_here a b act h alike s = record {
      result = s.result ∙ sym same.result;
      blocks = subst (λ blocks. AreBlocksOf S.defs.structs blocks act.blocks) (sym same.blocks) s.blocks;
      distinct = s.distinct;
      places = stand_here act.blocks s.places;
      holds = (alike_holds S env env.variables f a b alike act.temps h).1 s.holds;
    }

    may_return : (v : Value) (h : Heaplet) → MayReturn S other q v h → MayReturn S env p v h
    may_return v h m = (
      subst (λ t. has t v ≡ true) (sym same.result) m.0,
      (alike_posts S env env.variables f (postcondition p) (postcondition q) same.post v h).1 m.1,
    )

    return_of : (act : Act) (h : Heaplet) → ReturnOf act h (return_exits S other q) Vundef → ReturnOf act h (return_exits S env p) Vundef
    return_of act h m = record { locals = m.locals; rest = m.rest; joins = m.joins; owned = m.owned; typed = m.typed; after = may_return Vundef m.rest m.after }

    leaves : (a b : e.Exit) (act : Act) (h : Heaplet) → ExitsAlike S env f a b → Leaves S other q b act h → Leaves S env p a act h
    leaves x.None x.None act h k m = absurd m
    leaves (x.To a) (x.To b) act h k m = stands_here a b act h k m
    leaves x.End x.End act h k m = return_of act h m
    leaves a b act h k m = absurd k

  ways : (a b : g.Exits) → WaysAlike S env f a b → (way : Exit) (h : Heaplet) → goal_exits S other b way h → goal_exits S env a way h
  ways a b k (Normal act) h m = leaves a.ret b.ret k.ret a.normal b.normal act h k.normal m
  ways a b k (Broke act) h m = leaves a.ret b.ret k.ret a.brk b.brk act h k.brk m
  ways a b k (Continued act) h m = leaves a.ret b.ret k.ret a.cont b.cont act h k.cont m
  ways a b k (Returned v) h m = may_return a.ret b.ret k.ret v h m

  pub alike_follow : (goal made : Goal) → GoalsAlike S env f goal made → Follows S env other goal made
  alike_follow (Run a) (Run b) k =
      record {
        rest = k.0;
        source = λ act h s. stands_there a.exits.ret b.exits.ret k.2.ret a.source b.source act h k.1 s;
        exits = ways a.exits b.exits k.2;
      }
  alike_follow (Entail a) (Entail b) k =
      record {
        source = λ temps h s. (alike_holds S env env.variables f a.source b.source k.0 temps h).0 s;
        target = λ temps h s. (alike_holds S env env.variables f a.target b.target k.1 temps h).1 s;
      }
  alike_follow (Pure a) (Pure b) k = k.1
  alike_follow goal made k = absurd k
