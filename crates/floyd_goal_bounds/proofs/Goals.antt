-- Goals within the limit on sizes, with few existentials, are not beyond all bounds.
use Rattle.std.proofs.Common.{◌≡◌, ℕ, ◌+◌, ◌≤◌, ◌<◌, ◌^◌, List, [], ◌∷◌, length, Option, Some, None, refl, arith}
use Rattle.std.specs.List.{AllByRecursion}
use Rattle.floyd_tree.specs.Plain.{Plain, size}
use Rattle.floyd_tree_values.specs.Rules.{Scope}
use Rattle.floyd_assert_trees.specs.declared.assertion.Assertion.{Assertion}
use Rattle.floyd_assert_trees.specs.declared.items.Defs.{Defs}
use Rattle.floyd_assert_trees.specs.declared.spec.SpecTable.{SpecTable}
use Rattle.floyd_assert_trees.specs.Sizes.{assertion_size}
use Rattle.floyd_goal_changes.specs.Changed.{covering}
use Rattle.floyd_goal_forms.specs.Assertions.{AssertionFits, inner_scope}
use Rattle.floyd_goal_forms.specs.Goals.{ExitFits}
use Rattle.floyd_goal_trees.specs.Contexts.{scope_of}
use Rattle.floyd_goal_trees.specs.declared.exits.Exit.{Exit}
use Rattle.floyd_goal_trees.specs.declared.exits.Exit.TheVariants as x
use Rattle.floyd_goal_trees.specs.declared.goal.Goal.TheVariants.{Run, Entail, Pure}
use Rattle.floyd_goal_trees.specs.Sizes.{exit_size, value_size}
use Rattle.floyd_rewriting_soundness.specs.Small.{IsSmall, IsSmallExit}
use Rattle.floyd_goal_bounds.specs.Bounds.{AreAtMost, ExitAtMost, SmallWithinLimits}
use Rattle.floyd_goal_bounds.proofs.Nodes.{IsShared, few_nodes, parts_shared}

module _ (defs : Defs) (specs : SpecTable) (scope : Scope) where
  assertion_small : (a : Assertion) → AssertionFits defs specs scope a → assertion_size a ≤ 4194304 → AreAtMost (2 ^ 61) a → IsSmall a
  assertion_small a h l n = omega (arith, few_nodes a (parts_shared defs (inner_scope a scope) a.parts h.parts), l, n)

  exit_small : (exit : Exit) → ExitFits defs specs scope exit → exit_size exit ≤ 4194304 → ExitAtMost (2 ^ 61) exit → IsSmallExit exit
  exit_small x.None h l n = tt
  exit_small (x.To a) h l n = assertion_small a h l n
  exit_small x.End h l n = tt

  -- the postcondition with its term of RETURN
  covering_small : (a : Assertion) (value : Option Plain) → AssertionFits defs specs scope a → assertion_size a + value_size value ≤ 4194304 → AreAtMost (2 ^ 61) a → IsSmall (covering a value)
  covering_small a None h l n = assertion_small a h (omega (arith, l)) n
  covering_small a (Some t) h l n = omega (arith, few_nodes (covering a (Some t)) (tt, parts_shared defs (inner_scope a scope) a.parts h.parts), l, n)

pub small : SmallWithinLimits
small defs specs (Run run) h l n =
    let scope = scope_of run.context in (
      assertion_small defs specs scope run.source h.source (omega (arith, l)) n.0,
      record {
        normal = exit_small defs specs scope run.exits.normal h.exits.normal (omega (arith, l)) n.1.normal;
        brk = exit_small defs specs scope run.exits.brk h.exits.brk (omega (arith, l)) n.1.brk;
        cont = exit_small defs specs scope run.exits.cont h.exits.cont (omega (arith, l)) n.1.cont;
        ret = covering_small defs specs scope run.exits.ret.post run.exits.ret.value h.exits.ret.post (omega (arith, l)) n.1.ret;
      },
    )
small defs specs (Entail entail) h l n =
    let scope = scope_of entail.context in
    (assertion_small defs specs scope entail.source h.source (omega (arith, l)) n.0, assertion_small defs specs scope entail.target h.target (omega (arith, l)) n.1)
small defs specs (Pure pure) h l n = tt
