-- What a test comes to on the machine, and what is true in the branch that is taken.
use Rattle.std.specs.Prelude.{◌≡◌, Bool, Some, Ok, if◌then◌else◌}
use Rattle.floyd_int.specs.declared.kinds.Value.{Value}
use Rattle.floyd_clight.specs.declared.syntax.Expr.{Expr}
use Rattle.floyd_clight_heap.specs.Heaplet.{Heaplet}
use Rattle.floyd_clight_machine.specs.Evaluation.{Look, Temps, eval_by}
use Rattle.floyd_clight_machine.specs.Machine.{is_true}
use Rattle.floyd_clight_typing.specs.Expressions.{Names}
use Rattle.floyd_clight_typing.specs.Statements.{IsCondition}
use Rattle.floyd_tree_values.specs.BuiltIns.{Env}
use Rattle.floyd_truth.specs.Truth.{Truth}
use Rattle.floyd_assert_trees.specs.declared.assertion.Assertion.{Assertion}
use Rattle.floyd_assert_meaning.specs.Settings.{Setting}
use Rattle.floyd_symexpr_pointer_laws.specs.Laws.{IsMet}
use Rattle.floyd_symexpr_soundness.specs.Laws.{Meets}
use Rattle.floyd_conditions.specs.declared.branches.Branches.{Branches}
use Rattle.floyd_conditions.specs.declared.branches.Condition.{Condition}
use Rattle.floyd_conditions.specs.Conditions.{condition}

-- the machine evaluates the test, which is met or not, and the formula of that branch is true
pub record IsDecided (S : Setting) (env : Env) (look : Look) (temps : Temps) (e : Expr) (b : Branches) : Type 0 where
  pub value : Value
  pub is : eval_by S.defs.structs look temps e ≡ Some value
  pub met : Bool
  pub tested : is_true value ≡ Some met
  pub holds : Truth S.defs S.has_spec env (if met then b.met else b.unmet)

-- Where temporaries and a heaplet meet the assertion, and what the test needs is so, it is decided.
abbrev pub TestsDecide : Type 0
TestsDecide =
    (S : Setting) (env : Env) (look : Look) (temps : Temps) (source : Assertion) (h : Heaplet) (known : Names) (e : Expr) (given : Condition) →
    Meets S env look temps source h known → IsCondition S.defs.structs known e →
    condition source S.defs.structs e ≡ Ok given → IsMet S env look given.needs → IsDecided S env look temps e given.branches
