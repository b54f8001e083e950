-- The proof of a function: its start, and the goals that are left on the way.
use Rattle.std.specs.Prelude.{ℕ, ◌+◌, List, [], ◌∷◌}
use Rattle.floyd_ctypes.specs.declared.ctype.CType.{CType}
use Rattle.floyd_clight.specs.declared.syntax.Stmt.{Stmt}
use Rattle.floyd_clight.specs.Flat.{flat}
use Rattle.floyd_stub_assert.specs.declared.formula.Formula.{False}
use Rattle.floyd_stub_assert.specs.declared.assertion.Assertion.{Assertion}
use Rattle.floyd_stub_assert.specs.declared.funspec.Precondition.{Precondition}
use Rattle.floyd_stub_assert.specs.declared.funspec.Precondition.TheVariants.{Main}
use Rattle.floyd_stub_assert.specs.declared.funspec.Funspec.{Funspec}
use Rattle.floyd_stub_goal.specs.declared.goal.Goal.{Goal}
use Rattle.floyd_stub_goal.specs.declared.goal.Goal.TheVariants.{Run}
use Rattle.floyd_stub_goal.specs.declared.stack.Numbered.{Numbered}
use Rattle.floyd_stub_runs.specs.Linked.{main_body, int}

-- of main there are no arguments, and no global variables
abbrev pub start_source : Precondition → Assertion
start_source Main = record { prop = []; local = []; sep = [] }

abbrev pub nowhere : Assertion
nowhere = record { prop = False ∷ []; local = []; sep = [] }

-- The start of the proof of a function that is not void, from its body and its specification. Its end is not reached.
abbrev pub start : Stmt → CType → Funspec → Goal
start body result spec = Run (record {
  context = record { hypotheses = [] };
  source = start_source spec.pre;
  rest = flat body;
  exits = record { normal = nowhere; ret = record { post = spec.post; value = spec.value; result = result } };
})

-- the start of the proof of a main with these statements
abbrev pub main_start : List Stmt → Funspec → Goal
main_start statements spec = start (main_body statements) int spec

abbrev pub numbered : ℕ → List Goal → List Numbered
numbered n [] = []
numbered n (g ∷ gs) = record { number = n; goal = g } ∷ numbered (n + 1) gs

-- a proof on the way: the goals that are left, numbered in the order in which they were made, and the number of the next
pub record Play : Type 0 where
  pub next : ℕ
  pub left : List Numbered

abbrev pub play_start : Goal → Play
play_start goal = record { next = 2; left = record { number = 1; goal = goal } ∷ [] }
