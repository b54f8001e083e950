-- Where `forward` keeps goals well formed, also on a return of a value.
use Rattle.std.specs.Prelude.{List, ◌∷◌, Some}
use Rattle.floyd_ctypes.specs.Structs.{Structs}
use Rattle.floyd_clight.specs.declared.syntax.Stmt.{Stmt, Return}
use Rattle.floyd_assert_trees.specs.declared.items.Defs.{Defs}
use Rattle.floyd_goal_trees.specs.declared.args.Args.{Args}
use Rattle.floyd_goal_trees.specs.declared.goal.Goal.{Goal}
use Rattle.floyd_goal_trees.specs.declared.goal.Goal.TheVariants.{Entail, Pure, Run}
use Rattle.floyd_goal_trees.specs.declared.goal.Run as r
use Rattle.floyd_return_soundness.specs.Laws.{IsPlain}

-- a value that the next statement returns is of a scalar type, and not beyond all bounds
abbrev pub PlainIfReturned : Structs → r.Run → List Stmt → Type 0
PlainIfReturned structs run (Return (Some e) ∷ rest) = IsPlain structs run e
PlainIfReturned structs run ss = Unit {0}

abbrev pub IsPlainNext : Defs → Goal → Args → Type 0
IsPlainNext defs (Run run) args = PlainIfReturned defs.structs run run.rest
IsPlainNext defs (Entail entail) args = Unit {0}
IsPlainNext defs (Pure pure) args = Unit {0}
