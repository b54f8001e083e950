-- Where `forward` keeps goals well formed.
use Rattle.std.specs.Prelude.{List, ◌∷◌, Some}
use Rattle.floyd_ctypes.specs.Structs.{Structs}
use Rattle.floyd_clight.specs.declared.syntax.Stmt.{Stmt, Return}
use Rattle.floyd_assert_trees.specs.declared.items.Defs.{Defs}
use Rattle.floyd_goal_trees.specs.declared.args.Args.{Args}
use Rattle.floyd_goal_trees.specs.declared.goal.Goal.{Goal}
use Rattle.floyd_goal_trees.specs.declared.goal.Goal.TheVariants.{Entail, Pure, Run}
use Rattle.floyd_goal_parts.specs.Rows.{Answer}
use Rattle.floyd_forward.specs.Forward.{Row}

-- the next statement returns no value
abbrev pub NoValueReturned : List Stmt → Type 0
NoValueReturned (Return (Some e) ∷ rest) = ⊥
NoValueReturned ss = Unit {0}

abbrev pub IsNoValueReturn : Defs → Goal → Args → Type 0
IsNoValueReturn defs (Run run) args = NoValueReturned run.rest
IsNoValueReturn defs (Entail entail) args = Unit {0}
IsNoValueReturn defs (Pure pure) args = Unit {0}

-- the command takes no arguments
abbrev pub ForwardRow : Structs → Goal → Args → Answer → Type 0
ForwardRow structs goal args = Row structs goal
