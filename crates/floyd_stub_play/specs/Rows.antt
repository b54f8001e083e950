-- The commands of a script, each with its row.
use Rattle.std.specs.Prelude.{List, Result, Err}
use Rattle.floyd_text.specs.declared.refusal.No.{No}
use Rattle.floyd_text.specs.declared.rule.Rule.{Rule}
use Rattle.floyd_text.specs.declared.rule.Rule.TheVariants.{Forward, Cancel}
use Rattle.floyd_stub_goal.specs.declared.goal.Goal.{Goal}
use Rattle.floyd_stub_goal.specs.Sides.{wrong_goal}
use Rattle.floyd_stub_forward.specs.Forward.{forward_row}
use Rattle.floyd_stub_entail.specs.Cancel.{cancel_row}

abbrev pub row : Rule → Goal → Result (List Goal) No
row Forward goal = forward_row goal
row Cancel goal = cancel_row goal
row command goal = Err wrong_goal
