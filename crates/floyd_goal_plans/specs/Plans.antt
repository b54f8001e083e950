-- What rows make of the arguments of a command: the first of its terms, and side formulas with parts.
use Rattle.std.specs.Prelude.{List, [], ◌∷◌, Result, Ok, Err}
use Rattle.floyd_text.specs.declared.refusal.No.{No}
use Rattle.floyd_tree.specs.Formulas.{PlainFormula}
use Rattle.floyd_tree.specs.Plain.{Plain}
use Rattle.floyd_assert_trees.specs.declared.sep.Sep.{Sep}
use Rattle.floyd_goal.specs.Goals.{wrong_goal}
use Rattle.floyd_goal_parts.specs.declared.placing.Plan.{Plan}

-- the first of the terms that a command is given, which it always is
abbrev pub first_term : List Plain → Result Plain No
first_term [] = Err wrong_goal
first_term (t ∷ ts) = Ok t

-- the side formulas and the parts that a row makes of a part
abbrev pub planned : Result (List PlainFormula) No → Result (List Sep) No → Result Plan No
planned (Err why) new = Err why
planned (Ok fs) (Err why) = Err why
planned (Ok fs) (Ok ps) = Ok (record { sides = fs; new = ps })
