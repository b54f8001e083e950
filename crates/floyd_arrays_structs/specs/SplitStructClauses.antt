-- Parts that are found one after the other.
use Rattle.std.specs.Prelude.{List, ◌++◌, Result, Ok, Err}
use Rattle.floyd_text.specs.declared.refusal.No.{No}
use Rattle.floyd_assert_trees.specs.declared.sep.Sep.{Sep}

-- with these before what is found, if nothing is refused
abbrev pub ahead : List Sep → Result (List Sep) No → Result (List Sep) No
ahead parts (Ok more) = Ok (parts ++ more)
ahead parts (Err why) = Err why
