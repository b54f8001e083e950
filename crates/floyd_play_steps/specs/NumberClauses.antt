-- What the nodes of a list of numbers keep.
use Rattle.std.specs.Prelude.{ℕ, List, [], ◌∷◌, Option, Some, None}
use Rattle.std.specs.declared.rc.Rc.{Rc}
use Rattle.std.specs.declared.alloc.Global.{Global}
use Rattle.floyd_play_steps.specs.declared.numbers.NumberNode.{NumberNode}

abbrev pub numbers_of : NumberNode → List ℕ
numbers_of n = n.number ∷ n.below

abbrev pub numbers_in : Option (Rc NumberNode Global) → List ℕ
numbers_in None = []
numbers_in (Some n) = numbers_of n.value
