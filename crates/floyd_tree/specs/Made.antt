-- What may be made: a node that is well sorted and within the limits.
use Rattle.std.specs.Prelude.{◌≡◌, ℕ, ◌+◌, Option, Some, None, Bool, ◌&&◌, nat_le, if◌then◌else◌, is_some, Result, Ok, Err, List}
use Rattle.std.specs.Option.{option_or}
use Rattle.floyd_tree_sorts.specs.declared.heads.Head.{Head}
use Rattle.floyd_tree.specs.declared.stop.MakeStop.{MakeStop}
use Rattle.floyd_tree.specs.declared.stop.MakeStop.TheVariants.{IllSorted, TooLarge, Memory}
use Rattle.floyd_tree.specs.Plain.{Plain, Plains, At, Done, More, plains, size, sizes, height, heights}
use Rattle.floyd_tree.specs.WellSorted.{sort_of}

-- beyond no limit
abbrev pub fits : Plain → Bool
fits t = nat_le (size t) 65536 && nat_le (height t) 256

-- why a node may not be made, where its kids are made already
abbrev pub fault_at : Plain → Option MakeStop
fault_at t = if is_some (sort_of t) then (if fits t then None else Some TooLarge) else Some IllSorted

-- the tree, unless it has a fault
abbrev pub unless : {T E : Type 0} → Option E → T → Result T E
unless None t = Ok t
unless (Some stop) t = Err stop

-- what is made of a head and of kids that are made already
abbrev pub made : Head → List Plain → Result Plain MakeStop
made head kids = unless (fault_at (At head (plains kids))) (At head (plains kids))

-- the first fault of a tree that is made from its leaves up and from left to right
abbrev mutual
  pub fault : Plain → Option MakeStop
  fault (At head kids) = option_or (faults kids) (fault_at (At head kids))

  pub faults : Plains → Option MakeStop
  faults Done = None
  faults (More t ts) = option_or (fault t) (faults ts)

-- what is made of a whole tree
abbrev pub built : Plain → Result Plain MakeStop
built t = unless (fault t) t

-- what stopped a call is the fault, unless memory ran out
abbrev pub IsFault : MakeStop → Option MakeStop → Type 0
IsFault IllSorted fault = fault ≡ Some IllSorted
IsFault TooLarge fault = fault ≡ Some TooLarge
IsFault Memory fault = Unit {0}

-- what was answered is what should be, unless memory ran out
abbrev pub Gives : {T : Type 0} → Result T MakeStop → Result T MakeStop → Type 0
Gives (Ok t) should = should ≡ Ok t
Gives (Err IllSorted) should = should ≡ Err IllSorted
Gives (Err TooLarge) should = should ≡ Err TooLarge
Gives (Err Memory) should = Unit {0}
