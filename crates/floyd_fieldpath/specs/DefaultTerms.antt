-- The default term of a type.
use Rattle.std.specs.Prelude.{if◌then◌else◌, Result}
use Rattle.floyd_tree_sorts.specs.declared.heads.Head.TheVariants.{Default, Operator}
use Rattle.floyd_tree_sorts.specs.declared.operators.Operator.TheVariants.{Vundef}
use Rattle.floyd_tree_sorts.specs.declared.sorts.Sort.{Sort}
use Rattle.floyd_tree_sorts.specs.Rows.{is_scalar}
use Rattle.floyd_tree.specs.declared.stop.MakeStop.{MakeStop}
use Rattle.floyd_tree.specs.Made.{fault_at, unless}
use Rattle.floyd_tree.specs.Plain.{Plain, At, Done, plains}
use Rattle.floyd_tree.specs.Types.{SizedType}

-- the default of a type whose value sort is s; that of a scalar is undefined
abbrev pub default_term : SizedType → Sort → Plain
default_term t s = if is_scalar t.shape then At (Operator Vundef) Done else At (Default t.shape s) (plains t.sizes)

-- what is made of a term, where its kids are made already
abbrev pub made_term : Plain → Result Plain MakeStop
made_term t = unless (fault_at t) t
