-- Whether two types are one: their shapes are, and the sizes of their arrays are identical terms.
use Rattle.std.specs.Prelude.{Bool}
use Rattle.std.specs.Coded.{Coded}
use Rattle.floyd_arith.specs.Same.{same_code}
use Rattle.floyd_tree_sorts.specs.contracts.heads.Head as h
use Rattle.floyd_tree_sorts.specs.contracts.shape.Shape as s
use Rattle.floyd_tree.specs.Code.{plain_code}
use Rattle.floyd_tree.specs.Types.{SizedType, type_code}

abbrev pub coded_types : Coded SizedType
coded_types = type_code s.the_row.coded (plain_code h.the_row.coded)

-- The codes of different types differ.
unfoldable pub same_type : SizedType → SizedType → Bool
same_type t u = same_code (coded_types.code t) (coded_types.code u)
