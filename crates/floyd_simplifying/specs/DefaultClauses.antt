-- Words of the clauses of private functions: default terms.
use Rattle.std.specs.Prelude.{Result, Ok}
use Rattle.floyd_text.specs.declared.refusal.No.{No}
use Rattle.floyd_tree_sorts.specs.declared.heads.Head.{Head}
use Rattle.floyd_tree_sorts.specs.declared.heads.Head.TheVariants as h
use Rattle.floyd_tree_sorts.specs.declared.operators.Operator.TheVariants.{Pair}
use Rattle.floyd_tree_sorts.specs.declared.sorts.Sort.{Sort}
use Rattle.floyd_tree.specs.Plain.{Plain}
use Rattle.floyd_fieldpath.specs.Sums.{two}
use Rattle.floyd_fieldpath.specs.Written.{on_ok, written}
use Rattle.floyd_simplifying.specs.WrittenLists.{default_in}

abbrev pub default_pair : Sort → Sort → Result Plain No
default_pair a b = on_ok (default_in a) (λ x. on_ok (default_in b) (λ y. written (two Pair x y)))

-- the default of a list's items, by the head of the term that ends it
abbrev pub default_by : Head → Plain → Result Plain No
default_by (h.Nil s) end = default_in s
default_by head end = Ok end
