-- What a node of a term keeps beside its head and kids.
use Rattle.std.specs.Prelude.{◌≡◌, ◌+◌, ◌≤◌, Some, List, [], ◌∷◌}
use Rattle.std.proofs.Common.{arith}
use denote.Param.Weighed.{most}
use Rattle.floyd_tree.specs.declared.term.TermNode.{TermNode}
use Rattle.floyd_tree.specs.Plain.{Plain, At, plains, size, height, heights}
use Rattle.floyd_tree.specs.Prints.{print, summary}
use Rattle.floyd_tree.specs.WellSorted.{sort_of}

abbrev pub plain : TermNode → Plain
plain a = At a.head (plains a.kids)

pub record IsStored (a : TermNode) : Type 0 where
  pub sort : sort_of (plain a) ≡ Some a.sort
  pub size : a.size ≡ size (plain a)
  pub height : a.height ≡ height (plain a)
  pub small : a.size ≤ 65536
  pub low : a.height ≤ 256
  pub print : a.print ≡ print (plain a)
  pub summary : a.summary ≡ summary (plain a)

-- no kid is as high as the tree
pub most_heights : (kids : List Plain) → most (λ k. height k + 1) kids ≤ heights (plains kids) + 1
most_heights [] = omega arith
most_heights (k ∷ ks) = omega (arith, most_heights ks)
