-- Fingerprints, and the summary of the variables of a term. Equal trees have equal ones; no more is claimed of them.
use Rattle.std.specs.Prelude.{ℕ, bit_or}
use Rattle.floyd_tree_sorts.specs.Prints.{blend, head_print, head_summary}
use Rattle.floyd_tree.specs.Plain.{Plain, Plains, At, Done, More}

abbrev mutual
  pub print : Plain → ℕ
  print (At head kids) = prints_from (head_print head) kids

  pub prints_from : ℕ → Plains → ℕ
  prints_from so_far Done = so_far
  prints_from so_far (More t ts) = prints_from (blend so_far (print t)) ts

-- the bits of all variables that occur
abbrev mutual
  pub summary : Plain → ℕ
  summary (At head kids) = summaries_from (head_summary head) kids

  pub summaries_from : ℕ → Plains → ℕ
  summaries_from so_far Done = so_far
  summaries_from so_far (More t ts) = summaries_from (bit_or so_far (summary t)) ts
