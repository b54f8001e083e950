-- How deep a written tree is: grouping goes down this number.
use Rattle.std.specs.Prelude.{ℕ, ◌+◌, max, List, [], ◌∷◌}
use Rattle.floyd_termread_trees.specs.declared.written.Link.{Link}
use Rattle.floyd_termread_trees.specs.declared.written.Written as w

abbrev mutual
  pub height : w.Written → ℕ
  height w.Missing = 0
  height (w.Literal value place) = 0
  height (w.Name name) = 0
  height (w.Word word place) = 0
  height (w.Struct place tag) = 0
  height (w.Field place name) = 0
  height (w.Bracket' opening place shape items close) = heights items + 1
  height (w.Prefixed' prefixes p (w.more_of-Written x w.end_of-Written)) = height x + 1
  height (w.Chain' p (w.more_of-Written x w.end_of-Written) shape links) = max (height x) (link_heights links) + 1

  pub heights : {m : _} → w.Row_of-Written m → ℕ
  heights w.end_of-Written = 0
  heights (w.more_of-Written x xs) = max (height x) (heights xs)

  pub link_heights : {m : _} → w.Row_of-Link m → ℕ
  link_heights w.end_of-Link = 0
  link_heights (w.more_of-Link op place x rest) = max (height x) (link_heights rest)

-- the same of lists
abbrev pub highest : List w.Written → ℕ
highest [] = 0
highest (x ∷ xs) = max (height x) (highest xs)

abbrev pub highest_link : List Link → ℕ
highest_link [] = 0
highest_link (x ∷ xs) = max (height x.operand) (highest_link xs)
