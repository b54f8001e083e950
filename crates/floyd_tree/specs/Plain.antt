-- Terms as plain trees, their size and height, and the variables that occur in them.
use Rattle.std.specs.Prelude.{ℕ, ◌+◌, max, Bool, false, ◌||◌, List, [], ◌∷◌}
use Rattle.floyd_tree_sorts.specs.declared.heads.Head.{Head}
use Rattle.floyd_tree_sorts.specs.Heads.{is_variable}

mutual
  pub data Plain : Type 0 where
    At : (head : Head) → (kids : Plains) → Plain

  pub data Plains : Type 0 where
    Done : Plains
    More : (first : Plain) → (rest : Plains) → Plains

abbrev pub plains : List Plain → Plains
plains [] = Done
plains (t ∷ ts) = More t (plains ts)

abbrev pub listed : Plains → List Plain
listed Done = []
listed (More t ts) = t ∷ listed ts

abbrev pub head_of : Plain → Head
head_of (At head kids) = head

abbrev pub kids_of : Plain → List Plain
kids_of (At head kids) = listed kids

-- the number of nodes
abbrev mutual
  pub size : Plain → ℕ
  size (At head kids) = sizes kids + 1

  pub sizes : Plains → ℕ
  sizes Done = 0
  sizes (More t ts) = size t + sizes ts

-- the number of nodes on the longest way down
abbrev mutual
  pub height : Plain → ℕ
  height (At head kids) = heights kids + 1

  pub heights : Plains → ℕ
  heights Done = 0
  heights (More t ts) = max (height t) (heights ts)

-- whether the variable occurs
abbrev mutual
  pub mentions : List ℕ → Plain → Bool
  mentions x (At head kids) = is_variable x head || mentions_in x kids

  pub mentions_in : List ℕ → Plains → Bool
  mentions_in x Done = false
  mentions_in x (More t ts) = mentions x t || mentions_in x ts
