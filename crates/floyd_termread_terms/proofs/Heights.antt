-- How deep trees are, as the program has them: judging goes down this number.
use Rattle.std.proofs.Common.{◌≡◌, ℕ, ◌+◌, max, List, [], ◌∷◌, Option, refl, ap, sym, ◌∙◌}
use denote.Hole.Carrier.{hidden}
use Rattle.floyd_text.specs.declared.place.Place.{Place}
use Rattle.floyd_termread_trees.specs.declared.written.Opening.{Opening}
use Rattle.floyd_termread_trees.specs.declared.written.Prefix.{Prefix}
use Rattle.floyd_termread_groups.specs.declared.grouped.Grouped as g
use Rattle.floyd_termread_groups.specs.declared.grouped.Grouped.TheBlock as b
use Rattle.floyd_termread_groups.specs.declared.grouped.GroupedLink.{GroupedLink}
use Rattle.floyd_termread_groups.specs.declared.grouped.Strength.{Strength}

abbrev mutual
  pub height : g.Grouped → ℕ
  height g.Missing = 0
  height (g.Literal minus n place) = 0
  height (g.Name i) = 0
  height (g.Word x place) = 0
  height (g.Struct place tag) = 0
  height (g.Field place i) = 0
  height (g.Bracket' opening place shape items close) = heights items + 1
  height (g.Prefixed' ps p (g.more_of-Grouped operand g.end_of-Grouped)) = height operand + 1
  height (g.Row' strength p (g.more_of-Grouped first g.end_of-Grouped) shape links) = max (height first) (link_heights links) + 1

  heights : {n : _} → g.Row_of-Grouped n → ℕ
  heights g.end_of-Grouped = 0
  heights (g.more_of-Grouped x rest) = max (height x) (heights rest)

  link_heights : {n : _} → g.Row_of-GroupedLink n → ℕ
  link_heights g.end_of-GroupedLink = 0
  link_heights (g.more_of-GroupedLink op place x rest) = max (height x) (link_heights rest)

abbrev pub highest : List g.Grouped → ℕ
highest [] = 0
highest (x ∷ xs) = max (height x) (highest xs)

abbrev pub highest_link : List GroupedLink → ℕ
highest_link [] = 0
highest_link (x ∷ xs) = max (height x.operand) (highest_link xs)

heights_items : {n : _} (row : g.Row_of-Grouped n) → heights row ≡ highest (b.items-the_row-Grouped n row)
heights_items g.end_of-Grouped = refl
heights_items (g.more_of-Grouped x rest) = ap (λ k. max (height x) k) (heights_items rest)

links_items : {n : _} (row : b.Row_of-GroupedLink n) → link_heights row ≡ highest_link (b.items-the_row-GroupedLink n row)
links_items b.end_of-GroupedLink = refl
links_items (b.more_of-GroupedLink op place x rest) = ap (λ k. max (height x) k) (links_items rest)

pub height_bracket : (opening : Opening) (place : Place) (items : List g.Grouped) (close : Option Place) → height (g.Bracket opening place items close) ≡ highest items + 1
height_bracket opening place items close = ap (λ k. k + 1) (heights_items (b.hidden-the_row-Grouped-0 items) ∙ ap highest (b.items_hidden-the_row-Grouped-0 items))

pub height_prefixed : (ps : List Prefix) (operand : g.Grouped) → height (g.Prefixed ps operand) ≡ height operand + 1
unfolding b.hidden-the_row-Grouped-1 hidden
height_prefixed ps operand = refl

pub height_row : (strength : Strength) (first : g.Grouped) (links : List GroupedLink) → height (g.Row strength first links) ≡ max (height first) (highest_link links) + 1
unfolding b.hidden-the_row-Grouped-1 hidden
height_row strength first links = ap (λ k. max (height first) k + 1) (links_items (b.hidden-the_row-GroupedLink-2 links) ∙ ap highest_link (b.items_hidden-the_row-GroupedLink-2 links))

-- what stands in a bracket is lower
pub bracket_height : (tree : g.Grouped) (opening : Opening) (place : Place) (items its : List g.Grouped) (close : Option Place) → tree ≡ g.Bracket opening place items close → its ≡ items → height tree ≡ highest its + 1
bracket_height tree opening place items its close is h = ap height is ∙ height_bracket opening place items close ∙ ap (λ (xs : List g.Grouped). highest xs + 1) (sym h)
