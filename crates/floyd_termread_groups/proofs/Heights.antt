-- How deep written trees are, as the program has them.
use Rattle.std.proofs.Common.{◌≡◌, ℕ, ◌+◌, ◌≤◌, max, List, [], ◌∷◌, take, refl, ap, ◌∙◌, arith, Option}
use Rattle.std.specs.Prelude.{zero, suc}
use denote.Hole.Carrier.{hidden}
use Rattle.floyd_text.specs.declared.place.Place.{Place}
use Rattle.floyd_termread_trees.specs.declared.written.Link.{Link}
use Rattle.floyd_termread_trees.specs.declared.written.Opening.{Opening}
use Rattle.floyd_termread_trees.specs.declared.written.Prefix.{Prefix}
use Rattle.floyd_termread_trees.specs.declared.written.Written as w
use Rattle.floyd_termread_trees.specs.declared.written.Written.TheBlock.{hidden-the_row-Written-0, items_hidden-the_row-Written-0, shape-the_row-Written-1, hidden-the_row-Written-1, hidden-the_row-Link-2, items_hidden-the_row-Link-2}
use Rattle.floyd_termread_groups.specs.HeightClauses.{height, heights, link_heights, highest, highest_link}

heights_items : {m : _} (row : w.Row_of-Written m) → heights row ≡ highest (w.items-the_row-Written m row)
heights_items w.end_of-Written = refl
heights_items (w.more_of-Written x rest) = ap (λ n. max (height x) n) (heights_items rest)

links_items : {m : _} (row : w.Row_of-Link m) → link_heights row ≡ highest_link (w.items-the_row-Link m row)
links_items w.end_of-Link = refl
links_items (w.more_of-Link op place x rest) = ap (λ n. max (height x) n) (links_items rest)

pub height_chain : (x : w.Written) (links : List Link) → height (w.Chain x links) ≡ max (height x) (highest_link links) + 1
unfolding shape-the_row-Written-1 hidden-the_row-Written-1 hidden
height_chain x links = ap (λ n. max (height x) n + 1) (links_items (hidden-the_row-Link-2 links) ∙ ap highest_link (items_hidden-the_row-Link-2 links))

pub height_prefixed : (prefixes : List Prefix) (x : w.Written) → height (w.Prefixed prefixes x) ≡ height x + 1
unfolding shape-the_row-Written-1 hidden-the_row-Written-1 hidden
height_prefixed prefixes x = refl

pub height_bracket : (opening : Opening) (place : Place) (items : List w.Written) (close : Option Place) → height (w.Bracket opening place items close) ≡ highest items + 1
height_bracket opening place items close = ap (λ n. n + 1) (heights_items (hidden-the_row-Written-0 items) ∙ ap highest (items_hidden-the_row-Written-0 items))

-- no part is higher
pub taken_link : (n : ℕ) (xs : List Link) → highest_link (take n xs) ≤ highest_link xs
taken_link zero xs = let e : highest_link (take zero xs) ≡ 0 = refl in omega (arith, e)
taken_link (suc n) [] = let e : highest_link (take (suc n) []) ≡ 0 = refl in omega (arith, e)
taken_link (suc n) (x ∷ xs) =
    let e : highest_link (take (suc n) (x ∷ xs)) ≡ max (height x.operand) (highest_link (take n xs)) = refl in
    let f : highest_link (x ∷ xs) ≡ max (height x.operand) (highest_link xs) = refl in
    omega (arith, e, f, taken_link n xs)
