-- What the marks of a difference stand for.
use Rattle.std.specs.Prelude.{◌≡◌, ℕ, Bool, true, false, List, [], ◌∷◌}
use Rattle.floyd_text.specs.declared.refusal.RuleStop.{RuleStop}
use Rattle.floyd_text.specs.declared.refusal.RuleStop.TheVariants as stop
use Rattle.floyd_assert_trees.specs.declared.sep.Sep.{Sep}
use Rattle.floyd_assert.specs.Removal.{missing}

-- the parts that are not marked as taken
abbrev pub left : List Sep → List Bool → List Sep
left [] taken = []
left (p ∷ parts) [] = p ∷ left parts []
left (p ∷ parts) (true ∷ taken) = left parts taken
left (p ∷ parts) (false ∷ taken) = p ∷ left parts taken

-- the refusal of the part of that number, unless memory ran out
abbrev pub Misses : RuleStop → ℕ → Type 0
Misses (stop.No why) k = why ≡ missing k
Misses stop.Memory k = Unit {0}
