-- What the parts of `cancel` answer.
use Rattle.std.specs.Prelude.{◌≡◌, ℕ, ◌-◌, nat_le, Bool, not, ◌&&◌, if◌then◌else◌, List, Option, Some, None}
use Rattle.floyd_text.specs.declared.refusal.RuleStop.{RuleStop}
use Rattle.floyd_text.specs.declared.refusal.RuleStop.TheVariants as r
use Rattle.floyd_text.specs.declared.refusal.Shown.{Shown}
use Rattle.floyd_text.specs.declared.refusal.Shown.TheVariants as s
use Rattle.floyd_assert.specs.Removal.{missing}
use Rattle.floyd_assert_trees.specs.declared.sep.Sep.{Sep}
use Rattle.floyd_entail_cancel.specs.Cancel.{is_anything, number_among}

abbrev pub part_shown : Shown → Option ℕ
part_shown (s.Part k) = Some k
part_shown shown = None

-- the number of the part that a refusal shows
abbrev pub shown_part : RuleStop → Option ℕ
shown_part (r.No why) = part_shown why.shown
shown_part r.Memory = None

-- the refusal of the part of that number, unless memory ran out
abbrev pub IsMissing : RuleStop → ℕ → Type 0
IsMissing (r.No why) k = why ≡ missing k
IsMissing r.Memory k = Unit {0}

-- the refusal of a part by its number among these parts but TT is one by its number among all of them
abbrev pub Renumbers : List Sep → RuleStop → RuleStop → Type 0
Renumbers target (r.No why) other = (n : ℕ) → why ≡ missing n → IsMissing other (number_among target n)
Renumbers target r.Memory other = other ≡ r.Memory

-- the part is the one of that number among those but TT
abbrev pub is_here : Sep → ℕ → Bool
is_here p k = not (is_anything p) && nat_le k 1

-- the number behind the part
abbrev pub number_behind : Sep → ℕ → ℕ
number_behind p k = if is_anything p then k else k - 1
