-- The difference of two lists of parts.
use Rattle.std.specs.Prelude.{◌≡◌, ◌⊎◌, ℕ, ◌+◌, List, [], ◌∷◌, All, Result, Ok, Err}
use Rattle.floyd_text.specs.declared.code.Code.TheVariants.{PartMissing}
use Rattle.floyd_text.specs.declared.refusal.No.{No}
use Rattle.floyd_text.specs.declared.refusal.RuleStop.{RuleStop}
use Rattle.floyd_text.specs.declared.refusal.RuleStop.TheVariants as stop
use Rattle.floyd_text.specs.declared.refusal.Shown.TheVariants.{Part}
use Rattle.floyd_assert_trees.specs.declared.sep.Sep.{Sep}

-- the rest is what is left of the parts once the first one that is equal to p is taken out
abbrev pub Without : Sep → List Sep → List Sep → Type 0
Without p [] rest = ⊥
Without p (q ∷ parts) rest = ((q ≡ p) × (rest ≡ parts)) ⊎ (¬ (q ≡ p) × ((more : List Sep) × Without p parts more × (rest ≡ q ∷ more)))

-- none of the parts is equal to p
abbrev pub Lacks : Sep → List Sep → Type 0
Lacks p parts = All (λ q. ¬ (q ≡ p)) parts

-- the refusal of the part of that number, which is not there
abbrev pub missing : ℕ → No
missing k = record { code = PartMissing; shown = Part k }

-- The answer is what is left of the parts once each of those that are to go is taken out, one after the other, or the
-- number of the first one that is not there. `k` is the number of the first that is to go.
abbrev pub Difference : List Sep → ℕ → List Sep → Result (List Sep) No → Type 0
Difference parts k [] answer = answer ≡ Ok parts
Difference parts k (p ∷ gone) answer =
    ((rest : List Sep) × Without p parts rest × Difference rest (k + 1) gone answer)
    ⊎ (Lacks p parts × (answer ≡ Err (missing k)))

-- what was answered is the difference, unless memory ran out
abbrev pub GivesDifference : Result (List Sep) RuleStop → List Sep → List Sep → Type 0
GivesDifference (Ok rest) parts gone = Difference parts 1 gone (Ok rest)
GivesDifference (Err (stop.No why)) parts gone = Difference parts 1 gone (Err why)
GivesDifference (Err stop.Memory) parts gone = Unit {0}
