-- One step of the sum of a certificate.
use Rattle.std.proofs.Common.{◌≡◌, ℕ, zero, suc, ◌+◌, ◌<◌, List, [], ◌∷◌, length, drop, get_or, add-one, Some, arith}
use Rattle.std.specs.Prelude.{option_and_then}
use Rattle.floyd_tree.specs.declared.weights.Weight.{Weight}
use Rattle.floyd_tree.specs.Formulas.{PlainFormula}
use Rattle.floyd_arith.specs.declared.unknowns.Linear.{Linear}
use Rattle.floyd_arith.specs.Certificates.{difference_at, onto, summed}

module _ (hypotheses : List PlainFormula) (target : PlainFormula) (sum next : Linear) where
  -- what the weight adds to the sum is the next sum
  abbrev Adds : Weight → Type 0
  Adds w = option_and_then (onto sum w.weight) (difference_at hypotheses target w.hypothesis) ≡ Some next

  at_place : (weights : List Weight) (i : ℕ) (d : Weight) → i < length weights → Adds (get_or weights i d) → summed hypotheses target next (drop (suc i) weights) ≡ summed hypotheses target sum (drop i weights)
  at_place [] i d h e = absurd (omega arith)
  at_place (w ∷ weights) zero d h e = rw e
  at_place (w ∷ weights) (suc i) d h e = at_place weights i d (omega arith) e

  pub next_sum : (weights : List Weight) (i : ℕ) (d : Weight) → i < length weights → Adds (get_or weights i d) → summed hypotheses target next (drop (i + 1) weights) ≡ summed hypotheses target sum (drop i weights)
  next_sum weights i d h e = rw add-one (at_place weights i d h e)
