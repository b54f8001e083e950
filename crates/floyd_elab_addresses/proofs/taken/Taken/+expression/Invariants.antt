use Rattle.std.proofs.Common.{◌≡◌, ℕ, ◌||◌, List, drop}
use Rattle.std.specs.List.{list_any}
use Rattle.floyd_elab_addresses.specs.Addresses.{in_expression}
use Rattle.floyd_elab_addresses.specs.SetClauses.{is_among}
use Rattle.floyd_elab_addresses.proofs.taken.Taken.+expression.Given as goal

abbrev pub invariant-arguments-arguments : goal.invariant-arguments-arguments
invariant-arguments-arguments l =
    (x : List ℕ)
    → (list_any (in_expression x) (drop l.argument-index l.arguments) || is_among l.self x) ≡ (list_any (in_expression x) l.arguments || is_among l.initial.self x)
