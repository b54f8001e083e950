use Rattle.std.proofs.Common.{◌≡◌, ◌+◌, ◌*◌, nat_le, drop}
use Rattle.floyd_elab_names.specs.ListClauses.{most_nesting}
use Rattle.floyd_elab_names.proofs.limits.+nested.Given as goal

abbrev pub invariant-all_nested_within-types : goal.invariant-all_nested_within-types
invariant-all_nested_within-types l = nat_le (most_nesting (drop l.t-index l.types)) l.limit ≡ nat_le (most_nesting l.types) l.limit

abbrev pub decreases-is_nested_within : goal.decreases-is_nested_within
decreases-is_nested_within l = 3 * l.limit

abbrev pub decreases-all_nested_within : goal.decreases-all_nested_within
decreases-all_nested_within l = 3 * l.limit + 1

abbrev pub decreases-are_nested_within : goal.decreases-are_nested_within
decreases-are_nested_within l = 3 * l.limit + 2
