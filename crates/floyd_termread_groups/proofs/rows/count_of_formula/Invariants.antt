use Rattle.std.proofs.Common.{◌≡◌, ◌+◌, ◌-◌, ◌≤◌, drop, length}
use Rattle.std.specs.List.{prefix_len}
use Rattle.floyd_termread_groups.specs.Groups.{is_of_formula}
use Rattle.floyd_termread_groups.proofs.rows.count_of_formula.Given as goal

abbrev pub invariant-each : goal.invariant-each
invariant-each l = record { value : l.count + prefix_len is_of_formula (drop l.count l.prefixes) ≡ prefix_len is_of_formula l.prefixes; within : l.count ≤ length l.prefixes }

abbrev pub decreases-each : goal.decreases-each
decreases-each l = length l.prefixes - l.count
