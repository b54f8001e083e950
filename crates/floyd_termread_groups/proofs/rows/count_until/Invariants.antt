use Rattle.std.proofs.Common.{◌≡◌, ◌+◌, ◌-◌, ◌≤◌, drop, length}
use Rattle.std.specs.List.{prefix_len}
use Rattle.floyd_termread_groups.specs.RowClauses.{is_other}
use Rattle.floyd_termread_groups.proofs.rows.count_until.Given as goal

abbrev pub invariant-each : goal.invariant-each
invariant-each l = record { value : l.count + prefix_len (is_other l.strength) (drop l.count l.links) ≡ prefix_len (is_other l.strength) l.links; within : l.count ≤ length l.links }

abbrev pub decreases-each : goal.decreases-each
decreases-each l = length l.links - l.count
