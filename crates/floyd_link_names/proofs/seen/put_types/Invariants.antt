use Rattle.std.proofs.Common.{◌≡◌, length}
use Rattle.floyd_link_names.specs.Tables.{with_types}
use Rattle.floyd_link_names.proofs.seen.put_types.Given as goal

abbrev pub decreases-entries : goal.decreases-entries
decreases-entries l = length l.rest

abbrev pub invariant-entries : goal.invariant-entries
invariant-entries l = with_types l.rest l.table ≡ with_types l.entries l.initial.table
