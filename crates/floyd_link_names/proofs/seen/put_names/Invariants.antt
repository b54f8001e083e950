use Rattle.std.proofs.Common.{◌≡◌, length}
use Rattle.floyd_link_names.specs.Tables.{with_names}
use Rattle.floyd_link_names.proofs.seen.put_names.Given as goal

abbrev pub decreases-entries : goal.decreases-entries
decreases-entries l = length l.rest

abbrev pub invariant-entries : goal.invariant-entries
invariant-entries l = with_names l.rest l.table ≡ with_names l.entries l.initial.table
