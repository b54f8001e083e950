use Rattle.std.proofs.Common.{length}
use Rattle.tests_addresses.proofs.rows.digits.Given as goal

abbrev pub decreases-flags : goal.decreases-flags
decreases-flags l = length l.flags
