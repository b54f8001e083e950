use Rattle.std.proofs.Common.{◌≡◌, ◌+◌, ◌++◌, length}
use Rattle.floyd_link_modules.specs.Modules.{modules_from, program_names}
use Rattle.floyd_link_modules.proofs.modules.linked_modules.Given as goal

abbrev pub decreases-modules : goal.decreases-modules
decreases-modules l = length l.rest

abbrev pub invariant-modules : goal.invariant-modules
invariant-modules l = (l.all ++ modules_from l.ground.structs.now (program_names l.ground.variables.now l.ground.functions.now) l.ground.main_pre.now l.home l.rest ≡ modules_from l.ground.structs.now (program_names l.ground.variables.now l.ground.functions.now) l.ground.main_pre.now 0 l.modules) × (l.home + length l.rest ≡ length l.modules)
