use Rattle.std.proofs.Common.{◌≡◌, [], length}
use Rattle.floyd_specread_trees.specs.Views.{functions_with}
use Rattle.floyd_link_modules.proofs.modules.functions_of.Given as goal

abbrev pub decreases-declarations : goal.decreases-declarations
decreases-declarations l = length l.rest

abbrev pub invariant-declarations : goal.invariant-declarations
invariant-declarations l = functions_with l.main_pre l.rest l.table ≡ functions_with l.main_pre l.declarations []
