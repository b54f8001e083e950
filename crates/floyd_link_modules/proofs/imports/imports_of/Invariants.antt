use Rattle.std.proofs.Common.{◌≡◌, ◌++◌, length}
use Rattle.floyd_link_modules.specs.Modules.{imports_of}
use Rattle.floyd_link_modules.proofs.imports.imports_of.Given as goal

abbrev pub decreases-declarations : goal.decreases-declarations
decreases-declarations l = length l.rest

abbrev pub invariant-declarations : goal.invariant-declarations
invariant-declarations l = l.all ++ imports_of l.rest ≡ imports_of l.declarations
