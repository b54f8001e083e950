use Rattle.std.proofs.Common.{◌≡◌, ◌++◌, drop}
use Rattle.floyd_links.specs.Imports.{equations}
use Rattle.floyd_import_starts.proofs.instances.equations_of.Given as goal

abbrev pub invariant-terms : goal.invariant-terms
invariant-terms g l = l.all ++ equations (drop l.i l.left) (drop l.i l.right) ≡ equations l.left l.right
