use Rattle.std.proofs.Common.{◌≡◌, ◌+◌, drop}
use Rattle.floyd_symexpr_paths.specs.Locating.{found_from}
use Rattle.floyd_symexpr_paths.proofs.search.first_found.Given as goal

abbrev pub invariant-parts : goal.invariant-parts
invariant-parts l = found_from l.search.structs.now l.search.root.now l.search.last.now l.form (l.i + 1) (drop l.i l.search.parts.now) ≡ found_from l.search.structs.now l.search.root.now l.search.last.now l.form 1 l.search.parts.now
