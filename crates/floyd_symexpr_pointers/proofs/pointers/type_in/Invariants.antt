use Rattle.std.proofs.Common.{◌≡◌, drop}
use Rattle.floyd_symexpr_pointers.specs.PointerRows.{type_in}
use Rattle.floyd_symexpr_pointers.proofs.pointers.type_in.Given as goal

abbrev pub invariant-parts : goal.invariant-parts
invariant-parts l = type_in (drop l.part-index l.parts) l.root ≡ type_in l.parts l.root
