use Rattle.std.proofs.Common.{◌≡◌, take}
use Rattle.floyd_specread_declarations.proofs.typed.share_types.Given as goal

abbrev pub invariant-types : goal.invariant-types
invariant-types l = l.all ≡ take l.ty-index l.types
