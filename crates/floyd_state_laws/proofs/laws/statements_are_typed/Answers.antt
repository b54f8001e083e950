use Rattle.std.proofs.Common.{subst}
use Rattle.floyd_clight_typing.specs.Bodies.{names_in}
use Rattle.floyd_state_laws.proofs.Statements.{AreTyped, flat_typed, part_typed}
use Rattle.floyd_state_laws.proofs.laws.statements_are_typed.Goals as goal

pub returns : goal.returns
returns c = λ defs specs run fits s rest e.
    let names = names_in fits.statements.file fits.statements.function in
    let result = fits.statements.function.result in
    (subst (AreTyped defs.structs names result) e (part_typed defs.structs names result fits.statements.part (flat_typed defs.structs names result fits.statements.function.body fits.statements.body.typed))).0
