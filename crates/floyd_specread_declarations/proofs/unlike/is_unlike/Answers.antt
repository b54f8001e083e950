use Rattle.std.proofs.Common.{sym}
use Rattle.floyd_specread_declarations.specs.Judging.{prototype_with}
use Rattle.floyd_specread_declarations.proofs.UnlikeLemmas.{unlike_some}
use Rattle.floyd_specread_declarations.proofs.unlike.is_unlike.Goals as goal

pub returns-in-Some : goal.returns-in-Some
returns-in-Some c = unlike_some c.args.functions.now c.args.name.now (prototype_with c.args.params.now c.args.ty.now) c.in-Some.types.now c.is_same.result (sym c.in-Some.ensures) c.is_same.ensures
