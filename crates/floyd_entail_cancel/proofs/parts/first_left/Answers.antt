use Rattle.std.proofs.Common.{refl}
use Rattle.floyd_entail_cancel.proofs.CancelLemmas.{all_gone, missing_told}
use Rattle.floyd_entail_cancel.proofs.parts.first_left.Goals as goal

pub unreachable-requires : goal.unreachable-requires
unreachable-requires c = all_gone c.args.source.now c.args.target.now c.in-Ok.field-0 c.in-Ok.ensures.exact c.requires

pub returns-in-Some : goal.returns-in-Some
returns-in-Some c =
    (c.in-Some.number, missing_told c.in-Err.stop c.args.target.now c.args.source.now c.in-Some.number c.in-Err.ensures.exact c.in-Some.ensures, refl)
