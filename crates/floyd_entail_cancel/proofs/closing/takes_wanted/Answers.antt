use Rattle.std.proofs.Common.{Ok, Err, rules}
use Rattle.floyd_assert.specs.Removal.{Difference, GivesDifference}
use Rattle.floyd_entail_cancel.specs.Cancel.{solid}
use Rattle.floyd_entail_cancel.specs.CancelClauses.{Renumbers}
use Rattle.floyd_entail_cancel.proofs.CancelLemmas.{rest_goes, stop_goes}
use Rattle.floyd_entail_cancel.proofs.closing.takes_wanted.Goals as goal

pub returns-in-Ok : goal.returns-in-Ok
returns-in-Ok g c =
    let left : Difference c.args.entail.now.source.parts 1 (solid c.args.entail.now.target.parts) (Ok c.in-Ok.rest) = search rules in
    record { exact = rest_goes c.args.entail.now c.in-Ok.rest c.leaves_none.result left c.leaves_none.ensures.exact }

pub returns-in-Err : goal.returns-in-Err
returns-in-Err g c =
    let stops : GivesDifference (Err c.in-Err.stop) c.args.entail.now.source.parts (solid c.args.entail.now.target.parts) = search rules in
    let other : Renumbers c.args.entail.now.target.parts c.in-Err.stop c.missing_among.result = search rules in
    record { exact = stop_goes c.args.entail.now c.in-Err.stop c.missing_among.result stops other }
