use Rattle.std.proofs.Common.{◌≡◌, drop, map}
use Rattle.floyd_predicates.specs.WellFormed.{earliest, pred_refusal}
use Rattle.floyd_predicates.proofs.judging.after_preds.Given as goal

abbrev pub invariant-items : goal.invariant-items
invariant-items l = earliest l.found (map (pred_refusal l.defs l.file) (drop l.i l.defs.preds)) ≡ earliest l.fn.first (map (pred_refusal l.defs l.file) l.defs.preds)
