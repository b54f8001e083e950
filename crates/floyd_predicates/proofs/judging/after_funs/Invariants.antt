use Rattle.std.proofs.Common.{◌≡◌, drop, map}
use Rattle.floyd_predicates.specs.WellFormed.{earliest, fun_refusal}
use Rattle.floyd_predicates.proofs.judging.after_funs.Given as goal

abbrev pub invariant-items : goal.invariant-items
invariant-items l = earliest l.found (map (fun_refusal l.defs l.file) (drop l.i l.defs.funs)) ≡ earliest l.fn.first (map (fun_refusal l.defs l.file) l.defs.funs)
