use Rattle.std.proofs.Common.{◌≡◌, ◌++◌, drop}
use Rattle.std.specs.List.{flat_map}
use Rattle.floyd_predicates.specs.Calls.{part_calls}
use Rattle.floyd_predicates.proofs.pred_calls.add_parts_calls.Given as goal

abbrev pub invariant-sep : goal.invariant-sep
invariant-sep l = l.all.items ++ flat_map (part_calls l.own l.parts) (drop l.part-index l.sep) ≡ l.initial.all.items ++ flat_map (part_calls l.own l.parts) l.sep
