use Rattle.floyd_goal_parts.specs.Sources.{part_number}
use Rattle.floyd_entail.specs.Reroot.{rerooted}
use Rattle.floyd_entail_soundness.proofs.InPlace.{in_place_sound}
use Rattle.floyd_entail_soundness.proofs.Replacing.{reroot_keeps}
use Rattle.floyd_entail_soundness.proofs.laws.reroot_is_sound.Goals as goal

pub returns : goal.returns
returns c = λ defs specs n g args goals formed asks row h. in_place_sound defs specs n g (part_number args.target) (rerooted defs.structs) goals formed (reroot_keeps defs specs) row h
