use Rattle.floyd_goal_parts.specs.Sources.{part_number}
use Rattle.floyd_arrays_structs.specs.SplitStruct.{split}
use Rattle.floyd_entail_soundness.proofs.InPlace.{in_place_sound}
use Rattle.floyd_structs_soundness.proofs.SplittingStructs.{split_keeps}
use Rattle.floyd_structs_soundness.proofs.laws.split_struct_is_sound.Goals as goal

pub returns : goal.returns
returns c = λ defs specs n g args goals formed asks row h. in_place_sound defs specs n g (part_number args.target) (split defs.structs) goals formed (split_keeps defs specs asks) row h
