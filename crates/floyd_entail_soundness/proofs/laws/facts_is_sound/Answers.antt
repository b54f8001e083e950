use Rattle.floyd_goal_parts.specs.Sources.{part_number}
use Rattle.floyd_entail_soundness.proofs.Stating.{facts_sound}
use Rattle.floyd_entail_soundness.proofs.laws.facts_is_sound.Goals as goal

pub returns : goal.returns
returns c = λ defs specs n g args goals formed asks row h. facts_sound defs specs n g (part_number args.target) goals formed row h
