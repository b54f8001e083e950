use Rattle.std.proofs.Common.{◌∷◌}
use Rattle.floyd_clight_machine.specs.Exits.{Part, Whole}
use Rattle.floyd_clight_machine.specs.Machine.{Kcall}
use Rattle.floyd_clight_runs.proofs.Safety.{bind}
use Rattle.floyd_goal_meaning.specs.Worlds.{world}
use Rattle.floyd_safety_laws.specs.Laws.{ways}
use Rattle.floyd_safety_laws.proofs.laws.sequence.Goals as goal

pub returns-clause-parts : goal.returns-clause-parts
returns-clause-parts c = λ L more place r j n d h env other exits later k s. bind (world L more place) Part j n d h (ways L more place env exits) (ways L more place other later) r tt k s

pub returns-clause-calls : goal.returns-clause-calls
returns-clause-calls c = λ L more place to act r j n d h env other exits later k s. bind (world L more place) Whole j n d h (ways L more place env exits) (ways L more place other later) (Kcall to act ∷ r) tt k s
