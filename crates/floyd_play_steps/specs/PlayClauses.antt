-- The refusal of start goals, at the proof's name.
use Rattle.floyd_text.specs.declared.code.Code.TheVariants.{GoalsTooLarge}
use Rattle.floyd_text.specs.declared.place.Place.{Place}
use Rattle.floyd_text.specs.declared.refusal.Halt.{Halt}
use Rattle.floyd_text.specs.declared.refusal.Halt.TheVariants.{Refused, Memory}
use Rattle.floyd_text.specs.declared.refusal.RuleStop as r
use Rattle.floyd_text.specs.declared.refusal.Shown.TheVariants.{Nothing}
use Rattle.floyd_text.specs.Refusals.{refusal_at}

abbrev pub start_halt : Place → r.RuleStop → Halt
start_halt place (r.TheVariants.No why) = Refused (refusal_at GoalsTooLarge place Nothing)
start_halt place r.TheVariants.Memory = Memory
